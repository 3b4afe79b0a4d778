-- The versions of the format, and what in a file depends on its version.
use Rattle.std.specs.Prelude.{ℕ, ◌==◌, ◌||◌, Bool, List, [], if◌then◌else◌, replicate}
use Rattle.svc_image.specs.declared.version.Version.{Version}
use Rattle.svc_image.specs.declared.version.Version.TheVariants as version

-- the number that stands for a version in a file
abbrev pub version_number : Version → ℕ
version_number version.One = 1
version_number version.Two = 2

-- whether a number stands for a version, and for which
abbrev pub is_known : ℕ → Bool
is_known number = (number == 1) || (number == 2)

abbrev pub version_of : ℕ → Version
version_of number = if number == 2 then version.Two else version.One

-- one number of a header depends on the version: version 1 has the limit of every task there, and version 2 the number
-- of read-only words
abbrev pub own_number : Version → (limit read_only : ℕ) → ℕ
own_number version.One limit read_only = limit
own_number version.Two limit read_only = read_only

-- how many words are read-only, by the header's own number
abbrev pub read_only_by : Version → ℕ → ℕ
read_only_by version.One own = 0
read_only_by version.Two own = own

-- the limits that a file lists, one for each entry, in version 2 alone; and how many these are
abbrev pub limit_list : Version → List ℕ → List ℕ
limit_list version.One limits = []
limit_list version.Two limits = limits

abbrev pub listed_count : Version → ℕ → ℕ
listed_count version.One entries = 0
listed_count version.Two entries = entries

-- the limits of so many entries, by the header's own number and the limits that the file lists
abbrev pub limits_by : Version → (entries own : ℕ) → List ℕ → List ℕ
limits_by version.One entries own limits = replicate entries own
limits_by version.Two entries own limits = limits
