-- What directives of images say: the version, read-only data, limits, entries and registers.
use Rattle.std.specs.List.{list_any}
use Rattle.std.specs.Prelude.{Option, Some, None, ℕ, ◌+◌, ◌-◌, ◌%◌, ◌==◌, nat_le, [], ◌∷◌, ◌++◌, length, if◌then◌else◌}
use Rattle.std.specs.Prelude.{Bool, false, nat_lt, not, ◌*◌, ◌/◌, slice_set, ◌&&◌}
use Rattle.svc_rv32i.specs.declared.instr.Register.{Register}
use Rattle.svc_image.specs.Version.{version_number}
use Rattle.svc_image.specs.declared.version.Version.{Version}
use Rattle.svc_layout.specs.declared.section.Section.{Section}
use Rattle.svc_layout.specs.Options.{◌>>=◌}
use Rattle.svc_layout.specs.Layouts.{Layout}
use Rattle.svc_layout.specs.declared.section.Section.TheVariants as section
use Rattle.svc_image.specs.declared.version.Version.TheVariants as version

-- another version is said than this one
abbrev pub has_other : Version → Option Version → Bool
has_other v None = false
has_other v (Some said) = not (version_number said == version_number v)

-- the version, of which a program has one
unfoldable pub with_version : Version → Layout → Option Layout
with_version v d = if has_other v d.version then None else Some (record d { version = Some v })

-- how many bytes the image's data has up to the end of a section so far; the text stands for .data
abbrev pub data_up_to : Section → Layout → ℕ
data_up_to section.Text d = d.data_from + length d.data_bytes
data_up_to section.Rodata d = length d.rodata_bytes
data_up_to section.Data d = d.data_from + length d.data_bytes
data_up_to section.Bss d = d.bss_from + length d.bss_bytes

-- the data up to here is read-only, which only version 2 has, by the word
abbrev pub read_only_up_to : ℕ → Layout → Option Layout
read_only_up_to bytes d = Some (record d { read_only = bytes / 4 })

unfoldable pub with_read_only : Layout → Option Layout
with_read_only d =
    if data_up_to d.section d % 4 == 0 then with_version version.Two d >>= read_only_up_to (data_up_to d.section d)
    else None

-- the limits of turns that a task may have
abbrev pub is_limit : ℕ → Bool
is_limit n = nat_le 1 n && nat_le n 65536

-- the limit of turns of the entries that have none of their own
unfoldable pub with_limit : ℕ → Layout → Option Layout
with_limit n d = if is_limit n then Some (record d { limit = n }) else None

-- whether an entry may stand at the next word of the text: none does, there are fewer than 1,024, and the text isn't
-- full
abbrev pub takes_entry : Layout → Bool
takes_entry d =
    nat_lt (length d.text) 65536
    && (nat_lt (length d.entries) 1024 && not (list_any (λ e. e == 4 * length d.text) d.entries))

-- an entry at the next word of the text; only version 2 gives it a limit of its own
unfoldable pub with_place : Option ℕ → Layout → Option Layout
with_place limit d =
    if takes_entry d
    then Some (record d { entries = d.entries ++ (4 * length d.text ∷ []); limits = d.limits ++ (limit ∷ []) })
    else None

abbrev pub with_own : Option ℕ → Layout → Option Layout
with_own None d = Some d
with_own (Some limit) d = if is_limit limit then with_version version.Two d else None

unfoldable pub with_entry : Option ℕ → Layout → Option Layout
with_entry limit d = with_own limit d >>= with_place limit

unfoldable pub with_register : Register → ℕ → Layout → Option Layout
with_register r n d =
    if r.number == 0 then None else Some (record d { registers = slice_set d.registers (r.number - 1) n })
