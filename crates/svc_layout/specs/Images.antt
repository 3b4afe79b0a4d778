-- The image that a layout makes.
use Rattle.std.specs.Prelude.{Option, Some, None, ℕ, List, [], ◌∷◌, length, ◌≡◌, ◌/◌, map, unwrap_or}
use Rattle.svc_image.specs.Format.{words_in}
use Rattle.svc_image.specs.Image.{Image}
use Rattle.svc_image.specs.Version.{read_only_by, limits_by}
use Rattle.svc_image.specs.declared.parts.Own.{Own}
use Rattle.svc_image.specs.declared.version.Version.{Version}
use Rattle.svc_layout.specs.Areas.{data_of}
use Rattle.svc_layout.specs.Layouts.{Layout}
use Rattle.svc_image.specs.declared.parts.Own.TheVariants as own
use Rattle.svc_image.specs.declared.version.Version.TheVariants as version

-- the version of a program is 1 where no line says another
abbrev pub version_in : Option Version → Version
version_in None = version.One
version_in (Some v) = v

-- where the first task begins: where it is said, and else at the first entry
abbrev pub first_entry : List ℕ → ℕ
first_entry [] = 0
first_entry (e ∷ es) = e

abbrev pub start_in : Option ℕ → List ℕ → ℕ
start_in (Some n) entries = n
start_in None entries = first_entry entries

-- the limit of each entry
abbrev pub limits_in : ℕ → List (Option ℕ) → List ℕ
limits_in limit own = map (λ o. unwrap_or o limit) own

-- the data of a layout: its sections, one behind the other
abbrev pub data_in : Layout → List ℕ
data_in d = data_of d.data_step d.bss_step d.rodata_bytes d.data_bytes d.bss_bytes

-- what the version of a layout has in its own way
abbrev pub IsOwnOf : Own → Layout → Type 0
IsOwnOf (own.One limit) d = (version_in d.version ≡ version.One) × (limit ≡ d.limit)
IsOwnOf (own.Two read_only limits) d =
    (version_in d.version ≡ version.Two) × (read_only ≡ d.read_only) × (limits.items ≡ limits_in d.limit d.limits)

-- the image that a layout makes
unfoldable pub image_laid : Layout → Image
image_laid d = record {
  version = version_in d.version;
  read_only = read_only_by (version_in d.version) d.read_only;
  start = start_in d.start d.entries;
  registers = d.registers;
  entries = d.entries;
  limits = limits_by (version_in d.version) (length d.entries) d.limit (limits_in d.limit d.limits);
  text = d.text;
  words = words_in (length (data_in d) / 4) (data_in d);
}

abbrev pub IsMadeOf : Layout → Image → Type 0
IsMadeOf d img = img ≡ image_laid d
