-- What an image is made of, and the first fault of some parts.
use Rattle.std.specs.Prelude.{◌≡◌, ℕ, ◌==◌, not, List, [], ◌∷◌, ◌++◌, length, Option, slice_index}
use Rattle.std.specs.List.{list_any}
use Rattle.svc_image.specs.declared.layout.TheConstants.{MOST_ENTRIES, MOST_WORDS}
use Rattle.svc_image.specs.declared.error.ImageError.{ImageError}
use Rattle.svc_image.specs.declared.error.ImageError.TheVariants.{Count, EntryOrder, EntryPlace, Start}
use Rattle.svc_image.specs.declared.parts.Own.{Own}
use Rattle.svc_image.specs.declared.parts.Own.TheVariants as own
use Rattle.svc_image.specs.declared.parts.Parts.{Parts}
use Rattle.svc_image.specs.declared.version.Version.{Version}
use Rattle.svc_image.specs.declared.version.Version.TheVariants as version
use Rattle.svc_image.specs.Version.{read_only_by, limits_by}
use Rattle.svc_image.specs.Image.{Image, AreWords}
use Rattle.svc_image.specs.Format.{Check, first_of, each_of, is_outside, is_own_outside, falls, is_misplaced}

-- the version, the number of the header that depends on it, and the limits that a file of it lists
abbrev pub version_by : Own → Version
version_by (own.One limit) = version.One
version_by (own.Two read_only limits) = version.Two

abbrev pub number_by : Own → ℕ
number_by (own.One limit) = limit
number_by (own.Two read_only limits) = read_only

abbrev pub listed_by : Own → List ℕ
listed_by (own.One limit) = []
listed_by (own.Two read_only limits) = limits.items

-- the image of some parts
abbrev pub image_made : Parts → Image
image_made p = record {
  version = version_by p.own;
  read_only = read_only_by (version_by p.own) (number_by p.own);
  start = p.start;
  registers = p.registers;
  entries = p.entries.items;
  limits = limits_by (version_by p.own) (length p.entries.items) (number_by p.own) (listed_by p.own);
  text = p.text.items;
  words = p.words.items;
}

-- version 2 has a limit for each entry
abbrev pub HasLimits : Parts → Type 0
HasLimits p = length (image_made p).limits ≡ length p.entries.items

-- what the types of the parts say
pub record AreFit (p : Parts) : Type 0 where
  pub registers_all : length p.registers ≡ 31
  pub registers_fit : AreWords p.registers
  pub text_fits : AreWords p.text.items
  pub words_fit : AreWords p.words.items

-- the checks of the counts, and of the number that depends on the version
abbrev pub size_checks : Parts → List Check
size_checks p =
    (is_outside MOST_ENTRIES (length p.entries.items), Count)
    ∷ (is_outside MOST_WORDS (length p.text.items), Count)
    ∷ (is_outside MOST_WORDS (length p.words.items), Count)
    ∷ (is_own_outside (version_by p.own) (length p.words.items) (number_by p.own), Count) ∷ []

-- the checks of the k-th entry: it is above the one before it, and at one of so many words of the text
unfoldable pub place_checks : (entries : List ℕ) (words k : ℕ) → List Check
place_checks entries words k =
    (falls (slice_index entries) k, EntryOrder) ∷ (is_misplaced words (slice_index entries k), EntryPlace) ∷ []

-- the check of the start
unfoldable pub start_checks : (entries : List ℕ) (start : ℕ) → List Check
start_checks entries start = (not (list_any (λ e. e == start) entries), Start) ∷ []

-- the check of the limits that a file lists
unfoldable pub limit_checks : List ℕ → List Check
limit_checks limits = (list_any (is_outside MOST_WORDS) limits, Count) ∷ []

-- the first fault of some parts, in the order of the format
unfoldable pub fault_in : Parts → Option ImageError
fault_in p =
    first_of (size_checks p ++ (each_of (place_checks p.entries.items (length p.text.items)) (length p.entries.items)
    ++ (start_checks p.entries.items p.start ++ limit_checks (listed_by p.own))))
