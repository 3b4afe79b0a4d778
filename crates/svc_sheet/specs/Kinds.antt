-- The kinds of marks, each made once for a picture.
use Rattle.std.specs.Prelude.{ℕ, ◌+◌, nat_le, cond, List, [], ◌++◌, Option, Some, None, codes}
use Rattle.svc_history_laws.specs.declared.entry.ServedKind.{ServedKind}
use Rattle.svc_history_laws.specs.declared.entry.ServedKind.TheVariants as by
use Rattle.svc_shapes.specs.Shapes.{cross, diamond, kind_close, kind_open, letter_above, letter_within, ring, square}

-- who supplied a read, as a letter
abbrev pub letter_of : Option ServedKind → List ℕ
letter_of None = []
letter_of (Some by.Hit) = codes "H"
letter_of (Some by.Reuse) = codes "R"
letter_of (Some by.Version) = codes "V"
letter_of (Some by.Spill) = codes "S"
letter_of (Some by.Committed) = codes "C"
letter_of (Some by.Memory) = codes "M"

-- it stands in a mark, or above a small one
abbrev pub letter_text : (size : ℕ) → (fill letter : List ℕ) → List ℕ
letter_text size fill letter = cond (nat_le 7 size) (letter_within size fill letter) (letter_above size letter)

-- the kinds that read nothing
unfoldable pub plain_load : (size : ℕ) → List ℕ
plain_load size = kind_open (codes "load") [] ++ ring size ++ kind_close

unfoldable pub plain_store : (size : ℕ) → List ℕ
plain_store size = kind_open (codes "store") [] ++ square size ++ kind_close

unfoldable pub output_kind : (size : ℕ) → List ℕ
output_kind size = kind_open (codes "output") [] ++ diamond (size + 2) ++ kind_close

unfoldable pub replace_kind : (size : ℕ) → List ℕ
replace_kind size = kind_open (codes "replace") [] ++ cross size ++ kind_close

unfoldable pub plain_kinds : (size : ℕ) → List ℕ
plain_kinds size = plain_load size ++ plain_store size ++ output_kind size ++ replace_kind size

-- those of a supplier
unfoldable pub load_kind : (size : ℕ) → (letter : List ℕ) → List ℕ
load_kind size letter =
    kind_open (codes "load") letter ++ ring size ++ letter_text size (codes "#111") letter ++ kind_close

unfoldable pub store_kind : (size : ℕ) → (letter : List ℕ) → List ℕ
store_kind size letter =
    kind_open (codes "store") letter ++ square size ++ letter_text size (codes "#fff") letter ++ kind_close

unfoldable pub kinds_of : (size : ℕ) → Option ServedKind → List ℕ
kinds_of size served = load_kind size (letter_of served) ++ store_kind size (letter_of served)

-- those of all suppliers
unfoldable pub supplied_kinds : (size : ℕ) → List ℕ
supplied_kinds size =
    kinds_of size (Some by.Hit) ++ kinds_of size (Some by.Reuse) ++ kinds_of size (Some by.Version)
    ++ kinds_of size (Some by.Spill) ++ kinds_of size (Some by.Committed) ++ kinds_of size (Some by.Memory)
