-- Lines of fields.
use Rattle.std.specs.Prelude.{ℕ, List, [], ◌∷◌, ◌++◌, false, ◌≡◌}
use Rattle.std.specs.List.{list_any}
use Rattle.csv.specs.Writing.{default_writer, needs_byte}

-- fields with commas between them
unfoldable pub joined : List (List ℕ) → List ℕ
joined [] = []
joined (field ∷ []) = field
joined (field ∷ next ∷ rest) = field ++ (44 ∷ joined (next ∷ rest))

-- a line is its fields with commas between them, ended by a line feed
abbrev pub line : List (List ℕ) → List ℕ
line fields = joined fields ++ (10 ∷ [])

-- no byte of the field calls for quotes
abbrev pub IsPlain : List ℕ → Type 0
IsPlain field = list_any (needs_byte default_writer) field ≡ false
