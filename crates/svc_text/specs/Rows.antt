-- Rows of numbers.
use Rattle.std.specs.Prelude.{ℕ, List, ◌++◌, codes, decimal, flat_map}

-- a number after a comma
abbrev pub field : ℕ → List ℕ
field n = codes "," ++ decimal n

-- the beginning of a row, and numbers after it
abbrev pub fields : (first numbers : List ℕ) → List ℕ
fields first numbers = first ++ flat_map field numbers

-- a row of these
abbrev pub row : (first numbers : List ℕ) → List ℕ
row first numbers = fields first numbers ++ codes "\n"
