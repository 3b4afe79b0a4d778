-- The lines of a value change dump. Numbers and fixed words are all that they hold.
use Rattle.std.specs.Prelude.{ℕ, zero, suc, ◌+◌, ◌/◌, ◌%◌, List, [], ◌∷◌, ◌++◌, codes, decimal}
use Rattle.std.specs.List.{concat}

-- ---- declarations

unfoldable pub dump_opening : List ℕ
dump_opening = codes "$timescale 1 us $end\n$scope module svcsim $end\n"

-- a unit: the number of its task, the address where that began, and whether it has one
unfoldable pub unit_variables : (unit : ℕ) → List ℕ
unit_variables unit =
    concat (codes "$scope module unit" ∷ decimal unit ∷ codes " $end\n$var integer 32 t" ∷ decimal unit
    ∷ codes " task $end\n$var wire 32 a" ∷ decimal unit ∷ codes " address $end\n$var wire 1 b" ∷ decimal unit
    ∷ codes " busy $end\n$upscope $end\n" ∷ [])

-- the committed value of a word
unfoldable pub word_variable : (word : ℕ) → List ℕ
word_variable word =
    concat (codes "$var wire 32 w" ∷ decimal word ∷ codes " word" ∷ decimal word ∷ codes " $end\n" ∷ [])

-- the end of the declarations, and the beginning of the first values
unfoldable pub dump_start : List ℕ
dump_start = codes "$upscope $end\n$enddefinitions $end\n#0\n$dumpvars\n"

-- ---- values

-- the lowest bits of a number, so many
unfoldable pub bits : (count number : ℕ) → List ℕ
bits zero number = []
bits (suc count) number = bits count (number / 2) ++ (48 + number % 2) ∷ []

-- a unit has no task
unfoldable pub idle : (unit : ℕ) → List ℕ
idle unit =
    concat (codes "bx t" ∷ decimal unit ∷ codes "\nbx a" ∷ decimal unit ∷ codes "\n0b" ∷ decimal unit ∷ codes "\n" ∷ [])

-- the value of the variable that this letter and number name
unfoldable pub value_line : (letter : List ℕ) → (number value : ℕ) → List ℕ
value_line letter number value =
    (codes "b" ++ bits 32 value) ++ concat (codes " " ∷ letter ∷ decimal number ∷ codes "\n" ∷ [])

-- a unit has a task
unfoldable pub busy : (unit task address : ℕ) → List ℕ
busy unit task address =
    value_line (codes "t") unit task ++ value_line (codes "a") unit address
    ++ concat (codes "1b" ∷ decimal unit ∷ codes "\n" ∷ [])

-- the committed value of a word isn't known
unfoldable pub unknown : (word : ℕ) → List ℕ
unknown word = concat (codes "bx w" ∷ decimal word ∷ codes "\n" ∷ [])

-- a time
unfoldable pub time : ℕ → List ℕ
time at = concat (codes "#" ∷ decimal at ∷ codes "\n" ∷ [])
