-- The memory, as a list of words.
use Rattle.std.specs.Prelude.{ℕ, Option, Some, None, List, set}

-- the memory with a version of the word stored, if there is one
abbrev pub with_version : List ℕ → (word : ℕ) → Option ℕ → List ℕ
with_version memory word None = memory
with_version memory word (Some value) = set memory word value
