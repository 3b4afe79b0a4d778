-- What is counted of a word.
use Rattle.std.specs.Prelude.{ℕ}

-- entries that name it; loads of it; stores to it; reads of it that another task's version served; stores that found it
-- read too early; tasks that these squashed; the turns of these tasks
pub data Column : Type 0 where
  Named : Column
  Loads : Column
  Stores : Column
  Versions : Column
  Violations : Column
  Squashed : Column
  Turns : Column

-- what is counted for a word
pub record Share : Type 0 where
  pub word : ℕ
  pub amount : ℕ
