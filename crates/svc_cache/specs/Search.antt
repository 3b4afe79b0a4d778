-- Searches and counts among the numbers below a bound.
use Rattle.std.specs.Prelude.{ℕ, zero, suc, ◌+◌, Bool, Option, None, if◌then◌else◌}
use Rattle.std.specs.Option.{option_or}
use Rattle.std.specs.Bool.{then_some}

-- the least number below the bound that passes the test
unfoldable pub least : ℕ → (ℕ → Bool) → Option ℕ
least zero test = None
least (suc n) test = option_or (least n test) (then_some (test n) n)

-- how many numbers below the bound pass the test
unfoldable pub how_many : ℕ → (ℕ → Bool) → ℕ
how_many zero test = 0
how_many (suc n) test = how_many n test + (if test n then 1 else 0)
