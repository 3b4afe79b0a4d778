-- Searches and counts among the numbers below a bound.
use Rattle.std.specs.Prelude.{ℕ, zero, suc, ◌+◌, Bool, true, false, cond, ◌&&◌, ◌||◌, Option, Some, None, List, [], ◌∷◌}
use Rattle.std.specs.Option.{option_or}
use Rattle.std.specs.Bool.{then_some}

-- the least number below the bound that passes the test
abbrev pub least : ℕ → (ℕ → Bool) → Option ℕ
least zero test = None
least (suc n) test = option_or (least n test) (then_some (test n) n)

-- the greatest number below the bound that passes the test
abbrev pub greatest : ℕ → (ℕ → Bool) → Option ℕ
greatest zero test = None
greatest (suc n) test = cond (test n) (Some n) (greatest n test)

-- every number below the bound passes the test
abbrev pub all_below : ℕ → (ℕ → Bool) → Bool
all_below zero test = true
all_below (suc n) test = all_below n test && test n

-- some number below the bound passes the test
abbrev pub any_below : ℕ → (ℕ → Bool) → Bool
any_below zero test = false
any_below (suc n) test = any_below n test || test n

-- how many numbers below the bound pass the test
abbrev pub how_many : ℕ → (ℕ → Bool) → ℕ
how_many zero test = 0
how_many (suc n) test = how_many n test + cond (test n) 1 0

-- the list whose item at each place below the bound is the function's
abbrev pub tabulate : {A : Type 0} → ℕ → (ℕ → A) → List A
tabulate zero item = []
tabulate (suc n) item = item 0 ∷ tabulate n (λ p. item (suc p))
