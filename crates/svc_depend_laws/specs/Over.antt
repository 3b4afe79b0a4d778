-- Numbers of the first so many tasks, or words, together.
use Rattle.std.specs.Prelude.{ℕ, zero, suc, ◌+◌, ◌++◌, Bool, cond, min, max, List, [], ◌∷◌, Option, Some, None}

-- their sum
abbrev pub sum_over : (ℕ → ℕ) → (n : ℕ) → ℕ
sum_over number zero = 0
sum_over number (suc n) = sum_over number n + number n

-- how many of them there are
abbrev pub count_over : (ℕ → Bool) → (n : ℕ) → ℕ
count_over test n = sum_over (λ i. cond (test i) 1 0) n

-- the greatest, or 0 of none
abbrev pub greatest_over : (ℕ → ℕ) → (n : ℕ) → ℕ
greatest_over number zero = 0
greatest_over number (suc n) = max (number n) (greatest_over number n)

-- the lesser of two numbers, each of which may be missing
abbrev pub lesser : Option ℕ → Option ℕ → Option ℕ
lesser None o = o
lesser (Some d) None = Some d
lesser (Some d) (Some e) = Some (min d e)

-- the least that there is
abbrev pub least_over : (ℕ → Option ℕ) → (n : ℕ) → Option ℕ
least_over number zero = None
least_over number (suc n) = lesser (number n) (least_over number n)

-- one by one
abbrev pub listed : {A : Type 0} → (ℕ → A) → (n : ℕ) → List A
listed item zero = []
listed item (suc n) = listed item n ++ item n ∷ []
