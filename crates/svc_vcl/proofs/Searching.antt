-- One more step of each search.
use Rattle.std.proofs.Common.{◌≡◌, refl, sym, subst, ℕ, suc, ◌+◌, ◌-◌, ◌<◌, ◌≤◌, Bool, true, false, ◌||◌, Some, None, arith}
use Rattle.svc_bus_laws.specs.Search.{least, greatest, any_below}
use Rattle.svc_bus_laws.specs.Walk.{walk}
use Rattle.svc_bus_laws.proofs.Searches.{least_found, least_none}

-- of the greatest number below the next bound
pub greatest_here : (n : ℕ) (test : ℕ → Bool) → test n ≡ true → greatest (n + 1) test ≡ Some n
greatest_here n test pass = subst (λ m. greatest m test ≡ Some n) (sym (one_more n)) (rw pass)
  where
    one_more : (n : ℕ) → n + 1 ≡ suc n
    one_more n = omega arith

pub greatest_past : (n : ℕ) (test : ℕ → Bool) → test n ≡ false → greatest (n + 1) test ≡ greatest n test
greatest_past n test fail = subst (λ m. greatest m test ≡ greatest n test) (sym (one_more n)) (rw fail)
  where
    one_more : (n : ℕ) → n + 1 ≡ suc n
    one_more n = omega arith

-- of some number below it
pub any_more : (n : ℕ) (test : ℕ → Bool) → any_below (n + 1) test ≡ (any_below n test || test n)
any_more n test = subst (λ m. any_below m test ≡ (any_below n test || test n)) (sym (one_more n)) refl
  where
    one_more : (n : ℕ) → n + 1 ≡ suc n
    one_more n = omega arith

-- of the least number that passes, where the earlier ones fail
pub least_here : (n m : ℕ) (test : ℕ → Bool) → m < n → test m ≡ true → ((k : ℕ) → k < m → test k ≡ false) → least n test ≡ Some m
least_here n m test within pass before = least_found n test m (record { within = within; passes = pass; before = before })

pub least_past : (n m : ℕ) (test : ℕ → Bool) → n ≤ m → ((k : ℕ) → k < m → test k ≡ false) → least n test ≡ None
least_past n m test above never = least_none n test (λ k below. never k (omega (arith, above, below)))

-- of a walk at a place below the end
module _ (exposes stores : ℕ → Bool) (v n : ℕ) (below : v < n) where
  left : n - v ≡ suc (n - (v + 1))
  left = omega arith

  pub walk_finds : exposes v ≡ true → walk exposes stores v (n - v) ≡ Some v
  walk_finds pass = subst (λ m. walk exposes stores v m ≡ Some v) (sym left) (rw pass)

  pub walk_stops : exposes v ≡ false → stores v ≡ true → walk exposes stores v (n - v) ≡ None
  walk_stops fail pass = subst (λ m. walk exposes stores v m ≡ None) (sym left) (rw (fail, pass))

  pub walk_goes_on : exposes v ≡ false → stores v ≡ false → walk exposes stores v (n - v) ≡ walk exposes stores (v + 1) (n - (v + 1))
  walk_goes_on fail also = subst (λ m. walk exposes stores v m ≡ walk exposes stores (v + 1) (n - (v + 1))) (sym left) (rw (fail, also) (subst (λ m. walk exposes stores m (n - (v + 1)) ≡ walk exposes stores (v + 1) (n - (v + 1))) one_more refl))
    where
      one_more : v + 1 ≡ suc v
      one_more = omega arith

-- nothing is left to walk at the end
pub walk_ends : (exposes stores : ℕ → Bool) (v n : ℕ) → n - v ≡ 0 → walk exposes stores v (n - v) ≡ None
walk_ends exposes stores v n none = subst (λ m. walk exposes stores v m ≡ None) (sym none) refl
