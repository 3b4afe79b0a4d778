-- The table of refusals, read.
use Rattle.std.proofs.Common.{ℕ, zero, suc, ◌≡◌, Bool, true, false, ◌&&◌, cond, List, [], ◌∷◌, Option, Some, None, refl, sym, subst, is_some, is_none}
use Rattle.std.proofs.lemmas.Option.{none-some}
use borrow.Author.Tests.{both_ways}
use Rattle.svc_base.specs.declared.refusal.Refusal.{Refusal}
use Rattle.svc_machine_laws.specs.Refusals.{first_case}

-- the test of the case at a place of the table
abbrev pub case_at : List (Bool × Refusal) → ℕ → Bool
case_at [] i = false
case_at (c ∷ cases) zero = c.0
case_at (c ∷ cases) (suc i) = case_at cases i

-- where the event is accepted, no case holds
pub no_case : (cases : List (Bool × Refusal)) → first_case cases ≡ None → (i : ℕ) → case_at cases i ≡ false
no_case [] h i = refl
no_case (c ∷ cases) h i = split (no_case cases) c.0 refl i
  where
    others : c.0 ≡ false → first_case cases ≡ None
    others off = subst (λ b. cond b (Some c.1) (first_case cases) ≡ None) off h

    split : (first_case cases ≡ None → (j : ℕ) → case_at cases j ≡ false) → (b : Bool) → c.0 ≡ b → (i : ℕ) → case_at (c ∷ cases) i ≡ false
    split rest true on i = absurd (none-some c.1 (sym (subst (λ b. cond b (Some c.1) (first_case cases) ≡ None) on h)))
    split rest false off zero = off
    split rest false off (suc i) = rest (others off) i

pub and_not : (x y : Bool) → x ≡ true → (x && y) ≡ false → y ≡ false
and_not true y e h = h
and_not false y e h = absurd (both_ways false refl e)

pub some_of : {A : Type 0} (o : Option A) → is_none o ≡ false → (x : A) × (o ≡ Some x)
some_of (Some x) h = (x, refl)
some_of None h = absurd (both_ways true h refl)

pub none_of : {A : Type 0} (o : Option A) → is_some o ≡ false → o ≡ None
none_of (Some x) h = absurd (both_ways true h refl)
none_of None h = refl
