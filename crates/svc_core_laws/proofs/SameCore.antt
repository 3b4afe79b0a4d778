-- Cores that pass the test are one.
use Rattle.std.proofs.Common.{◌≡◌, ℕ, Bool, true, false, List, [], ◌∷◌, Option, Some, None, refl, ap, sym, ◌∙◌, subst, eqb-true}
use Rattle.std.specs.Prelude.{IsTrue}
use Rattle.std.proofs.lemmas.Bool.{and_parts, and_from, eq-eqb}
use Rattle.svc_core_laws.specs.declared.end.End.{End}
use Rattle.svc_core_laws.specs.declared.end.End.TheVariants.{Next, Exit, Trap}
use Rattle.svc_core_laws.specs.State.{State}
use Rattle.svc_core_laws.specs.Same.{same_end, same_words, same_state}

same_end-is : (a b : Option End) → same_end a b ≡ true → a ≡ b
same_end-is None None h = refl
same_end-is None (Some (Next e)) h = cc
same_end-is None (Some (Exit e)) h = cc
same_end-is None (Some (Trap e)) h = cc
same_end-is (Some (Next e)) None h = cc
same_end-is (Some (Next e)) (Some (Next f)) h = ap (λ (x : ℕ). Some (Next x)) (eqb-true e f h)
same_end-is (Some (Next e)) (Some (Exit f)) h = cc
same_end-is (Some (Next e)) (Some (Trap f)) h = cc
same_end-is (Some (Exit e)) None h = cc
same_end-is (Some (Exit e)) (Some (Next f)) h = cc
same_end-is (Some (Exit e)) (Some (Exit f)) h = ap (λ (x : ℕ). Some (Exit x)) (eqb-true e f h)
same_end-is (Some (Exit e)) (Some (Trap f)) h = cc
same_end-is (Some (Trap e)) None h = cc
same_end-is (Some (Trap e)) (Some (Next f)) h = cc
same_end-is (Some (Trap e)) (Some (Exit f)) h = cc
same_end-is (Some (Trap e)) (Some (Trap f)) h = ap (λ (x : ℕ). Some (Trap x)) (eqb-true e f h)

same_end-refl : (a : Option End) → same_end a a ≡ true
same_end-refl None = refl
same_end-refl (Some (Next e)) = eq-eqb e e refl
same_end-refl (Some (Exit e)) = eq-eqb e e refl
same_end-refl (Some (Trap e)) = eq-eqb e e refl

same_words-is : (xs ys : List ℕ) → same_words xs ys ≡ true → xs ≡ ys
same_words-is [] [] h = refl
same_words-is [] (y ∷ ys) h = cc
same_words-is (x ∷ xs) [] h = cc
same_words-is (x ∷ xs) (y ∷ ys) h =
    let parts = and_parts _ _ h in
    let head : x ≡ y = eqb-true x y parts.0 in
    let rest : xs ≡ ys = same_words-is xs ys parts.1 in
    cc

same_words-refl : (xs : List ℕ) → same_words xs xs ≡ true
same_words-refl [] = refl
same_words-refl (x ∷ xs) = and_from _ _ (eq-eqb x x refl) (same_words-refl xs)

pub same_state-is : (a b : State) → same_state a b ≡ true → a ≡ b
same_state-is a b h =
    let h5 = and_parts _ _ h in
    let h4 = and_parts _ _ h5.0 in
    let h3 = and_parts _ _ h4.0 in
    let h2 = and_parts _ _ h3.0 in
    let h1 = and_parts _ _ h2.0 in
    let pc : a.pc ≡ b.pc = eqb-true _ _ h1.0 in
    let count : a.count ≡ b.count = eqb-true _ _ h1.1 in
    let emitted : a.emitted ≡ b.emitted = eqb-true _ _ h2.1 in
    let limit : a.limit ≡ b.limit = eqb-true _ _ h3.1 in
    let done : a.done ≡ b.done = same_end-is a.done b.done h4.1 in
    let regs : a.regs ≡ b.regs = same_words-is a.regs b.regs h5.1 in
    λ i. record { pc = pc i; regs = regs i; count = count i; emitted = emitted i; limit = limit i; done = done i }

pub same_state-refl : (a : State) → same_state a a ≡ true
same_state-refl a =
    and_from _ _ (and_from _ _ (and_from _ _ (and_from _ _ (and_from _ _ (eq-eqb a.pc a.pc refl) (eq-eqb a.count a.count refl)) (eq-eqb a.emitted a.emitted refl)) (eq-eqb a.limit a.limit refl)) (same_end-refl a.done)) (same_words-refl a.regs)

pub same_state-same : (a b : State) → a ≡ b → same_state a b ≡ true
same_state-same a b e = subst (λ (x : State). same_state a x ≡ true) e (same_state-refl a)

-- the test is true of equal cores alone
pub same_state-both : (a b : State) (r : Bool) → r ≡ same_state a b → (IsTrue r → a ≡ b) × (a ≡ b → IsTrue r)
same_state-both a b r e = (λ t. same_state-is a b (sym e ∙ t), λ same. e ∙ same_state-same a b same)

-- equal lists pass the test, and others don't
pub same_words-by : (xs ys : List ℕ) (r : Bool) → (r ≡ true → xs ≡ ys) → (xs ≡ ys → r ≡ true) → r ≡ same_words xs ys
same_words-by xs ys true there back = sym (subst (λ (z : List ℕ). same_words xs z ≡ true) (there refl) (same_words-refl xs))
same_words-by xs ys false there back = by (same_words xs ys) refl
  where
    by : (t : Bool) → same_words xs ys ≡ t → false ≡ same_words xs ys
    by true e = absurd (let b : false ≡ true = back (same_words-is xs ys e) in cc)
    by false e = sym e

pub ruleset words = (same_words-by)
