-- An idle unit finds room in the queue: the others that can stand in it are too few to fill it.
use Rattle.std.proofs.Common.{◌≡◌, ◌≢◌, ◌∙◌, sym, subst, ap, ℕ, suc, ◌<◌, ◌≤◌, cond, List, length, get_or, inl, inr, arith, eq-eqb, ne_eqb}
use Rattle.std.specs.Bool.{◌==◌}
use Rattle.std.proofs.lemmas.Bool.{cases_eq}
use Rattle.svc_vol.proofs.Fewness.{few_numbers}

-- the queue's places, and one more
abbrev with_new : List ℕ → ℕ → ℕ → ℕ
with_new units u k = cond (k == length units) u (get_or units k 0)

is_new : (units : List ℕ) (u k : ℕ) → k ≡ length units → with_new units u k ≡ u
is_new units u k e = ap (λ b. cond b u (get_or units k 0)) (eq-eqb k (length units) e)

is_old : (units : List ℕ) (u k : ℕ) → k ≢ length units → with_new units u k ≡ get_or units k 0
is_old units u k ne = ap (λ b. cond b u (get_or units k 0)) (ne_eqb k (length units) ne)

-- different units, none of them the idle one, leave a place
pub has_place : (units : List ℕ) (n u : ℕ) → u < n → ((p : ℕ) → p < length units → get_or units p 0 < n) → ((p q : ℕ) → p < length units → q < length units → get_or units p 0 ≡ get_or units q 0 → p ≡ q) → ((p : ℕ) → p < length units → get_or units p 0 ≢ u) → length units < n
has_place units n u known below apart idle = let few : suc (length units) ≤ n = few_numbers n (suc (length units)) (with_new units u) small distinct in omega (arith, few)
  where
    small : (k : ℕ) → k < suc (length units) → with_new units u k < n
    small k h = elim (cases_eq k (length units)) [
      | inl e ↦ subst (λ x. x < n) (sym (is_new units u k e)) known
      | inr ne ↦ subst (λ x. x < n) (sym (is_old units u k ne)) (below k (omega (arith, h, ne)))
    ]

    distinct : (j k : ℕ) → j < suc (length units) → k < suc (length units) → with_new units u j ≡ with_new units u k → j ≡ k
    distinct j k hj hk same = elim (cases_eq j (length units)) [
      | inl ej ↦ elim (cases_eq k (length units)) [
        | inl ek ↦ ej ∙ sym ek
        | inr nk ↦ absurd (idle k (omega (arith, hk, nk)) (sym (is_old units u k nk) ∙ sym same ∙ is_new units u j ej))
      ]
      | inr nj ↦ elim (cases_eq k (length units)) [
        | inl ek ↦ absurd (idle j (omega (arith, hj, nj)) (sym (is_old units u j nj) ∙ same ∙ is_new units u k ek))
        | inr nk ↦ apart j k (omega (arith, hj, nj)) (omega (arith, hk, nk)) (sym (is_old units u j nj) ∙ same ∙ is_old units u k nk)
      ]
    ]
