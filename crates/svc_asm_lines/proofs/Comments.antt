-- A comment ends before the first line feed.
use Rattle.std.proofs.Common.{◌≡◌, ℕ, zero, suc, ◌==◌, List, [], ◌∷◌, length, drop, refl, inl, inr, arith}
use Rattle.std.proofs.lemmas.Bool.{cases_Bool}
use Rattle.memchr.specs.Find.{is_byte, NoneBefore, Nowhere, Passes}
use Rattle.svc_tokens.specs.Characters.{past}
use Rattle.svc_asm_lines.specs.Statements.{is_inside}

pub past_all : (text : List ℕ) → Nowhere (Passes (is_byte 10) text) 0 (length text) → past is_inside text ≡ []
unfolding past
past_all [] none = refl
past_all (c ∷ rest) none = elim (cases_Bool (c == 10)) [
  | inl ends ↦ absurd (none 0 (omega arith) (omega arith) ends)
  | inr goes ↦ rw goes (past_all rest (λ k low high ends. none (suc k) (omega arith) (omega (arith, high)) ends))
]

pub past_first : (text : List ℕ) (k : ℕ) → NoneBefore (Passes (is_byte 10) text) 0 (length text) k → Passes (is_byte 10) text k → past is_inside text ≡ drop k text
unfolding past
past_first [] k first ends = absurd (omega (arith, first.high))
past_first (c ∷ rest) zero first ends = rw ends refl
past_first (c ∷ rest) (suc k) first ends = elim (cases_Bool (c == 10)) [
  | inl now ↦ absurd (first.before 0 (omega arith) (omega arith) now)
  | inr goes ↦ rw goes (past_first rest k (record {
    low = omega arith;
    high = let h = first.high in omega (arith, h);
    before = λ j low high at. first.before (suc j) (omega arith) (omega (arith, high)) at;
  }) ends)
]
