-- A comment ends where its text does, and no space stands there.
use Rattle.std.proofs.Common.{◌≡◌, ℕ, Bool, true, false, ◌==◌, ◌∙◌, List, [], ◌∷◌, Some, None, refl, sym, subst, if◌then◌else◌}
use Rattle.std.proofs.lemmas.Bool.{eqb-true}
use Rattle.std.proofs.lemmas.Option.{none-some}
use Rattle.svc_tokens.specs.declared.characters.Blank.{Blank}
use Rattle.svc_tokens.specs.declared.characters.Blank.TheVariants as blank
use Rattle.svc_tokens.specs.declared.characters.TheConstants.{TEXT_END}
use Rattle.svc_tokens.specs.Characters.{inside_behind, blank_behind, past_blanks, past_spaces}

stopped : (b : Blank) (c : ℕ) (rest : List ℕ) → blank_behind b c rest ≡ None → past_blanks b (c ∷ rest) ≡ c ∷ rest
unfolding past_blanks
stopped b c rest h = rw h refl

no_space : (rest : List ℕ) → past_spaces (28 ∷ rest) ≡ 28 ∷ rest
unfolding past_blanks
no_space [] = refl
no_space (c ∷ rest) = refl

at_end : (c : ℕ) (rest : List ℕ) → (c == TEXT_END) ≡ true → past_spaces (c ∷ rest) ≡ c ∷ rest
at_end c rest h = let is : c ≡ 28 = eqb-true c 28 h in subst (λ (x : ℕ). past_spaces (x ∷ rest) ≡ x ∷ rest) (sym is) (no_space rest)

is_none : (t : Bool) (b : Blank) → (if t then None else Some b) ≡ None → t ≡ true
is_none true b h = refl
is_none false b h = absurd (none-some b (sym h))

-- where a comment stops with its text, so do spaces
pub past_stop : (b : Blank) (c : ℕ) (rest : List ℕ) → blank_behind b c rest ≡ None → past_spaces (c ∷ rest) ≡ past_blanks b (c ∷ rest)
past_stop blank.Outside c rest h = refl
past_stop blank.Opening c rest h = at_end c rest (is_none (c == TEXT_END) (inside_behind blank.Opening c) h) ∙ sym (stopped blank.Opening c rest h)
past_stop blank.Inside c rest h = at_end c rest (is_none (c == TEXT_END) (inside_behind blank.Inside c) h) ∙ sym (stopped blank.Inside c rest h)
past_stop blank.Star c rest h = at_end c rest (is_none (c == TEXT_END) (inside_behind blank.Star c) h) ∙ sym (stopped blank.Star c rest h)
