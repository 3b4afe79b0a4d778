-- A text is the characters that pass and what is left behind them.
use Rattle.std.proofs.Common.{◌≡◌, ℕ, ◌-◌, ◌≤◌, Bool, true, false, List, [], ◌∷◌, suc, length, take, refl, ap, arith, cond, if◌then◌else◌}
use Rattle.std.specs.List.{take_while}
use Rattle.std.proofs.lemmas.List.Sums.{take_while-cons}
use Rattle.svc_tokens.specs.Characters.{past}

pub past_within : (p : ℕ → Bool) (text : List ℕ) → length (past p text) ≤ length text
unfolding past
past_within p [] = omega arith
past_within p (c ∷ rest) =
    let ih = past_within p rest in
    elim (p c) as (λ b. length (if b then past p rest else c ∷ rest) ≤ suc (length rest)) [ true ↦ omega (arith, ih) | false ↦ omega arith ]

pub front_of_past : (p : ℕ → Bool) (text : List ℕ) → take (length text - length (past p text)) text ≡ take_while p text
unfolding past
front_of_past p [] = refl
front_of_past p (c ∷ rest) =
    let within = past_within p rest in
    let same = front_of_past p rest in
    let longer : suc (length rest) - length (past p rest) ≡ suc (length rest - length (past p rest)) = omega (arith, within) in
    let none : suc (length rest) - suc (length rest) ≡ 0 = omega arith in
    rw (take_while-cons p c rest) (elim (p c) as (λ b. take (suc (length rest) - length (if b then past p rest else c ∷ rest)) (c ∷ rest) ≡ cond b (c ∷ take_while p rest) [])
    [ true ↦ rw longer (ap (λ xs. c ∷ xs) same) | false ↦ rw none refl ])
