-- What a reader of a file gives is what the file holds, where that is known.
use Rattle.std.specs.Prelude.{IfSome, take, length, min, option_map}
use Rattle.std.proofs.Common.{◌≡◌, ◌∙◌, ◌≤◌, ◌+◌, ℕ, List, Option, Some, None, subst, arith}
use Rattle.std.proofs.lemmas.List.{length-take, take_all}

-- a front that is shorter than was asked for is the whole
pub whole_front : (n : ℕ) (given : Option (List ℕ)) (bytes : List ℕ)
    → IfSome (option_map (take (n + 1)) given) (λ xs. bytes ≡ xs) → length bytes ≤ n
    → IfSome given (λ known. bytes ≡ known)
whole_front n None bytes is fits = tt
whole_front n (Some known) bytes is fits =
    let size : length (take (n + 1) known) ≡ min (n + 1) (length known) = length-take (n + 1) known in
    let front : length (take (n + 1) known) ≤ n = subst (λ (l : List ℕ). length l ≤ n) is fits in
    is ∙ take_all (n + 1) known (omega arith)
