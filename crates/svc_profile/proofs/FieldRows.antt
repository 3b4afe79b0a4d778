-- The fields of a row, one more.
use Rattle.std.proofs.Common.{◌≡◌, ◌∙◌, ◌+◌, ◌<◌, ◌++◌, ◌∷◌, [], ℕ, List, length, get_or, map, take, ap, sym, append_assoc}
use Rattle.std.proofs.lemmas.List.{map-append, take_more}

pub one_more_field : {X : Type 0} (f : X → List ℕ) (xs : List X) (i : ℕ) (d : X) (a b c : List (List ℕ)) → i < length xs → b ≡ a ++ map f (take i xs)
    → c ≡ b ++ (f (get_or xs i d) ∷ []) → c ≡ a ++ map f (take (i + 1) xs)
one_more_field f xs i d a b c inside so_far one =
    let x = get_or xs i d in
    let whole : map f (take (i + 1) xs) ≡ map f (take i xs) ++ (f x ∷ []) = ap (map f) (take_more xs i d inside) ∙ map-append f (take i xs) (x ∷ []) in
    one ∙ ap (λ (l : List (List ℕ)). l ++ (f x ∷ [])) so_far ∙ append_assoc a (map f (take i xs)) (f x ∷ []) ∙ ap (λ (l : List (List ℕ)). a ++ l) (sym whole)
