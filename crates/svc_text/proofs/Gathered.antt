-- What a writer has, and after it what is gathered.
use Rattle.std.proofs.Common.{◌≡◌, ◌++◌, ◌∙◌, ◌∷◌, [], ◌+◌, ◌<◌, ℕ, List, Option, Some, None, append_assoc, append-nil, ap, get_or, length, subst, sym, take}
use Rattle.std.specs.Prelude.{flat_map}
use Rattle.std.specs.Io.KnownBytes.{Appends, Keeps, append_known}
use Rattle.std.proofs.KnownBytes.{Appends-kept, Appends-trans, Keeps-refl, append_known-grown}
use Rattle.std.proofs.lemmas.List.{take_more}
use Rattle.std.proofs.lemmas.List.Concat.{flat_map-append}

-- a row is gathered, and then all of it is written or stays
pub row_passes : (a b : Option (List ℕ)) (old new rest row : List ℕ) → new ≡ old ++ row → Keeps (append_known a new) (append_known b rest)
    → Appends (append_known a old) (append_known b rest) row
row_passes a b old new rest row grown kept =
    Appends-kept (append_known a old) (append_known a new) (append_known b rest) row
    (append_known-grown (append_known a old) a old new row (Keeps-refl (append_known a old)) grown) kept

-- one row more
pub one_more_row : {X : Type 0} (f : X → List ℕ) (xs : List X) (i : ℕ) (d : X) (a b c : Option (List ℕ)) → i < length xs
    → Appends a b (flat_map f (take i xs)) → Appends b c (f (get_or xs i d)) → Appends a c (flat_map f (take (i + 1) xs))
one_more_row f xs i d a b c inside so_far one =
    let x = get_or xs i d in
    let whole : flat_map f (take (i + 1) xs) ≡ flat_map f (take i xs) ++ f x =
    ap (flat_map f) (take_more xs i d inside) ∙ flat_map-append f (take i xs) (x ∷ [])
    ∙ ap (λ (l : List ℕ). flat_map f (take i xs) ++ l) (append-nil (f x)) in
    subst (Appends a c) (sym whole) (Appends-trans a b c (flat_map f (take i xs)) (f x) so_far one)

-- what was gathered first, the rows after it, and at last what is left of both
pub all_written : (a b c : Option (List ℕ)) (first rest rows : List ℕ) → Appends (append_known a first) (append_known b rest) rows → Appends b c rest
    → Appends a c (first ++ rows)
all_written None b c first rest rows h k = tt
all_written (Some x) None c first rest rows h k = absurd h
all_written (Some x) (Some y) None first rest rows h k = absurd k
all_written (Some x) (Some y) (Some z) first rest rows h k = k ∙ h ∙ append_assoc x first rows
