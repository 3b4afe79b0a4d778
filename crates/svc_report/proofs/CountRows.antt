-- The rows of names and numbers, one after another.
use Rattle.std.proofs.Common.{◌≡◌, ◌∷◌, ◌++◌, ◌∙◌, ◌+◌, ◌<◌, [], ℕ, zero, suc, List, Option, Bor, sym, ap, subst, length, take, map, get_or, append_assoc, arith}
use Rattle.std.proofs.lemmas.List.{append-nil}
use Rattle.std.specs.Io.KnownBytes.{Appends}
use Rattle.svc_report.specs.Summary.{number_row, number_rows}
use Rattle.svc_report.proofs.PlainLines.{then_appends}

-- the rows with the next one
next_row : (names : List (Bor (List ℕ))) (numbers : List ℕ) (i : ℕ) (d : Bor (List ℕ)) (e : ℕ) → i < length names → i < length numbers
    → number_rows (take (suc i) (map (λ (b : Bor (List ℕ)). b.now) names)) (take (suc i) numbers) ≡ number_rows (take i (map (λ (b : Bor (List ℕ)). b.now) names)) (take i numbers) ++ number_row (get_or names i d).now (get_or numbers i e)
next_row [] numbers i d e h k = absurd (omega (arith, h))
next_row (name ∷ names) [] i d e h k = absurd (omega (arith, k))
next_row (name ∷ names) (number ∷ numbers) zero d e h k = append-nil (number_row name.now number)
next_row (name ∷ names) (number ∷ numbers) (suc i) d e h k = ap (λ (t : List ℕ). number_row name.now number ++ t) (next_row names numbers i d e (omega (arith, h)) (omega (arith, k))) ∙ sym (append_assoc (number_row name.now number) _ _)

-- one row more is written
pub one_more : (a b c : Option (List ℕ)) (names : List (Bor (List ℕ))) (numbers : List ℕ) (i : ℕ) (d : Bor (List ℕ)) (e : ℕ) → Appends b c (number_row (get_or names i d).now (get_or numbers i e)) → i < length names → i < length numbers
    → Appends a b (number_rows (take i (map (λ (b : Bor (List ℕ)). b.now) names)) (take i numbers)) → Appends a c (number_rows (take (i + 1) (map (λ (b : Bor (List ℕ)). b.now) names)) (take (i + 1) numbers))
one_more a b c names numbers i d e step h k so =
    let next : suc i ≡ i + 1 = omega arith in
    subst (λ (n : ℕ). Appends a c (number_rows (take n (map (λ (b : Bor (List ℕ)). b.now) names)) (take n numbers))) next (subst (Appends a c) (sym (next_row names numbers i d e h k)) (then_appends a b c _ _ so step))
