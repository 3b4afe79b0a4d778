-- Rows over a range, one number more; and functions that agree on each number.
use Rattle.std.proofs.Common.{◌≡◌, ◌∙◌, ◌+◌, ◌++◌, ◌∷◌, [], ℕ, zero, suc, List, Option, Bool, refl, ap, sym, subst, arith}
use Rattle.std.specs.Prelude.{◌||◌, flat_map}
use Rattle.std.specs.List.{list_any, range_with_len}
use Rattle.std.specs.Io.KnownBytes.{Appends}
use Rattle.std.proofs.lemmas.List.{append-nil}
use Rattle.std.proofs.lemmas.List.Concat.{flat_map-append}
use Rattle.std.proofs.lemmas.List.Folds.{list_any-append}
use Rattle.std.proofs.Math.Bool.{or-false}
use Rattle.svc_report.proofs.PlainLines.{then_appends}

-- a range with one number more
range_more : (a n : ℕ) → range_with_len a (suc n) ≡ range_with_len a n ++ (a + n) ∷ []
range_more a zero = let e : a ≡ a + 0 = omega arith in ap (λ (x : ℕ). x ∷ []) e
range_more a (suc n) =
    let e : (a + 1) + n ≡ a + suc n = omega arith in
    ap (λ (l : List ℕ). a ∷ l) (range_more (a + 1) n ∙ ap (λ (x : ℕ). range_with_len (a + 1) n ++ x ∷ []) e)

-- the same from 0 on
pub from_zero : (n : ℕ) → range_with_len 0 (n + 1) ≡ range_with_len 0 n ++ n ∷ []
from_zero n =
    let e : n + 1 ≡ suc n = omega arith in
    let last : 0 + n ≡ n = omega arith in
    ap (range_with_len 0) e ∙ range_more 0 n ∙ ap (λ (m : ℕ). range_with_len 0 n ++ m ∷ []) last

-- lists over a range, one number more
pub lists_more : {A : Type 0} (f : ℕ → List A) (n : ℕ) → flat_map f (range_with_len 0 (n + 1)) ≡ flat_map f (range_with_len 0 n) ++ f n
lists_more {A} f n =
    ap (flat_map f) (from_zero n) ∙ flat_map-append f (range_with_len 0 n) (n ∷ [])
    ∙ ap (λ (l : List A). flat_map f (range_with_len 0 n) ++ l) (append-nil (f n))

-- a writer's text, one row more
pub row_more : (f : ℕ → List ℕ) (n : ℕ) (a b c : Option (List ℕ)) → Appends a b (flat_map f (range_with_len 0 n)) → Appends b c (f n)
    → Appends a c (flat_map f (range_with_len 0 (n + 1)))
row_more f n a b c so_far one =
    subst (Appends a c) (sym (lists_more f n)) (then_appends a b c (flat_map f (range_with_len 0 n)) (f n) so_far one)

-- whether one of the numbers passes, one number more
pub any_more : (p : ℕ → Bool) (n : ℕ) → list_any p (range_with_len 0 (n + 1)) ≡ (list_any p (range_with_len 0 n) || p n)
any_more p n =
    ap (list_any p) (from_zero n) ∙ list_any-append p (range_with_len 0 n) (n ∷ [])
    ∙ ap (λ (b : Bool). list_any p (range_with_len 0 n) || b) (or-false (p n))

-- functions that agree give the same rows
pub same_rows : (f g : ℕ → List ℕ) → ((n : ℕ) → f n ≡ g n) → (xs : List ℕ) → flat_map f xs ≡ flat_map g xs
same_rows f g same [] = refl
same_rows f g same (x ∷ xs) = ap (λ (l : List ℕ). l ++ flat_map f xs) (same x) ∙ ap (λ (l : List ℕ). g x ++ l) (same_rows f g same xs)

-- and the same answer to whether one passes
pub same_any : (p q : ℕ → Bool) → ((n : ℕ) → p n ≡ q n) → (xs : List ℕ) → list_any p xs ≡ list_any q xs
same_any p q same [] = refl
same_any p q same (x ∷ xs) = ap (λ (b : Bool). b || list_any p xs) (same x) ∙ ap (λ (b : Bool). q x || b) (same_any p q same xs)
