-- The fields of a record of thirteen.
use Rattle.std.proofs.Common.{◌≡◌, ◌∷◌, [], ℕ, zero, suc, List, refl, sym, get_or, length, arith, ◌∙◌, ◌≢◌, ◌<◌, ◌+◌, take, nat_eq, Bool, true, false}
use Rattle.std.specs.Prelude.{not, MatchResult}
use Rattle.std.proofs.Common.{Result, Ok, Err, Option, Some, None}
use Rattle.std.specs.Result.{IsErrAnd}
use Rattle.svc_report.specs.Records.{FirstOther}
use Rattle.std.proofs.Common.{subst, add-one}
use lib.Pointwise.{pointwise}
use Rattle.std.specs.Cmp.Lexicographic.{same_text, other_text}
use Rattle.std.proofs.lemmas.List.{take_more}
use Rattle.std.specs.Option.{ok_or, unwrap_or}
use Rattle.csv.specs.Records.{field_at}

-- a field by its place, or nothing past the end
pub field_or : (fs : List (List ℕ)) (k : ℕ) → get_or fs k [] ≡ unwrap_or (field_at fs k) []
unfolding field_at
field_or [] k = refl
field_or (f ∷ fs) zero = refl
field_or (f ∷ fs) (suc k) = field_or fs k

-- a record of thirteen fields is its fields, one by one
pub thirteen : (fs : List (List ℕ)) → length fs ≡ 13 → fs ≡ get_or fs 0 [] ∷ get_or fs 1 [] ∷ get_or fs 2 [] ∷ get_or fs 3 [] ∷ get_or fs 4 [] ∷ get_or fs 5 [] ∷ get_or fs 6 []
    ∷ get_or fs 7 [] ∷ get_or fs 8 [] ∷ get_or fs 9 [] ∷ get_or fs 10 [] ∷ get_or fs 11 [] ∷ get_or fs 12 [] ∷ []
thirteen (a ∷ b ∷ c ∷ d ∷ e ∷ f ∷ g ∷ h ∷ i ∷ j ∷ k ∷ l ∷ m ∷ []) n = refl
thirteen _ n = absurd (omega arith)

-- one more field is the same
pub one_more : (fs ns : List (List ℕ)) (k : ℕ) → length fs ≡ length ns → k < length ns → take k fs ≡ take k ns → get_or fs k [] ≡ get_or ns k [] → take (k + 1) fs ≡ take (k + 1) ns
one_more fs ns k len low same here = take_more fs k [] (omega arith) ∙ rw (same, here) (sym (take_more ns k [] low))

pub differs : (xs ys : List ℕ) → true ≡ not (pointwise nat_eq xs ys) → xs ≢ ys
differs xs ys e = other_text xs ys (flip _ e)
  where
    flip : (b : Bool) → true ≡ not b → false ≡ b
    flip true e = sym e
    flip false e = refl

pub agrees : (xs ys : List ℕ) → false ≡ not (pointwise nat_eq xs ys) → xs ≡ ys
agrees xs ys e = same_text xs ys (flip _ e)
  where
    flip : (b : Bool) → false ≡ not b → true ≡ b
    flip true e = refl
    flip false e = sym e

pub other_at : (fs ns : List (List ℕ)) (k : ℕ) → length fs ≡ length ns → take k fs ≡ take k ns → get_or fs k [] ≢ get_or ns k [] → FirstOther fs ns (k + 1)
unfolding FirstOther
other_at fs ns k len same other = let P : ℕ → Type 0 = λ n. FirstOther fs ns n in subst P (sym (add-one k)) (len, same, other)

-- what a `?` gives up with, where there is no value: the column
pub gave_up : {T A : Type 0} (r : Result T ℕ) (value : Option A) (e k : ℕ) (P : T → Type 0) (Q : ℕ → Type 0) → IsErrAnd r (λ y. y ≡ e) → Err e ≡ ok_or value k → value ≡ None → Q k → MatchResult r P Q
gave_up (Ok x) value e k P Q is given none q = absurd is
gave_up (Err y) None e k P Q is given none q = let same : e ≡ k = cc given in subst Q (sym (is ∙ same)) q
gave_up (Err y) (Some x) e k P Q is given none q = cc none
