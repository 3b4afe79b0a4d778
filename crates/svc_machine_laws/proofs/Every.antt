-- What holds of each thing of a list, where the list is edited or cut.
use Rattle.std.proofs.Common.{ℕ, zero, suc, ◌≡◌, Bool, true, false, cond, List, [], ◌∷◌, ◌++◌, take, Option, Some, None, refl, subst, slice_get}
use Rattle.std.specs.List.{AllByRecursion}
use Rattle.std.proofs.lemmas.Option.{same_Some, none-some}
use Rattle.svc_bus_laws.specs.ByRows.{cut_at, edit}

pub every_take : {A : Type 0} (P : A → Type 0) (n : ℕ) (xs : List A) → AllByRecursion P xs → AllByRecursion P (take n xs)
every_take P zero xs h = tt
every_take P (suc n) [] h = tt
every_take P (suc n) (x ∷ xs) h = (h.0, every_take P n xs h.1)

pub every_cut : {A : Type 0} (P : A → Type 0) (c : Option ℕ) (xs : List A) → AllByRecursion P xs → AllByRecursion P (cut_at c xs)
every_cut P None xs h = h
every_cut P (Some n) xs h = every_take P n xs h

pub every_append : {A : Type 0} (P : A → Type 0) (xs : List A) (y : A) → AllByRecursion P xs → P y → AllByRecursion P (xs ++ y ∷ [])
every_append P [] y h k = (k, tt)
every_append P (x ∷ xs) y h k = (h.0, every_append P xs y h.1 k)

pub every_edit : {A : Type 0} (P : A → Type 0) (place : ℕ) (f : A → A) (c : Option ℕ) (xs : List A) → ((x : A) → slice_get xs place ≡ Some x → P x → P (f x)) → AllByRecursion P xs → AllByRecursion P (edit place f c xs)
every_edit P place f c [] e h = tt
every_edit P zero f c (x ∷ xs) e h = (e x refl h.0, every_cut P c xs h.1)
every_edit P (suc place) f c (x ∷ xs) e h = (h.0, every_edit P place f c xs e h.1)

pub every_at : {A : Type 0} (P : A → Type 0) (place : ℕ) (xs : List A) (x : A) → slice_get xs place ≡ Some x → AllByRecursion P xs → P x
every_at P place [] x h all = absurd (none-some x h)
every_at P zero (y ∷ xs) x h all = let e : y ≡ x = same_Some y x h in subst P e all.0
every_at P (suc place) (y ∷ xs) x h all = every_at P place xs x h all.1

pub every_if : {A : Type 0} (P : A → Type 0) (b : Bool) (xs : List A) → AllByRecursion P xs → AllByRecursion P (cond b xs [])
every_if P true xs h = h
every_if P false xs h = tt
