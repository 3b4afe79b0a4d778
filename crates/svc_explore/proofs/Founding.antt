-- What was seen grows, each observation once and with its schedule.
use Rattle.std.proofs.Common.{ℕ, zero, suc, ◌≡◌, ◌⊎◌, ◌+◌, ◌<◌, List, [], ◌∷◌, ◌++◌, length, Option, Some, None, inl, inr, refl, sym, ap, ◌∙◌, subst, arith, slice_get, option_to_list, get_or, take, Bool, false, true≢false, IsTrue, Result, Ok, Err, OnOk}
use Rattle.std.proofs.lemmas.List.{take_more}
use Rattle.std.specs.List.{AllByRecursion}
use Rattle.std.proofs.lemmas.Option.{none-some, same_Some}
use Rattle.svc_base.specs.declared.config.Config.{Config}
use Rattle.svc_base.specs.declared.ids.UnitId.{UnitId}
use Rattle.svc_image.specs.Image.{Image}
use Rattle.svc_explore_laws.specs.declared.observation.Observation.{Observation}
use Rattle.svc_explore_laws.specs.Closed.{IsIn, AreIn}
use Rattle.svc_explore.specs.declared.found.Seen.{Seen}
use Rattle.svc_explore.specs.Found.{AddsSeen, AreOnce, AreWitnessed, IsNewlySeen, IsShown, are_seen}
use Rattle.svc_explore.specs.Search.{GrowsTo}
use Rattle.svc_explore.specs.Tries.{Shows, both}
use Rattle.svc_explore.proofs.Growing.{append_grows, last_is, map_append, all_stay, same_grows}

seen_more : (old : List Seen) (s : Seen) → are_seen (old ++ s ∷ []) ≡ are_seen old ++ s.what ∷ []
seen_more old s = map_append (λ (s : Seen). s.what) old (s ∷ [])

-- ---- the list of what was seen

newly_grows : (old new : List Seen) (what : Observation) (path : List UnitId) (last : UnitId) → IsNewlySeen old new what path last → GrowsTo (are_seen old) (are_seen new)
newly_grows old new what path last h =
    subst (GrowsTo (are_seen old)) (sym (ap are_seen h.appended ∙ seen_more old h.seen)) (append_grows (are_seen old) (h.seen.what ∷ []))

pub newly_listed : (old new : List Seen) (what : Observation) (path : List UnitId) (last : UnitId) → IsNewlySeen old new what path last → IsIn what (are_seen new)
newly_listed old new what path last h = (
  length (are_seen old),
  ap (λ l. slice_get l (length (are_seen old))) (ap are_seen h.appended ∙ seen_more old h.seen) ∙ last_is (are_seen old) h.seen.what ∙ ap (λ (o : Observation). Some o) h.what_is,
)

pub adds_grows : (old new : List Seen) (what : Option Observation) (path : List UnitId) (last : UnitId) → AddsSeen old new what path last → GrowsTo (are_seen old) (are_seen new)
adds_grows old new None path last h = same_grows (are_seen old) (are_seen new) (ap are_seen h)
adds_grows old new (Some what) path last (inl h) = same_grows (are_seen old) (are_seen new) (ap are_seen h)
adds_grows old new (Some what) path last (inr h) = newly_grows old new what path last h

-- ---- none twice

-- a place in a longer list is the last one, or one before
place_cases : {A : Type 0} (xs : List A) (y : A) (i : ℕ) (x : A) → slice_get (xs ++ y ∷ []) i ≡ Some x → (slice_get xs i ≡ Some x) ⊎ ((i ≡ length xs) × (x ≡ y))
place_cases [] y zero x e = inr (refl, sym (same_Some y x e))
place_cases [] y (suc i) x e = absurd (none-some x e)
place_cases (z ∷ xs) y zero x e = inl e
place_cases (z ∷ xs) y (suc i) x e = elim (place_cases xs y i x e) [
  | inl h ↦ inl h
  | inr h ↦ inr (ap suc h.0, h.1)
]

pub once_more : {A : Type 0} (xs : List A) (y : A) → (IsIn y xs → ⊥) → AreOnce xs → AreOnce (xs ++ y ∷ [])
once_more {A} xs y fresh once i j x e f = elim (place_cases xs y i x e) [
  | inl h ↦ elim (place_cases xs y j x f) [
    | inl k ↦ once i j x h k
    | inr k ↦ absurd (fresh (i, h ∙ ap (λ (o : A). Some o) k.1))
  ]
  | inr h ↦ elim (place_cases xs y j x f) [
    | inl k ↦ absurd (fresh (j, k ∙ ap (λ (o : A). Some o) h.1))
    | inr k ↦ h.0 ∙ sym k.0
  ]
]

-- the observation at an index
pub seen_read : (xs : List Seen) (i : ℕ) (d s : Seen) (what : Observation) → i < length xs → s ≡ get_or xs i d → s.what ≡ what → slice_get (are_seen xs) i ≡ Some what
seen_read [] i d s what h e same = absurd (omega (arith, h))
seen_read (x ∷ xs) zero d s what h e same = ap (λ (o : Observation). Some o) (sym (ap (λ (s : Seen). s.what) e) ∙ same)
seen_read (x ∷ xs) (suc i) d s what h e same = seen_read xs i d s what (omega (arith, h)) e same

-- one that differs from what is sought
pub not_more : (xs : List Seen) (i : ℕ) (s : Seen) (what : Observation) → i < length xs → s ≡ get_or xs i s → (IsIn what (are_seen (take i xs)) → ⊥)
    → (same : Bool) → (s.what ≡ what → IsTrue same) → same ≡ false → IsIn what (are_seen (take (i + 1) xs)) → ⊥
not_more xs i s what inside is none same told other there =
    let grown : are_seen (take (i + 1) xs) ≡ are_seen (take i xs) ++ s.what ∷ [] =
    ap are_seen (take_more xs i s inside) ∙ seen_more (take i xs) (get_or xs i s) ∙ ap (λ (z : Seen). are_seen (take i xs) ++ z.what ∷ []) (sym is) in
    elim (place_cases (are_seen (take i xs)) s.what there.0 what (ap (λ l. slice_get l there.0) (sym grown) ∙ there.1)) [
      | inl h ↦ none (there.0, h)
      | inr h ↦ true≢false (sym (told (sym h.1)) ∙ other)
    ]

-- what follows of a result that is well
pub on_ok : {A E : Type 0} {P Q : Type 0} (r : Result A E) → (P → Q) → OnOk r P → OnOk r Q
on_ok (Ok x) f h = f h
on_ok (Err e) f h = h

-- ---- with schedules that show them

pub all_more : {A : Type 0} (P : A → Type 0) (xs : List A) (y : A) → AllByRecursion P xs → P y → AllByRecursion P (xs ++ y ∷ [])
all_more P [] y all h = (h, tt)
all_more P (x ∷ xs) y all h = (all.0, all_more P xs y all.1 h)

module _ (img : Image) (config : Config) (most : ℕ) where
  pub none_witnessed : (seen : List Seen) → seen ≡ [] → AreWitnessed img config most seen
  none_witnessed seen e = subst (AreWitnessed img config most) (sym e) (record { once = λ i j x h k. absurd (none-some x h); shown = tt })

  newly_witnessed : (old new : List Seen) (what : Observation) (path : List UnitId) (last : UnitId) → IsNewlySeen old new what path last → Shows img config most path last.0 what
      → AreWitnessed img config most old → AreWitnessed img config most new
  newly_witnessed old new what path last h shows is =
      let s : Seen = h.seen in
      let one : IsShown img config most s =
      subst (λ p. Shows img config most p s.last.0 s.what) (sym h.path_is)
      (subst (λ (u : UnitId). Shows img config most path u.0 s.what) (sym h.last_is) (subst (Shows img config most path last.0) (sym h.what_is) shows)) in
      record {
        once = subst AreOnce (sym (ap are_seen h.appended ∙ seen_more old s))
            (once_more (are_seen old) s.what (λ there. h.fresh (subst (λ o. IsIn o (are_seen old)) h.what_is there)) is.once);
        shown = subst (AllByRecursion (IsShown img config most)) (sym h.appended) (all_more (IsShown img config most) old s is.shown one);
      }

  pub adds_witnessed : (old new : List Seen) (what : Option Observation) (path : List UnitId) (last : UnitId) → AddsSeen old new what path last
      → AllByRecursion (Shows img config most path last.0) (option_to_list what) → AreWitnessed img config most old → AreWitnessed img config most new
  adds_witnessed old new None path last h shows is = subst (AreWitnessed img config most) (sym h) is
  adds_witnessed old new (Some what) path last (inl h) shows is = subst (AreWitnessed img config most) (sym h) is
  adds_witnessed old new (Some what) path last (inr h) shows is = newly_witnessed old new what path last h shows.0 is

-- ---- both of what an entry shows

pub all_left : {A : Type 0} (P : A → Type 0) (xs ys : List A) → AllByRecursion P (xs ++ ys) → AllByRecursion P xs
all_left P [] ys all = tt
all_left P (x ∷ xs) ys all = (all.0, all_left P xs ys all.1)

pub all_right : {A : Type 0} (P : A → Type 0) (xs ys : List A) → AllByRecursion P (xs ++ ys) → AllByRecursion P ys
all_right P [] ys all = all
all_right P (x ∷ xs) ys all = all_right P xs ys all.1

all_join : {A : Type 0} (P : A → Type 0) (xs ys : List A) → AllByRecursion P xs → AllByRecursion P ys → AllByRecursion P (xs ++ ys)
all_join P [] ys one two = two
all_join P (x ∷ xs) ys one two = (one.0, all_join P xs ys one.1 two)

pub both_in : (happened squashed : Option Observation) (mid new : List Observation) → GrowsTo mid new → AreIn (option_to_list happened) mid → AreIn (option_to_list squashed) new
    → AreIn (both happened squashed) new
both_in happened squashed mid new grows one two =
    all_join (λ o. IsIn o new) (option_to_list happened) (option_to_list squashed) (all_stay (option_to_list happened) mid new grows one) two
