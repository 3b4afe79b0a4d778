-- What all entries show, as a list, and by their numbers.
use Rattle.std.proofs.Common.{ℕ, zero, suc, ◌≡◌, ◌⊎◌, ◌+◌, ◌<◌, List, [], ◌∷◌, ◌++◌, length, map, take, Some, inl, inr, refl, sym, ap, ◌∙◌, subst, arith, get_or, slice_get}
use Rattle.std.proofs.lemmas.List.{append-nil, append_assoc, length-take-le}
use Rattle.std.proofs.lemmas.Option.{none-some, same_Some, slice_get-get_or}
use Rattle.svc_base.specs.declared.config.Config.{Config}
use Rattle.svc_image.specs.Image.{Image}
use Rattle.svc_machine_laws.specs.Standing.{Standing, opened_at}
use Rattle.svc_history_laws.specs.declared.entry.Entry.{Entry}
use Rattle.svc_history_laws.specs.Legal.{after_entry, last}
use Rattle.svc_explore_laws.specs.declared.observation.Observation.{Observation}
use Rattle.svc_explore_laws.specs.Observations.{Numbers, numbers, observations, observed}
use Rattle.svc_explore_laws.specs.Closed.{IsIn}
use Rattle.svc_observations.specs.declared.trace.Sighting.{Sighting}
use Rattle.svc_observations.specs.Sightings.{IsSeenAt, all_sighted, sighted}

-- ---- one entry more

pub more_sighted : (img : Image) (s : Standing) (k : ℕ) (es : List Entry) (e : Entry)
    → all_sighted img s k (es ++ e ∷ []) ≡ all_sighted img s k es ++ sighted (k + length es) (observations (last img s es).plain e)
unfolding all_sighted last
more_sighted img s k [] e = append-nil (sighted k (observations s.plain e)) ∙ ap (λ n. sighted n (observations s.plain e)) (omega arith)
more_sighted img s k (f ∷ es) e =
    let there = observations (last img (after_entry img s f) es).plain e in
    let number : (k + 1) + length es ≡ k + suc (length es) = omega arith in
    ap (λ (l : List Sighting). sighted k (observations s.plain f) ++ l) (more_sighted img (after_entry img s f) (k + 1) es e ∙ ap (λ n. all_sighted img (after_entry img s f) (k + 1) es ++ sighted n there) number)
    ∙ sym (append_assoc (sighted k (observations s.plain f)) (all_sighted img (after_entry img s f) (k + 1) es) (sighted (k + suc (length es)) there))

take_next : (es : List Entry) (n : ℕ) (e : Entry) → slice_get es n ≡ Some e → take (suc n) es ≡ take n es ++ e ∷ []
take_next [] n e h = absurd (none-some e h)
take_next (x ∷ es) zero e h = ap (λ y. y ∷ []) (same_Some x e h)
take_next (x ∷ es) (suc n) e h = ap (λ l. x ∷ l) (take_next es n e h)

pub take_more : (es : List Entry) (n : ℕ) (e : Entry) → slice_get es n ≡ Some e → take (n + 1) es ≡ take n es ++ e ∷ []
take_more es n e h = let same : n + 1 ≡ suc n = omega arith in ap (λ k. take k es) same ∙ take_next es n e h

-- what the entry after the first n shows comes last
pub one_more : (img : Image) (s : Standing) (es : List Entry) (n : ℕ) (d : Entry) (ks : Numbers) (old : List Sighting) → n < length es
    → ks ≡ numbers (last img s (take n es)).plain → old ≡ all_sighted img s 0 (take n es)
    → old ++ sighted n (observed ks (get_or es n d)) ≡ all_sighted img s 0 (take (n + 1) es)
one_more img s es n d ks old inside known all =
    let e = get_or es n d in
    let before = take n es in
    let many : n ≡ 0 + length before = let l = length-take-le n es (omega (arith, inside)) in omega (arith, l) in
    ap (λ (l : List Sighting). l ++ sighted n (observed ks e)) all
    ∙ ap (λ (k : Numbers). all_sighted img s 0 before ++ sighted n (observed k e)) known
    ∙ ap (λ k. all_sighted img s 0 before ++ sighted k (observations (last img s before).plain e)) many
    ∙ sym (more_sighted img s 0 before e) ∙ ap (all_sighted img s 0) (sym (take_more es n e (slice_get-get_or es n d inside)))

-- ---- what is in a list

in_later : {A : Type 0} (x y : A) (ys : List A) → IsIn x ys → IsIn x (y ∷ ys)
in_later x y ys h = (suc h.0, h.1)

pub in_left : {A : Type 0} (x : A) (xs ys : List A) → IsIn x xs → IsIn x (xs ++ ys)
in_left x [] ys h = absurd (none-some x h.1)
in_left x (y ∷ xs) ys (zero, h) = (zero, h)
in_left x (y ∷ xs) ys (suc i, h) = in_later x y (xs ++ ys) (in_left x xs ys (i, h))

pub in_right : {A : Type 0} (x : A) (xs ys : List A) → IsIn x ys → IsIn x (xs ++ ys)
in_right x [] ys h = h
in_right x (y ∷ xs) ys h = in_later x y (xs ++ ys) (in_right x xs ys h)

in_either : {A : Type 0} (x : A) (xs ys : List A) → IsIn x (xs ++ ys) → IsIn x xs ⊎ IsIn x ys
in_either x [] ys h = inr h
in_either x (y ∷ xs) ys (zero, h) = inl (zero, h)
in_either x (y ∷ xs) ys (suc i, h) = elim (in_either x xs ys (i, h)) [
  | inl a ↦ inl (in_later x y xs a)
  | inr b ↦ inr b
]

in_sighted : (k : ℕ) (os : List Observation) (o : Observation) → IsIn o os → let s : Sighting = record { what = o; entry = k } in IsIn s (sighted k os)
in_sighted k [] o h = absurd (none-some o h.1)
in_sighted k (p ∷ os) o (zero, h) = (zero, ap (λ (q : Observation). let s : Sighting = record { what = q; entry = k } in Some s) (same_Some p o h))
in_sighted k (p ∷ os) o (suc i, h) = let rest = in_sighted k os o (i, h) in (suc rest.0, rest.1)

of_sighted : (k : ℕ) (os : List Observation) (t : Sighting) → IsIn t (sighted k os) → (t.entry ≡ k) × IsIn t.what os
of_sighted k [] t h = absurd (none-some t h.1)
of_sighted k (p ∷ os) t (zero, h) =
    let first : Sighting = record { what = p; entry = k } in
    let same : first ≡ t = same_Some first t h in
    (sym (ap (λ (s : Sighting). s.entry) same), (zero, ap (λ (s : Sighting). Some s.what) same))
of_sighted k (p ∷ os) t (suc i, h) = let rest = of_sighted k os t (i, h) in (rest.0, in_later t.what p os rest.1)

-- ---- the entries that show what is listed

-- the entry at this place shows it, where the first stands here
abbrev SeenFrom : Image → Standing → List Entry → (place : ℕ) → Observation → Type 0
SeenFrom img s es place o = (e : Entry) × (slice_get es place ≡ Some e) × IsIn o (observations (last img s (take place es)).plain e)

listed_from : (img : Image) (s : Standing) (k : ℕ) (es : List Entry) (place : ℕ) (o : Observation) → SeenFrom img s es place o
    → let t : Sighting = record { what = o; entry = k + place } in IsIn t (all_sighted img s k es)
unfolding all_sighted last
listed_from img s k [] place o h = absurd (none-some h.0 h.1)
listed_from img s k (f ∷ es) zero o h =
    let same : f ≡ h.0 = same_Some f h.0 h.1 in
    let here : IsIn o (observations s.plain f) = subst (λ (e : Entry). IsIn o (observations s.plain e)) (sym same) h.2 in
    let number : k ≡ k + 0 = omega arith in
    let t : ℕ → Sighting = λ n. record { what = o; entry = n } in
    subst (λ n. IsIn (t n) (all_sighted img s k (f ∷ es))) number
    (in_left (t k) (sighted k (observations s.plain f)) (all_sighted img (after_entry img s f) (k + 1) es) (in_sighted k (observations s.plain f) o here))
listed_from img s k (f ∷ es) (suc place) o h =
    let number : (k + 1) + place ≡ k + suc place = omega arith in
    let t : ℕ → Sighting = λ n. record { what = o; entry = n } in
    subst (λ n. IsIn (t n) (all_sighted img s k (f ∷ es))) number
    (in_right (t ((k + 1) + place)) (sighted k (observations s.plain f)) (all_sighted img (after_entry img s f) (k + 1) es)
    (listed_from img (after_entry img s f) (k + 1) es place o h))

seen_from : (img : Image) (s : Standing) (k : ℕ) (es : List Entry) (t : Sighting) → IsIn t (all_sighted img s k es)
    → (place : ℕ) × (t.entry ≡ k + place) × SeenFrom img s es place t.what
unfolding all_sighted last
seen_from img s k [] t h = absurd (none-some t h.1)
seen_from img s k (f ∷ es) t h = elim (in_either t (sighted k (observations s.plain f)) (all_sighted img (after_entry img s f) (k + 1) es) h) [
  | inl here ↦
      let is = of_sighted k (observations s.plain f) t here in
      (zero, is.0 ∙ omega arith, (f, refl, is.1))
  | inr there ↦
      let is = seen_from img (after_entry img s f) (k + 1) es t there in
      let number : (k + 1) + is.0 ≡ k + suc is.0 = omega arith in
      (suc is.0, is.1 ∙ number, is.2)
]

module _ (img : Image) (config : Config) (es : List Entry) where
  pub is_listed : (number : ℕ) (o : Observation) → IsSeenAt img config es number o
      → let t : Sighting = record { what = o; entry = number } in IsIn t (all_sighted img (opened_at img config 0) 0 es)
  is_listed number o h =
      let none : 0 + number ≡ number = omega arith in
      let t : ℕ → Sighting = λ n. record { what = o; entry = n } in
      subst (λ n. IsIn (t n) (all_sighted img (opened_at img config 0) 0 es)) none (listed_from img (opened_at img config 0) 0 es number o (h.entry, h.entry_is, h.seen))

  pub listed_is_seen : (t : Sighting) → IsIn t (all_sighted img (opened_at img config 0) 0 es) → IsSeenAt img config es t.entry t.what
  listed_is_seen t h =
      let is = seen_from img (opened_at img config 0) 0 es t h in
      let there : IsSeenAt img config es is.0 t.what = record { entry = is.2.0; entry_is = is.2.1; seen = is.2.2 } in
      let none : 0 + is.0 ≡ is.0 = omega arith in
      subst (λ n. IsSeenAt img config es n t.what) (sym (is.1 ∙ none)) there
