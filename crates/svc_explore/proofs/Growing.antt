-- Lists that grow.
use Rattle.std.proofs.Common.{ℕ, zero, suc, ◌≡◌, ◌⊎◌, ◌+◌, ◌<◌, Bool, true, false, cond, true≢false, is_some, List, [], ◌∷◌, ◌++◌, map, length, Some, inl, inr, Vec, vec_items, refl, sym, ap, ◌∙◌, subst, arith, slice_get}
use Rattle.std.specs.declared.alloc.Global.{Global}
use Rattle.std.specs.Map.{lookup}
use Rattle.std.specs.Str.{bytes_eq}
use Rattle.std.proofs.lemmas.Slice.Eq.{bytes_eq-Decides}
use Rattle.indexmap.specs.IndexMap.{insert_entry}
use Rattle.std.proofs.lemmas.Option.{none-some, same_Some}
use Rattle.svc_base.specs.declared.config.Config.{Config}
use Rattle.svc_image.specs.Image.{Image, IsImage}
use Rattle.svc_machine_laws.specs.Standing.{Standing}
use Rattle.svc_base.specs.declared.ids.UnitId.{UnitId}
use Rattle.svc_explore_laws.specs.declared.observation.Observation.{Observation}
use Rattle.svc_machine_laws.proofs.Places.{some_at, within}
use Rattle.svc_machine_laws.proofs.Given.{given}
use Rattle.svc_machine_laws.proofs.Folds.{opened_reached}
use Rattle.svc_renaming_laws.specs.ClosedUpToNames.{AllExplored, IsClosedUpToNames, IsOpeningListed}
use Rattle.svc_renaming_laws.proofs.ClosedNames.{shows}
use Rattle.svc_renaming_laws.proofs.KeyNames.{chosen_tell}
use Rattle.svc_explore.proofs.KeyTells.{key_tells}
use Rattle.svc_explore_laws.specs.Closed.{IsIn, AreIn, ShowNothingElse}
use Rattle.svc_explore.specs.KeyWords.{HasKey, image_key}
use Rattle.svc_explore.specs.Search.{GrowsTo, IsExploredAt, IsExploredBy, IsExploredFrom, IsPartlyClosed, Place, are_keys, key_at, path_at}
use Rattle.svc_explore.specs.Tries.{LeadsToKey}

pub append_grows : {A : Type 0} (xs ys : List A) → GrowsTo xs (xs ++ ys)
append_grows [] ys i x e = absurd (none-some x e)
append_grows (z ∷ xs) ys zero x e = e
append_grows (z ∷ xs) ys (suc i) x e = append_grows xs ys i x e

pub last_is : {A : Type 0} (xs : List A) (y : A) → slice_get (xs ++ y ∷ []) (length xs) ≡ Some y
last_is [] y = refl
last_is (x ∷ xs) y = last_is xs y

pub map_append : {A B : Type 0} (f : A → B) (xs ys : List A) → map f (xs ++ ys) ≡ map f xs ++ map f ys
map_append f [] ys = refl
map_append {A} {B} f (x ∷ xs) ys = ap {B = List B} (λ l. f x ∷ l) (map_append f xs ys)

pub same_grows : {A : Type 0} (xs ys : List A) → ys ≡ xs → GrowsTo xs ys
same_grows xs ys e i x h = ap (λ l. slice_get l i) e ∙ h

-- ---- a key that is added to a map

abbrev pub eq_keys : Vec ℕ Global → Vec ℕ Global → Bool
eq_keys a b = bytes_eq (vec_items a) (vec_items b)

module _ (key : Vec ℕ Global) (path : Vec UnitId Global) where
  abbrev pub put : List Place → List Place
  put es = insert_entry eq_keys es key path

  pub insert_listed : (es : List Place) → IsIn (vec_items key) (are_keys (put es))
  insert_listed [] = (0, refl)
  insert_listed (e ∷ es) = by (eq_keys key e.0) refl (insert_listed es)
    where
      by : (b : Bool) → eq_keys key e.0 ≡ b → IsIn (vec_items key) (are_keys (put es)) → IsIn (vec_items key) (are_keys (cond b ((e.0, path) ∷ es) (e ∷ put es)))
      by true h rest = (0, ap (λ (l : List ℕ). Some l) (sym ((bytes_eq-Decides (vec_items key) (vec_items e.0)).0 h)))
      by false h rest = (suc rest.0, rest.1)

-- a key that is found is one of the map's
pub found_listed : (key : List ℕ) (es : List Place) → is_some (lookup (λ (a : Vec ℕ Global). bytes_eq key (vec_items a)) es) ≡ true → IsIn key (are_keys es)
found_listed key [] = λ e. absurd (true≢false (sym e))
found_listed key (x ∷ es) = by (bytes_eq key (vec_items x.0)) refl (found_listed key es)
  where
    by : (b : Bool) → bytes_eq key (vec_items x.0) ≡ b → (is_some (lookup (λ (a : Vec ℕ Global). bytes_eq key (vec_items a)) es) ≡ true → IsIn key (are_keys es))
        → is_some (cond b (Some x.1) (lookup (λ (a : Vec ℕ Global). bytes_eq key (vec_items a)) es)) ≡ true → IsIn key (vec_items x.0 ∷ are_keys es)
    by true h rest e = (0, ap (λ (l : List ℕ). Some l) (sym ((bytes_eq-Decides key (vec_items x.0)).0 h)))
    by false h rest e = let there = rest e in (suc there.0, there.1)

pub map_at : {A B : Type 0} (f : A → B) (xs : List A) (i : ℕ) (x : A) → slice_get xs i ≡ Some x → slice_get (map f xs) i ≡ Some (f x)
map_at f [] i x h = absurd (none-some x h)
map_at f (y ∷ xs) zero x h = ap (λ z. Some (f z)) (same_Some y x h)
map_at f (y ∷ xs) (suc i) x h = map_at f xs i x h

pub mapped_at : {A B : Type 0} (f : A → B) (xs : List A) (i : ℕ) (y : B) → slice_get (map f xs) i ≡ Some y → (x : A) × (slice_get xs i ≡ Some x) × (f x ≡ y)
mapped_at f [] i y h = absurd (none-some y h)
mapped_at f (x ∷ xs) zero y h = (x, refl, same_Some (f x) y h)
mapped_at f (x ∷ xs) (suc i) y h = mapped_at f xs i y h

pub grows_trans : {A : Type 0} (xs ys zs : List A) → GrowsTo xs ys → GrowsTo ys zs → GrowsTo xs zs
grows_trans xs ys zs e f i x h = f i x (e i x h)

pub stays_in : {A : Type 0} (x : A) (xs ys : List A) → GrowsTo xs ys → IsIn x xs → IsIn x ys
stays_in x xs ys grows is = (is.0, grows is.0 x is.1)

pub all_stay : {A : Type 0} (os xs ys : List A) → GrowsTo xs ys → AreIn os xs → AreIn os ys
all_stay [] xs ys grows are = tt
all_stay (o ∷ os) xs ys grows are = (stays_in o xs ys grows are.0, all_stay os xs ys grows are.1)

-- what holds of each element grows with the list
pub map_grows : {A B : Type 0} (f : A → B) (xs ys : List A) → GrowsTo xs ys → GrowsTo (map f xs) (map f ys)
map_grows f xs ys grows i y h = let x = mapped_at f xs i y h in map_at f ys i x.0 (grows i x.0 x.1) ∙ ap Some x.2

-- what was explored stays so
module _ (img : Image) (config : Config) (most : ℕ) (places more : List Place) (found others : List Observation) (grows : GrowsTo places more) (rises : GrowsTo found others) where
  keys_grow : GrowsTo (are_keys places) (are_keys more)
  keys_grow = map_grows key_at places more grows

  stays_from : (s : Standing) (unit : ℕ) → IsExploredFrom img config most (are_keys places) found s unit → IsExploredFrom img config most (are_keys more) others s unit
  stays_from s unit e = record {
    reached = e.reached;
    room = e.room;
    move = elim e.move [
      | inl none ↦ inl none
      | inr goes ↦ inr (record {
        event = goes.event;
        moves = goes.moves;
        found_is = all_stay _ found others rises goes.found_is;
        key = goes.key;
        has_key = goes.has_key;
        listed = stays_in goes.key (are_keys places) (are_keys more) keys_grow goes.listed;
      })
    ];
  }

  -- the place of an index stays
  pub place_stays : (index : ℕ) (e : Place) → index < length places → slice_get more index ≡ Some e → slice_get places index ≡ Some e
  place_stays index e inside h = let old = some_at places index inside in old.1 ∙ ap Some (same_Some old.0 e (sym (grows index old.0 old.1) ∙ h))

  pub explored_at_stays : (index unit : ℕ) → index < length places → IsExploredAt img config most places found index unit → IsExploredAt img config most more others index unit
  explored_at_stays index unit inside h e there s leads = stays_from s unit (h e (place_stays index e inside there) s leads)

pub below_more : (k n : ℕ) → k < n + 1 → (k < n) ⊎ (k ≡ n)
below_more k n h = grind arith

module _ (img : Image) (config : Config) (most : ℕ) where
  pub opening_stays : (places more : List Place) → GrowsTo places more → IsOpeningListed img config (HasKey img config) (are_keys places) → IsOpeningListed img config (HasKey img config) (are_keys more)
  opening_stays places more grows o = record { key = o.key; has_key = o.has_key; listed = stays_in o.key (are_keys places) (are_keys more) (map_grows key_at places more grows) o.listed }

  pub closed_none : (places : List Place) (found : List Observation) → IsOpeningListed img config (HasKey img config) (are_keys places) → IsPartlyClosed img config most places found 0
  closed_none places found opening = record { opening = opening; each = λ index h. absurd (omega (arith, h)) }

  pub closed_more : (places more : List Place) (found others : List Observation) → GrowsTo places more → GrowsTo found others → (index : ℕ) → index < length places
      → IsPartlyClosed img config most places found index → ((unit : ℕ) → unit < config.units → IsExploredAt img config most more others index unit)
      → IsPartlyClosed img config most more others (index + 1)
  closed_more places more found others grows rises index inside closed each = record {
    opening = opening_stays places more grows closed.opening;
    each = λ i h unit known. elim (below_more i index h) [
      | inl low ↦ explored_at_stays img config most places more found others grows rises i unit (omega (arith, low, inside)) (closed.each i low unit known)
      | inr is ↦ subst (λ j. IsExploredAt img config most more others j unit) (sym is) (each unit known)
    ];
  }

  -- where the schedule of a key leads, all units were explored
  all_explored : (places : List Place) (found : List Observation) (e : Place) → LeadsToKey img config most (path_at e) (key_at e)
      → ((unit : ℕ) → unit < config.units → IsExploredBy img config most (are_keys places) found (path_at e) unit)
      → AllExplored img config most (HasKey img config) (are_keys places) found (key_at e)
  all_explored places found e met each =
      let first = each 0 (let h = config.some_units in omega (arith, h)) met.standing met.leads in
      record {
        standing = met.standing;
        reached = first.reached;
        has_key = met.has_key;
        room = first.room;
        move = λ unit known. (each unit known met.standing met.leads).move;
      }

  pub closed_whole : (places : List Place) (found : List Observation) → ((i : ℕ) (e : Place) → slice_get places i ≡ Some e → LeadsToKey img config most (path_at e) (key_at e))
      → IsPartlyClosed img config most places found (length places) → IsClosedUpToNames img config most (HasKey img config) (are_keys places) found
  closed_whole places found met closed = record {
    opening = closed.opening;
    each = λ k there.
        let e = mapped_at key_at places there.0 k there.1 in
        let inside : there.0 < length places = within places there.0 e.0 e.1 in
        subst (AllExplored img config most (HasKey img config) (are_keys places) found) e.2
        (all_explored places found e.0 (met there.0 e.0 e.1) (λ unit known. closed.each there.0 inside unit known e.0 e.1));
  }

  -- THE WHOLE SEARCH
  pub closed_shows : IsImage img → (places : List Place) (found : List Observation) → IsClosedUpToNames img config most (HasKey img config) (are_keys places) found → ShowNothingElse img config most found
  closed_shows is places found closed =
      shows img is config most (HasKey img config) (chosen_tell img config (image_key img config) (key_tells img config)) (are_keys places) found closed (opened_reached img (given img is) config 0)
