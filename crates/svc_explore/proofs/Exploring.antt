-- What a recorder's move tells of the exploration.
use Rattle.std.proofs.Common.{ℕ, ◌≡◌, ◌∷◌, [], List, Result, Ok, Err, Some, IfOk, inl, inr, refl, sym, ap, ◌∙◌, subst, slice_get, suc, vec_items}
use Rattle.std.specs.List.{AllByRecursion}
use Rattle.svc_base.specs.declared.config.Config.{Config}
use Rattle.svc_base.specs.declared.ids.UnitId.{UnitId}
use Rattle.svc_image.specs.Image.{Image}
use Rattle.svc_machine_laws.specs.Standing.{standing_after, opened_at}
use Rattle.svc_machine_laws.specs.Reached.{IsReached}
use Rattle.svc_history.specs.Recorded.{Recorded, standing_of}
use Rattle.svc_explore_laws.specs.declared.observation.Observation.{Observation}
use Rattle.svc_explore_laws.specs.Moves.{HasRoom}
use Rattle.svc_explore_laws.specs.Closed.{IsIn, AreIn, HasNoMove}
use Rattle.svc_explore.specs.KeyWords.{HasKey}
use Rattle.svc_explore.specs.Search.{IsExploredFrom}
use Rattle.svc_explore.specs.Recorders.{Leads, LeadsOnly}
use Rattle.svc_explore.proofs.Leading.{leads_more}
use Rattle.svc_explore.specs.declared.search.Tried.{Tried}
use Rattle.svc_explore.specs.declared.search.Tried.TheVariants as tried
use Rattle.svc_explore.specs.Tries.{IsMovedTo, IsTried, TriedBy, Shows, ShowsIt, both}

pub all_at : {A : Type 0} (xs : List A) (P : A → Type 0) → ((i : ℕ) (x : A) → slice_get xs i ≡ Some x → P x) → AllByRecursion P xs
all_at [] P h = tt
all_at (x ∷ xs) P h = (h 0 x refl, all_at xs P (λ i y e. h (suc i) y e))

-- what holds of a result holds in other words
pub if_ok : {A E : Type 0} (r : Result A E) (P Q : A → Type 0) → ((x : A) → P x → Q x) → IfOk r P → IfOk r Q
if_ok (Ok x) P Q f h = f x h
if_ok (Err e) P Q f h = h

-- a recorder, where its unit was tried
module _ (most : ℕ) (r : Recorded) (unit : ℕ) where
  -- where the move leads
  there : (sights : List Observation) (next : List ℕ) (m : IsMovedTo most r unit sights next) → HasKey r.machine.image r.machine.config (standing_after r.machine.image (standing_of r) m.moved.event) next
  there sights next m =
      subst (λ s. HasKey r.machine.image r.machine.config s next) m.moved.standing
      (subst (λ c. HasKey r.machine.image c (standing_of m.new) next) m.moved.config (subst (λ i. HasKey i m.new.machine.config (standing_of m.new) next) m.moved.image m.has_key))

  module _ (reached : IsReached r.machine.image r.machine.config (standing_of r)) (room : HasRoom r.machine.config (standing_of r).plain) where
    none_from : (keys : List (List ℕ)) (found : List Observation) → HasNoMove r.machine.image r.machine.config most (standing_of r) unit → IsExploredFrom r.machine.image r.machine.config most keys found (standing_of r) unit
    none_from keys found none = record { reached = reached; room = room; move = inl none }

    moved_from : (keys : List (List ℕ)) (found sights : List Observation) (next : List ℕ) → IsMovedTo most r unit sights next → AreIn sights found → IsIn next keys
        → IsExploredFrom r.machine.image r.machine.config most keys found (standing_of r) unit
    moved_from keys found sights next m are listed = record {
      reached = reached;
      room = room;
      move = inr (record {
        event = m.moved.event;
        moves = m.moved.moves;
        found_is = subst (λ os. AreIn os found) m.sights_are are;
        key = next;
        has_key = there sights next m;
        listed = listed;
      });
    }

    pub tried_by : (t : Tried) → IsTried most r unit t → (path : List UnitId) → LeadsOnly r.machine.image r.machine.config most path (standing_of r) → TriedBy r.machine.image r.machine.config most path unit t
    tried_by tried.Off h path only = tt
    tried_by tried.Rests h path only = λ keys found s leads.
        subst (λ z. IsExploredFrom r.machine.image r.machine.config most keys found z unit) (sym (only s leads)) (none_from keys found h)
    tried_by (tried.Moves happened squashed next) h path only = λ keys found are listed s leads.
        subst (λ z. IsExploredFrom r.machine.image r.machine.config most keys found z unit) (sym (only s leads)) (moved_from keys found (both happened squashed) (vec_items next) h are listed)

pub shows_it : (most : ℕ) (r : Recorded) (unit : UnitId) (path : List UnitId) → Leads r.machine.image r.machine.config most (opened_at r.machine.image r.machine.config 0) path (standing_of r)
    → (t : Tried) → IsTried most r unit.0 t → ShowsIt r.machine.image r.machine.config most path unit t
shows_it most r unit path leads tried.Off h = tt
shows_it most r unit path leads tried.Rests h = tt
shows_it most r unit path leads (tried.Moves happened squashed next) h =
    let img : Image = r.machine.image in
    let config : Config = r.machine.config in (
      all_at (both happened squashed) (Shows img config most path unit.0) (λ i o at. record {
        standing = standing_of r;
        leads = leads;
        event = h.moved.event;
        moves = h.moved.moves;
        seen = (i, ap (λ l. slice_get l i) (sym h.sights_are) ∙ at);
      }),
      record {
        standing = standing_after img (standing_of r) h.moved.event;
        leads = leads_more img config most (opened_at img config 0) (standing_of r) path unit h.moved.event leads h.moved.moves;
        has_key = there most r unit.0 (both happened squashed) (vec_items next) h;
      },
    )

-- what the schedule shows of a recorder's image and configuration
pub shown_as : (img : Image) (config : Config) (most : ℕ) (r : Recorded) (unit : UnitId) → r.machine.image ≡ img → r.machine.config ≡ config → (path : List UnitId)
    → Leads img config most (opened_at img config 0) path (standing_of r) → (t : Tried)
    → ((p : List UnitId) → Leads r.machine.image r.machine.config most (opened_at r.machine.image r.machine.config 0) p (standing_of r) → ShowsIt r.machine.image r.machine.config most p unit t)
    → ShowsIt img config most path unit t
shown_as img config most r unit image_is config_is path leads t h =
    subst (λ (c : Config). (p : List UnitId) → Leads img c most (opened_at img c 0) p (standing_of r) → ShowsIt img c most p unit t) config_is
    (subst (λ (i : Image). (p : List UnitId) → Leads i r.machine.config most (opened_at i r.machine.config 0) p (standing_of r) → ShowsIt i r.machine.config most p unit t) image_is h)
    path leads

pub tried_as : (img : Image) (config : Config) (most : ℕ) (r : Recorded) (unit : ℕ) → r.machine.image ≡ img → r.machine.config ≡ config → (path : List UnitId)
    → LeadsOnly img config most path (standing_of r) → (t : Tried)
    → ((p : List UnitId) → LeadsOnly r.machine.image r.machine.config most p (standing_of r) → TriedBy r.machine.image r.machine.config most p unit t)
    → TriedBy img config most path unit t
tried_as img config most r unit image_is config_is path only t h =
    subst (λ (c : Config). (p : List UnitId) → LeadsOnly img c most p (standing_of r) → TriedBy img c most p unit t) config_is
    (subst (λ (i : Image). (p : List UnitId) → LeadsOnly i r.machine.config most p (standing_of r) → TriedBy i r.machine.config most p unit t) image_is h)
    path only
