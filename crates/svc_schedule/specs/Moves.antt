-- A unit's move: the event that it asks for.
use Rattle.std.specs.Prelude.{◌≡◌, ◌⊎◌, ℕ, ◌<◌, ◌≤◌, true, [], ◌∷◌, ◌++◌, Option, None, Some, is_some}
use Rattle.svc_base.specs.declared.config.Config.{Config}
use Rattle.svc_base.specs.declared.ids.UnitId.{UnitId}
use Rattle.svc_base.specs.declared.ids.WordAddr.{WordAddr}
use Rattle.svc_base.specs.declared.refusal.Refusal.{Refusal}
use Rattle.svc_base.specs.declared.refusal.Refusal.TheVariants.{SetFull}
use Rattle.svc_image.specs.Image.{Image}
use Rattle.svc_core_laws.specs.Bursts.{Advance, IsAdvance}
use Rattle.svc_core.specs.declared.burst.Lease.{Lease}
use Rattle.svc_machine_laws.specs.Events.{Event, Assign, Submit, Replace, Commit}
use Rattle.svc_machine_laws.specs.Standing.{Standing, refusal_of, reply_to}
use Rattle.svc_history_laws.specs.Entries.{entry_of}
use Rattle.svc_history.specs.Moves.{NextMove, move_of}
use Rattle.svc_history.specs.Moves as move
use Rattle.svc_history.specs.Recorded.{Recorded, standing_of}

-- the burst is what advancing the lease by at most `most` turns makes
pub record IsBurstOf (img : Image) (most : ℕ) (lease : Lease) (b : Advance) : Type 0 where
  pub unit : b.unit ≡ lease.unit
  pub epoch : b.epoch ≡ lease.epoch
  pub start : b.start ≡ lease.core
  pub advance : IsAdvance img most b

-- the unit's move is to run its task on, and the burst does that
abbrev pub RunsOnBy : (most : ℕ) → Recorded → UnitId → Advance → Type 0
RunsOnBy most r unit b =
    (lease : Lease) × (move_of r.machine unit.0 ≡ move.RunOn lease) × IsBurstOf r.machine.image most lease b

-- a unit with a running task asks to submit its burst; if that is refused because its cache has no room for the asked
-- word, it asks to replace the line that the refusal names
abbrev pub SubmitsOrReplaces : (unit : ℕ) → Advance → Option Refusal → Event → Type 0
SubmitsOrReplaces unit b why x =
    ((x ≡ Submit b) × ((addr : WordAddr) → why ≡ Some (SetFull addr) → ⊥))
    ⊎ ((addr : WordAddr) × (why ≡ Some (SetFull addr)) × (x ≡ Replace unit addr.0))

-- what a move asks for
abbrev pub Asks : Image → Config → Standing → (most unit : ℕ) → NextMove → Event → Type 0
Asks img config s most unit (move.Begin entry) x = x ≡ Assign unit entry
Asks img config s most unit (move.RunOn lease) x =
    (b : Advance) × IsBurstOf img most lease b × SubmitsOrReplaces unit b (refusal_of img config s (Submit b)) x
Asks img config s most unit move.Commit x = x ≡ Commit unit
Asks img config s most unit move.Wait x = ⊥
Asks img config s most unit move.Ended x = ⊥

-- the event is the unit's move, with a burst of at most `most` turns
pub record IsMove (most : ℕ) (r : Recorded) (unit : ℕ) (x : Event) : Type 0 where
  pub known : unit < r.machine.config.units
  pub asks : Asks r.machine.image r.machine.config (standing_of r) most unit (move_of r.machine unit) x

-- the event is accepted, and the history has its entry
pub record Records (old new : Recorded) (x : Event) : Type 0 where
  pub accepted : refusal_of old.machine.image old.machine.config (standing_of old) x ≡ None
  pub entries : new.entries ≡ old.entries ++ entry_of x (reply_to old.machine.image (standing_of old) x) ∷ []
  pub image : new.machine.image ≡ old.machine.image
  pub config : new.machine.config ≡ old.machine.config

-- the unit's move is accepted
pub record IsMade (most : ℕ) (old new : Recorded) (unit : UnitId) : Type 0 where
  pub event : Event
  pub move_is : IsMove most old unit.0 event
  pub records : Records old new event

-- there is no such unit, or it has no move
abbrev pub HasNoMove : Recorded → (unit : ℕ) → Type 0
HasNoMove r unit =
    (r.machine.config.units ≤ unit) ⊎ ((move_of r.machine unit ≡ move.Wait) ⊎ (move_of r.machine unit ≡ move.Ended))

-- the unit's move is refused
pub record IsRefused (most : ℕ) (r : Recorded) (unit : ℕ) : Type 0 where
  pub event : Event
  pub move_is : IsMove most r unit event
  pub refused_is : is_some (refusal_of r.machine.image r.machine.config (standing_of r) event) ≡ true

-- a step passes the unit over
abbrev pub IsPassed : (most : ℕ) → Recorded → UnitId → Type 0
IsPassed most r unit = HasNoMove r unit.0 ⊎ IsRefused most r unit.0
