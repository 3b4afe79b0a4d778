-- Moves and plays of a recorder.
use Rattle.std.specs.Prelude.{◌≡◌, ◌++◌, ◌∷◌, [], ◌≤◌, ℕ, List}
use Rattle.svc_base.specs.declared.config.Config.{Config}
use Rattle.svc_base.specs.declared.ids.UnitId.{UnitId}
use Rattle.svc_image.specs.Image.{Image}
use Rattle.svc_machine_laws.specs.Events.{Event}
use Rattle.svc_machine_laws.specs.Standing.{Standing, opened_at, standing_after, reply_to}
use Rattle.svc_history_laws.specs.declared.entry.Entry.{Entry}
use Rattle.svc_history_laws.specs.Entries.{entry_of}
use Rattle.svc_history.specs.Recorded.{Recorded, standing_of}
use Rattle.svc_core.specs.declared.burst.Lease.{Lease}
use Rattle.svc_core_laws.specs.Bursts.{Advance, IsAdvance}
use Rattle.svc_history.specs.Moves.{RunOn, move_of}
use Rattle.svc_explore_laws.specs.Moves.{IsTurn, Moves}

-- the unit's move was accepted
pub record HasMoved (most : ℕ) (old new : Recorded) (unit : ℕ) : Type 0 where
  pub event : Event
  pub moves : Moves old.machine.image old.machine.config most (standing_of old) unit event
  pub entries : new.entries ≡ old.entries ++ entry_of event (reply_to old.machine.image (standing_of old) event) ∷ []
  pub standing : standing_of new ≡ standing_after old.machine.image (standing_of old) event
  pub image : new.machine.image ≡ old.machine.image
  pub config : new.machine.config ≡ old.machine.config

-- the units' moves, one after another, lead from one standing to another
abbrev pub Leads : Image → Config → (most : ℕ) → Standing → List UnitId → Standing → Type 0
Leads img config most s [] t = t ≡ s
Leads img config most s (unit ∷ units) t =
    (x : Event) × Moves img config most s unit.0 x × Leads img config most (standing_after img s x) units t

-- the schedule leads from the opening to no other standing
abbrev pub LeadsOnly : Image → Config → (most : ℕ) → List UnitId → Standing → Type 0
LeadsOnly img config most path s = (t : Standing) → Leads img config most (opened_at img config 0) path t → t ≡ s

-- nor to any
abbrev pub LeadsNowhere : Image → Config → (most : ℕ) → List UnitId → Type 0
LeadsNowhere img config most path = (t : Standing) → Leads img config most (opened_at img config 0) path t → ⊥

-- a play and where it ends
abbrev pub PlaysTo : Image → Config → (most : ℕ) → Standing → List Entry → Standing → Type 0
PlaysTo img config most s [] u = u ≡ s
PlaysTo img config most s (e ∷ es) u = (t : Standing) × IsTurn img config most s t e × PlaysTo img config most t es u

-- the unit's move is to run its task on, and the burst does that
abbrev pub RunsOnBy : (most : ℕ) → Recorded → UnitId → Advance → Type 0
RunsOnBy most r unit b = (lease : Lease) × (move_of r.machine unit.0 ≡ RunOn lease)
    × ((b.unit ≡ lease.unit) × (b.epoch ≡ lease.epoch) × (b.start ≡ lease.core)) × IsAdvance r.machine.image most b

-- no more epochs were given than events accepted
abbrev pub GaveFew : Standing → Type 0
GaveFew s = s.plain.epoch ≤ s.plain.accepted
