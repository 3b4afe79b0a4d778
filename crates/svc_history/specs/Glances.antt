-- What a unit thread sees of a recorder at a glance.
use Rattle.std.specs.Prelude.{Bool, ◌≡◌, ◌<◌, ◌≤◌, ℕ, ◌||◌, is_some, Result, MatchResult}
use Rattle.svc_base.specs.declared.config.Config.{Config}
use Rattle.svc_base.specs.declared.ids.UnitId.{UnitId}
use Rattle.svc_base.specs.declared.refusal.Refusal.{Refusal}
use Rattle.svc_base.specs.declared.refusal.Refusal.TheVariants as refusal
use Rattle.svc_core_laws.specs.Sequence.{plain_seq}
use Rattle.svc_core_laws.specs.Words.{program}
use Rattle.svc_machine_laws.specs.Guess.{guess}
use Rattle.svc_machine.specs.Value.{MachineValue}
use Rattle.svc_machine.specs.Reads.{is_full, lease_of, runs_head}
use Rattle.svc_history.specs.declared.glance.Glance.{Glance}

-- the run is over: it has stopped, or the history is full
abbrev pub has_ended : MachineValue → Bool
has_ended m = is_some (plain_seq m.image m.plain.commits).stopped || is_full m

-- a glance or a move is refused exactly when there is no such unit
abbrev pub IsUnitKnown : {A : Type 0} → Config → UnitId → Result A Refusal → Type 0
IsUnitKnown config unit answer =
    MatchResult answer (λ _. unit.0 < config.units) (λ why. (why ≡ refusal.NoSuchUnit) × (config.units ≤ unit.0))

-- what a unit sees of a machine
abbrev pub glance_of : MachineValue → (unit : ℕ) → Glance
glance_of m unit = record {
  ended = has_ended m;
  lease = lease_of m unit;
  is_head = runs_head m unit;
  guess = guess (program m.image) m.image.entries m.plain;
}

-- the glance shows the machine as it stands
pub record IsGlance (m : MachineValue) (unit : ℕ) (g : Glance) : Type 0 where
  pub ended : g.ended ≡ has_ended m
  pub lease : g.lease ≡ lease_of m unit
  pub head : g.is_head ≡ runs_head m unit
  pub guess_is : g.guess ≡ guess (program m.image) m.image.entries m.plain
