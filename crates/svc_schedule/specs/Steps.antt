-- Steps of a run, and what a run of steps is.
use Rattle.std.specs.Prelude.{◌≡◌, ◌⊎◌, ℕ, zero, suc, ◌+◌, ◌≤◌, Bool, true, false, List, [], ◌∷◌, ◌++◌, length}
use Rattle.svc_base.specs.declared.config.Config.{Config}
use Rattle.svc_base.specs.declared.ids.UnitId.{UnitId}
use Rattle.svc_image.specs.Image.{Image}
use Rattle.svc_core_laws.specs.declared.end.Ending.{Ending}
use Rattle.svc_core_laws.specs.declared.end.Ending.TheVariants as ending
use Rattle.svc_core_laws.specs.Sequence.{ending_of, plain_seq}
use Rattle.svc_machine.specs.Reads.{is_full}
use Rattle.svc_machine.specs.Value.{MachineValue}
use Rattle.svc_history.specs.Recorded.{Recorded, IsLegal}
use Rattle.svc_schedule.specs.Moves.{IsMade, IsPassed}
use Rattle.svc_schedule.specs.Orders.{around}

-- the first of these units whose move isn't refused makes it: the ones before it are passed over, and its event is
-- accepted
abbrev pub FirstMoves : (most : ℕ) → (old new : Recorded) → List UnitId → Type 0
FirstMoves most old new [] = ⊥
FirstMoves most old new (unit ∷ units) =
    IsMade most old new unit ⊎ (IsPassed most old unit × FirstMoves most old new units)

-- the units that a step asks, in order: those named, and then each of the 16 that there may be, by number
abbrev pub asked : (named : List UnitId) → List UnitId
asked named = named ++ around 0 16

-- this many steps of a policy, which lead from one policy and history to others; before each the machine stands where
-- the history leads
abbrev pub Steps : {P : Type 0} → (Gives : P → Recorded → List UnitId → P → Type 0) → (most count : ℕ) → (old new : P)
    → (opened led : Recorded) → Type 0
Steps Gives most zero old new opened led = (new ≡ old) × (led ≡ opened)
Steps {P} Gives most (suc n) old new opened led =
    (before : P) × (there : Recorded) × (named : List UnitId) × Steps Gives most n old before opened there
    × IsLegal there × Gives before there named new × FirstMoves most there led (asked named)

-- how a machine's run has ended, as `Machine::ending` answers it
abbrev pub ending_at : MachineValue → Ending
ending_at m = ending_of (is_full m) (plain_seq m.image m.plain.commits).stopped (plain_seq m.image m.plain.commits).due

-- nothing is left to do: the ending is an exit, a trap or a full history
abbrev pub is_over : Ending → Bool
is_over (ending.Exit code) = true
is_over (ending.Trap number) = true
is_over (ending.Full due) = true
is_over (ending.Open due) = false

-- a schedule goes on from one history to another of the same machine, which is legal: each entry that it adds is that
-- of one step of the policy; the ending is an exit, a trap or a full history, or the steps are as many as the
-- configuration has turns
pub record GoesOn {P : Type 0} (Gives : P → Recorded → List UnitId → P → Type 0) (most : ℕ) (old new : P)
    (start r : Recorded) : Type 0 where
  pub image : r.machine.image ≡ start.machine.image
  pub config_is : r.machine.config ≡ start.machine.config
  pub legal : IsLegal r
  pub count : ℕ
  pub added : length r.entries ≡ length start.entries + count
  pub steps : Steps Gives most count old new start r
  pub few : count ≤ start.machine.config.turns
  pub gets_on : (is_over (ending_at r.machine) ≡ true) ⊎ (count ≡ start.machine.config.turns)

-- a scheduled run of this image and configuration: its history is legal, and each entry is that of one step of the
-- policy; its ending is an exit, a trap or a full history, or it has as many steps as the configuration has turns
pub record IsScheduled {P : Type 0} (Gives : P → Recorded → List UnitId → P → Type 0) (img : Image) (config : Config)
    (most : ℕ) (old new : P) (r : Recorded) : Type 0 where
  pub image : r.machine.image ≡ img
  pub config_is : r.machine.config ≡ config
  pub legal : IsLegal r
  pub opened : Recorded
  pub no_entries : opened.entries ≡ []
  pub steps : Steps Gives most (length r.entries) old new opened r
  pub few : length r.entries ≤ config.turns
  pub gets_on : (is_over (ending_at r.machine) ≡ true) ⊎ (length r.entries ≡ config.turns)
