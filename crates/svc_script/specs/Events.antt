-- Scripts of events alone, and where they lead.
use Rattle.std.specs.Prelude.{◌≡◌, ℕ, ◌+◌, Bool, true, false, List, [], Some, All, slice_get, take}
use Rattle.svc_history.specs.Recorded.{Recorded}
use Rattle.svc_script.specs.declared.script.Step.{Step}
use Rattle.svc_script.specs.declared.script.StepKind.{StepKind}
use Rattle.svc_script.specs.declared.script.StepKind.TheVariants as step
use Rattle.svc_script.specs.Playing.{Kept, PlaysTo}

-- it asks for an event, and neither takes a burst nor gives one
abbrev pub is_event : StepKind → Bool
is_event (step.Take turns) = false
is_event step.Give = false
is_event _ = true

abbrev pub IsEvent : Step → Type 0
IsEvent s = is_event s.kind ≡ true

-- the row of the first step that takes a burst or gives one, counted from 1 with the header
pub record IsFirstOther (steps : List Step) (row : ℕ) : Type 0 where
  pub index : ℕ
  pub row_is : row ≡ index + 2
  pub step : Step
  pub step_is : slice_get steps index ≡ Some step
  pub other : is_event step.kind ≡ false
  pub before : All IsEvent (take index steps)

-- the first n steps lead from one run to another of the same machine, whatever bursts are kept, and these stay kept
pub record HasLedOn (steps : List Step) (n : ℕ) (r next : Recorded) : Type 0 where
  pub text : List ℕ
  pub steps_done : (kept : Kept)
      → PlaysTo steps n (record { run = r; kept = kept; text = [] }) (record { run = next; kept = kept; text = text })
  pub image : next.machine.image ≡ r.machine.image
  pub config_is : next.machine.config ≡ r.machine.config
