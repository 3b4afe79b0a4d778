-- What the cause of a cut says.
use Rattle.std.specs.Prelude.{ℕ, suc, ◌≡◌, ◌≢◌, ◌+◌, ◌-◌, ◌⊎◌, true, List, ◌∷◌, length, Option, Some, None, is_some}
use Rattle.std.specs.Prelude.{slice_get}
use Rattle.svc_image.specs.Image.{Image}
use Rattle.svc_core_laws.specs.State.{State}
use Rattle.svc_core_laws.specs.Program.{Want, Local, Load, Store, Narrow, Emit, seq, due_after, stopped_after}
use Rattle.svc_core_laws.specs.declared.end.End.{End}
use Rattle.svc_core_laws.specs.Words.{program}
use Rattle.svc_core_laws.specs.Bursts.{Advance}
use Rattle.svc_bus_laws.specs.MapLaws.{IsVictim}
use Rattle.svc_machine_laws.specs.declared.reply.Cause.{Cause}
use Rattle.svc_machine_laws.specs.declared.reply.Cause.TheVariants as cause
use Rattle.svc_machine_laws.specs.declared.reply.Cut.{Cut}
use Rattle.svc_machine_laws.specs.PlainMachine.{Task, Plain, running, run_done, run_entry, submit}
use Rattle.svc_machine_laws.specs.WholeMachine.{machine_of}
use Rattle.svc_machine_laws.specs.Events.{Event, Assign, Submit, Replace, Cancel, Commit, asked_want, task_place}

-- the first task cut is the one at this place, and the cut counts it and all that were active after it
pub record IsCutAt (s : Plain) (cut : Cut) (place : ℕ) : Type 0 where
  pub first : cut.first.0 ≡ s.commits + place
  pub tasks : cut.tasks ≡ length s.tasks - place

-- a turn that wants this writes the word
abbrev pub Writes : {C : Type 0} → Want C → ℕ → Type 0
Writes (Local c) a = ⊥
Writes (Load b value go) a = ⊥
Writes (Store b w c) a = b ≡ a
Writes (Narrow b f c) a = b ≡ a
Writes (Emit w c) a = ⊥

-- a violation of a word: the event is a submit whose asked turn wrote the word, and the first task cut is the victim of
-- that write
pub record IsViolation (img : Image) (s : Plain) (x : Event) (cut : Cut) (a : ℕ) : Type 0 where
  pub burst : Advance
  pub event : x ≡ Submit burst
  pub want : Want State
  pub asked : asked_want img burst ≡ Some want
  pub wrote : Writes want a
  pub place : ℕ
  pub at : task_place s burst.unit.0 ≡ Some place
  pub victim : ℕ
  pub is_victim : IsVictim (machine_of (program img) s).versioned place a victim
  pub cut_at : IsCutAt s cut victim

-- a wrong guess: the event is a commit, after which the run has stopped or the next task didn't begin at the entry that
-- is due; the first task cut is that next one
pub record IsWrongGuess (img : Image) (s : Plain) (x : Event) (cut : Cut) : Type 0 where
  pub by : ℕ
  pub event : x ≡ Commit by
  pub head : Task
  pub next : Task
  pub others : List Task
  pub tasks : s.tasks ≡ head ∷ next ∷ others
  pub wrong : (is_some (seq (program img) (suc s.commits)).stopped ≡ true)
      ⊎ ((seq (program img) (suc s.commits)).due ≢ Some next.entry)
  pub cut_at : IsCutAt s cut 1

-- the task at a place has ended, and the next one began elsewhere than at its successor, or it has none
pub record Misleads {A : Type 0} (done : A → Option End) (entry : A → ℕ) (xs : List A) (place : ℕ) : Type 0 where
  pub ended : End
  pub one : A
  pub at : slice_get xs place ≡ Some one
  pub done_is : done one ≡ Some ended
  pub next : A
  pub next_is : slice_get xs (suc place) ≡ Some next
  pub wrong : (is_some (stopped_after (Some ended)) ≡ true) ⊎ (due_after (Some ended) ≢ Some (entry next))

-- a wrong guess: the event is a submit that ended its unit's task; the first task cut is the next one, which began
-- elsewhere
pub record IsFoundWrong (img : Image) (s : Plain) (x : Event) (cut : Cut) : Type 0 where
  pub burst : Advance
  pub event : x ≡ Submit burst
  pub place : ℕ
  pub at : task_place s burst.unit.0 ≡ Some place
  pub misleads : Misleads (run_done (program img)) run_entry
      (running (program img) (submit (program img) s place burst.local (is_some (asked_want img burst)))) place
  pub cut_at : IsCutAt s cut (suc place)

-- a cancel: the event is a cancel, and the first task cut is its unit's
pub record IsCancel (s : Plain) (x : Event) (cut : Cut) : Type 0 where
  pub unit : ℕ
  pub event : x ≡ Cancel unit
  pub place : ℕ
  pub at : task_place s unit ≡ Some place
  pub cut_at : IsCutAt s cut place

-- what each cause says
abbrev pub IsBlamedOn : Image → Plain → Event → Cut → Cause → Type 0
IsBlamedOn img s x cut (cause.Violation a) = IsViolation img s x cut a.0
IsBlamedOn img s x cut cause.WrongGuess = IsWrongGuess img s x cut ⊎ IsFoundWrong img s x cut
IsBlamedOn img s x cut cause.Cancelled = IsCancel s x cut

-- the cut has its blame
abbrev pub IsBlamed : Image → Plain → Event → Cut → Type 0
IsBlamed img s x cut = IsBlamedOn img s x cut cut.cause

-- how many tasks are cut
abbrev pub tasks_cut : Option Cut → ℕ
tasks_cut None = 0
tasks_cut (Some cut) = cut.tasks

-- how many tasks an accepted event begins, and how many it commits
abbrev pub tasks_begun : Event → ℕ
tasks_begun (Assign unit guess) = 1
tasks_begun (Submit b) = 0
tasks_begun (Replace unit address) = 0
tasks_begun (Cancel unit) = 0
tasks_begun (Commit by) = 0
