-- When a submit is legal, and where it leads, stated without a burst.
use Rattle.std.specs.Prelude.{◌≡◌, ℕ, ◌+◌, ◌<◌, ◌≤◌, Bool, true, cond, Option, Some, None, slice_get}
use Rattle.svc_base.specs.declared.limits.TheConstants.{MAX_BURST_TURNS}
use Rattle.svc_base.specs.declared.ids.UnitId.{UnitId}
use Rattle.svc_image.specs.Image.{Image}
use Rattle.svc_core_laws.specs.State.{State}
use Rattle.svc_core_laws.specs.Turns.{next}
use Rattle.svc_core_laws.specs.Bursts.{IsLocal}
use Rattle.svc_core_laws.specs.Program.{part, seq}
use Rattle.svc_core_laws.specs.Words.{program}
use Rattle.svc_bus_laws.specs.LineTable.{LineTable}
use Rattle.svc_machine_laws.specs.PlainMachine.{Task, Plain, memory_at}
use Rattle.svc_machine_laws.specs.PlainMachine as plain
use Rattle.svc_machine_laws.specs.Events.{task_place}
use Rattle.svc_machine_laws.specs.LineEvents.{line_check, line_turn, word_of}
use Rattle.svc_machine_laws.specs.Refusals.{full_set}
use Rattle.svc_machine_laws.specs.Replies.{plain_submitted}
use Rattle.svc_machine_laws.specs.Standing.{Standing}
use Rattle.svc_history_laws.specs.declared.entry.Kind.TheVariants.{Submit}
use Rattle.svc_history_laws.specs.declared.entry.Entry.{Entry}
use Rattle.svc_history_laws.specs.Entries.{plain_entry, telling}

-- one turn if there is an ask
abbrev pub turns_of : Bool → ℕ
turns_of ask = cond ask 1 0

-- the core of the active task at a place after this many turns, if it runs alone on the memory of its place
abbrev pub core_on : Image → Plain → (place : ℕ) → Task → (more : ℕ) → State
core_on img s place task n =
    (part (program img) task.entry (n + task.turns)
    (memory_at (program img) (seq (program img) s.commits).memory s.tasks place)).core

-- a task that runs, and whose next turn asks for nothing
abbrev pub IsLocalAt : Image → State → Type 0
IsLocalAt img core = (core.done ≡ None) × IsLocal (next img core)

-- a task that runs, and whose next turn asks
abbrev pub IsAskedAt : Image → State → Type 0
IsAskedAt img core = (core.done ≡ None) × (IsLocal (next img core) → ⊥)

-- the word that the next turn at this core wants, if any
abbrev pub word_wanted : Image → State → Option ℕ
word_wanted img core = word_of ((program img).want core)

-- the unit's task, which stands at the place, may submit this many local turns, and after them an asked one if `ask`
-- says so
pub record IsSubmission (img : Image) (s : Standing) (unit place : ℕ) (task : Task)
    (local : ℕ) (ask : Bool) : Type 0 where
  pub some : 0 < local + turns_of ask
  pub few : local + turns_of ask ≤ MAX_BURST_TURNS
  -- the task hasn't ended
  pub goes_on : (core_on img s.plain place task 0).done ≡ None
  pub locals : (n : ℕ) → n < local → IsLocalAt img (core_on img s.plain place task n)
  pub asks : ask ≡ true → IsAskedAt img (core_on img s.plain place task local)
  -- the unit's cache has room for the word that is asked for
  pub room : ask ≡ true → full_set s.lines unit (word_wanted img (core_on img s.plain place task local)) ≡ None

-- the lines after the turns: an asked turn takes its steps of the bus
abbrev pub lines_asked : Image → Standing → (place : ℕ) → (local : ℕ) → Option Task → Bool → LineTable
lines_asked img s place local None ask = s.lines
lines_asked img s place local (Some task) ask =
    cond ask (line_turn ((program img).want (core_on img s.plain place task local)) s.lines place) s.lines

-- the check of the guess after the task at a place has taken its turns
abbrev pub checked_at : Image → (place : ℕ) → (turned : Plain) → LineTable → Standing
checked_at img place turned t = record {
  plain = plain.check (program img) turned place;
  lines = line_check (plain.is_misled (program img) turned place) t place;
}

-- where it leads
abbrev pub submitted_at : Image → Standing → Option ℕ → (local : ℕ) (ask : Bool) → Standing
submitted_at img s None local ask = s
submitted_at img s (Some place) local ask =
    checked_at img place (plain.submit (program img) s.plain place local ask)
    (lines_asked img s place local (slice_get s.plain.tasks place) ask)

-- where a submission of the unit leads
abbrev pub after_submission : Image → Standing → (unit local : ℕ) → (ask : Bool) → Standing
after_submission img s unit local ask = submitted_at img s (task_place s.plain unit) local ask

-- its entry
abbrev pub submission : Image → Standing → UnitId → (local : ℕ) (ask : Bool) → Entry
submission img s unit local ask =
    telling (plain_submitted (program img) s.plain s.lines (task_place s.plain unit.0) local ask)
    (plain_entry Submit unit None (Some local) (Some ask))
