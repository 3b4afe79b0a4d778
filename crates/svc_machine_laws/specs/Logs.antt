-- What the active tasks have done with memory and output so far, and what each accepted event adds.
use Rattle.std.specs.Prelude.{ℕ, ◌≡◌, Bool, cond, List, [], ◌∷◌, ◌++◌, map, take, Option, Some, None}
use Rattle.svc_core_laws.specs.declared.end.End.{End}
use Rattle.svc_core_laws.specs.Program.{Program, Action, Loaded, Stored, Replaced, Emitted, end_at, task_log}
use Rattle.svc_bus_laws.specs.ByRows.{edit}
use Rattle.svc_machine_laws.specs.declared.reply.What.{What}
use Rattle.svc_machine_laws.specs.declared.reply.What.TheVariants as what
use Rattle.svc_machine_laws.specs.PlainMachine.{Plain, Running, running}
use Rattle.svc_machine_laws.specs.Events.{Event, Assign, Submit, Replace, Cancel, Commit, task_place}

-- a task's unit, and what its turns did, the newest first
pub record TaskLog : Type 0 where
  pub unit : ℕ
  pub log : List Action

abbrev pub log_of : {C : Type 0} → Running C → TaskLog
log_of x = record { unit = x.task.unit; log = x.run.log }

-- those of the active tasks, oldest task first
abbrev pub logs_of : {C : Type 0} → Program C → Plain → List TaskLog
logs_of p s = map log_of (running p s)

-- what an answer says of memory or output; a store for which a word was read is one of less than a word
abbrev pub action_of : What → Option Action
action_of (what.Assigned task entry epoch) = None
action_of what.Ran = None
action_of (what.Loaded addr value served) = Some (Loaded addr.0 value)
action_of (what.Stored addr word None) = Some (Stored addr.0 word)
action_of (what.Stored addr word (Some served)) = Some (Replaced addr.0 word)
action_of (what.Emitted word) = Some (Emitted word)
action_of (what.Trapped number) = None
action_of (what.Replaced addr) = None
action_of what.Cancelled = None
action_of (what.Committed task ended) = None

-- one more action, if there is one
abbrev pub plus : Option Action → List Action → List Action
plus None log = log
plus (Some action) log = action ∷ log

abbrev pub adds : Option Action → TaskLog → TaskLog
adds action t = record t { log = plus action t.log }

-- a submit adds what it answers to its task's log, and leaves the logs of the tasks that it doesn't cut
pub record AddsItsAnswer {C : Type 0} (p : Program C) (before after : Plain) (unit : ℕ) (done : What) : Type 0 where
  pub place : ℕ
  pub at : task_place before unit ≡ Some place
  pub cut : Option ℕ
  pub logs : logs_of p after ≡ edit place (adds (action_of done)) cut (logs_of p before)

-- a cancel leaves the logs of the tasks before its unit's
pub record LeavesEarlier {C : Type 0} (p : Program C) (before after : Plain) (unit : ℕ) : Type 0 where
  pub place : ℕ
  pub at : task_place before unit ≡ Some place
  pub logs : logs_of p after ≡ take place (logs_of p before)

-- the log of a head that is committed is the sequential answers of its task; the others stay, or all are cut
pub record CommitsAnswers {C : Type 0} (p : Program C) (before after : Plain) : Type 0 where
  pub unit : ℕ
  pub others : List TaskLog
  pub head : logs_of p before ≡ record { unit = unit; log = task_log p before.commits } ∷ others
  pub keep : Bool
  pub logs : logs_of p after ≡ cond keep others []

-- what each kind of event adds to the logs
abbrev pub LogsFollow : {C : Type 0} → Program C → Plain → Plain → Event → What → Type 0
LogsFollow p before after (Assign unit guess) done =
    logs_of p after ≡ logs_of p before ++ record { unit = unit; log = [] } ∷ []
LogsFollow p before after (Submit b) done = AddsItsAnswer p before after b.unit.0 done
LogsFollow p before after (Replace unit address) done = logs_of p after ≡ logs_of p before
LogsFollow p before after (Cancel unit) done = LeavesEarlier p before after unit
LogsFollow p before after (Commit by) done = CommitsAnswers p before after

-- a commit reports the number of the committed task, and how that task ends in the sequential order
pub record TellsTheEnd {C : Type 0} (p : Program C) (k : ℕ) (done : What) : Type 0 where
  pub end : End
  pub ends : end_at p k ≡ Some end
  pub tells : done ≡ what.Committed (record { 0 = k }) end
