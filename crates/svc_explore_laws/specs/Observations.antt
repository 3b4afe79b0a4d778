-- What can be seen of a run: what an entry says happened to which task, by tasks' numbers and not by units.
use Rattle.std.specs.Prelude.{ℕ, ◌+◌, List, [], ◌∷◌, ◌++◌, length, Option, Some, None, option_map, option_to_list}
use Rattle.std.specs.Prelude.{unwrap_or}
use Rattle.svc_base.specs.declared.ids.UnitId.{UnitId}
use Rattle.svc_base.specs.declared.ids.WordAddr.{WordAddr}
use Rattle.svc_machine_laws.specs.PlainMachine.{Plain}
use Rattle.svc_machine_laws.specs.Events.{task_place}
use Rattle.svc_history_laws.specs.declared.entry.ReplyKind.{ReplyKind}
use Rattle.svc_history_laws.specs.declared.entry.ReplyKind.TheVariants as reply
use Rattle.svc_history_laws.specs.declared.entry.ServedKind.{ServedKind}
use Rattle.svc_history_laws.specs.declared.entry.ServedKind.TheVariants as served
use Rattle.svc_history_laws.specs.declared.entry.CutKind.{CutKind}
use Rattle.svc_history_laws.specs.declared.entry.CutKind.TheVariants as cut
use Rattle.svc_history_laws.specs.declared.entry.Entry.{Entry}
use Rattle.svc_explore_laws.specs.declared.observation.Happening.{Happening}
use Rattle.svc_explore_laws.specs.declared.observation.Happening.TheVariants as what
use Rattle.svc_explore_laws.specs.declared.observation.By.{By}
use Rattle.svc_explore_laws.specs.declared.observation.By.TheVariants as by
use Rattle.svc_explore_laws.specs.declared.observation.Observation.{Observation}

-- the number of the head, or of the next task where none is active; and of each unit's active task, or of the next task
-- to begin where it has none
pub record Numbers : Type 0 where
  pub head : ℕ
  pub of_unit : (unit : ℕ) → ℕ

abbrev pub numbers : Plain → Numbers
numbers s = record { head = s.commits; of_unit = λ unit. s.commits + unwrap_or (task_place s unit) (length s.tasks) }

-- what an answer says happened; that local turns were taken over, or that the squashed task was cancelled, says nothing
-- more
abbrev pub happening_of : ReplyKind → Option Happening
happening_of reply.Assigned = Some what.Begin
happening_of reply.Ran = None
happening_of reply.Loaded = Some what.Load
happening_of reply.Stored = Some what.Store
happening_of reply.Emitted = Some what.Output
happening_of reply.Trapped = Some what.Trap
happening_of reply.Replaced = Some what.Replace
happening_of reply.Cancelled = None
happening_of reply.Committed = Some what.Commit

-- a commit's number stands as the task's
abbrev pub value_of : Happening → Option ℕ → Option ℕ
value_of what.Commit word = None
value_of _ word = word

-- the unit of an entry that names one
abbrev pub unit_named : Option UnitId → ℕ
unit_named None = 0
unit_named (Some unit) = unit.0

-- who supplied the word
abbrev pub supplier_of : Numbers → Option UnitId → ServedKind → By
supplier_of n from served.Hit = by.Hit
supplier_of n from served.Reuse = by.Reuse
supplier_of n from served.Version = by.Version (n.of_unit (unit_named from))
supplier_of n from served.Spill = by.Spill
supplier_of n from served.Committed = by.Committed
supplier_of n from served.Memory = by.Memory

abbrev pub address_of : WordAddr → ℕ
address_of addr = addr.0

-- to the task of the entry's unit this happened; at a commit to the head, whoever asked for it
abbrev pub task_of : Numbers → Entry → Happening → ℕ
task_of n e what.Commit = n.head
task_of n e _ = n.of_unit e.unit.0

abbrev pub happened_so : Numbers → Entry → Happening → Observation
happened_so n e h = record {
  what = h;
  task = task_of n e h;
  word = option_map address_of e.addr;
  value = value_of h e.word;
  by = option_map (supplier_of n e.from) e.served;
}

-- what the entry's answer says happened
abbrev pub happened : Numbers → Entry → Option Observation
happened n e = option_map (happened_so n e) (happening_of e.reply)

abbrev pub why_of : CutKind → By
why_of cut.Violation = by.Violation
why_of cut.Guess = by.Guess
why_of cut.Cancel = by.Cancel

-- the word of a violation is that of its store
abbrev pub word_violated : Entry → CutKind → Option ℕ
word_violated e cut.Violation = option_map address_of e.addr
word_violated e cut.Guess = None
word_violated e cut.Cancel = None

abbrev pub squashed_so : Entry → CutKind → Observation
squashed_so e why = record {
  what = what.Squash;
  task = unwrap_or e.first 0;
  word = word_violated e why;
  value = e.squashed;
  by = Some (why_of why);
}

-- which tasks the entry says were squashed
abbrev pub squashed : Entry → Option Observation
squashed e = option_map (squashed_so e) e.cause

abbrev pub observed : Numbers → Entry → List Observation
observed n e = option_to_list (happened n e) ++ option_to_list (squashed e)

-- what is seen of an entry of an event that was accepted at a standing
abbrev pub observations : Plain → Entry → List Observation
observations s e = observed (numbers s) e
