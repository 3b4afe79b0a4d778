-- What an entry says of its event, and what it has room for.
use Rattle.std.specs.Prelude.{ℕ, ◌<◌, ◌^◌, IfSome}
use Rattle.svc_machine_laws.specs.declared.reply.What.{What}
use Rattle.svc_machine_laws.specs.declared.reply.What.TheVariants as what
use Rattle.svc_machine_laws.specs.declared.reply.Reply.{Reply}
use Rattle.svc_history_laws.specs.declared.entry.Entry.{Entry}
use Rattle.svc_history_laws.specs.Entries.{first_of, plain_entry}
use Rattle.svc_history.specs.declared.writing.EventFields.{EventFields}

-- the entry that has an event's fields alone
abbrev pub entry_with : EventFields → Entry
entry_with f = plain_entry f.kind f.unit f.arg f.local f.ask

-- the number of the task reported as committed, 0 if there is none
abbrev pub task_told : What → ℕ
task_told (what.Assigned task entry epoch) = 0
task_told what.Ran = 0
task_told (what.Loaded addr value by) = 0
task_told (what.Stored addr word by) = 0
task_told (what.Emitted word) = 0
task_told (what.Trapped number) = 0
task_told (what.Replaced addr) = 0
task_told what.Cancelled = 0
task_told (what.Committed task end) = task.0

-- the reported task numbers fit 32 bits
pub record IsSmall (r : Reply) : Type 0 where
  pub task : task_told r.what < 2 ^ 32
  pub first : IfSome r.cut (λ cut. first_of cut < 2 ^ 32)
