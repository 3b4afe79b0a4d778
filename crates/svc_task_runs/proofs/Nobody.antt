-- What a list shows past its end.
use Rattle.std.proofs.Common.{None}
use Rattle.svc_history_laws.specs.declared.entry.Entry.{Entry}
use Rattle.svc_history_laws.specs.declared.entry.Kind.TheVariants.{Assign}
use Rattle.svc_history_laws.specs.declared.entry.ReplyKind.TheVariants.{Assigned}
use Rattle.svc_task_runs.specs.declared.task_run.Fate.TheVariants.{Active}
use Rattle.svc_task_runs.specs.declared.task_run.TaskRun.{TaskRun}

abbrev pub nobody : TaskRun
nobody = record { number = 0; unit = record { 0 = 0 }; entry = 0; first = 0; last = None; turns = 0; loads = 0; stores = 0; fate = Active }

abbrev pub nothing : Entry
nothing = record { kind = Assign; unit = record { 0 = 0 }; arg = None; local = None; ask = None; reply = Assigned; addr = None; word = None; served = None; from = None; cause = None; first = None; squashed = None }
