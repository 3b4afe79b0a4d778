use Rattle.std.proofs.Common.{◌++◌, take}
use Rattle.std.specs.Prelude.{flat_map}
use Rattle.svc_profile.specs.Counts.{IsTally, entry_counted, task_counted}
use Rattle.svc_profile.proofs.tally.add_tasks.Given as goal

abbrev pub invariant-loop-run : goal.invariant-loop-run
invariant-loop-run l = IsTally (flat_map entry_counted l.entries ++ flat_map (task_counted l.entries) (take l.run-index l.runs)) l.words
