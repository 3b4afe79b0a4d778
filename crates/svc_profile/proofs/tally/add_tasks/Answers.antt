use Rattle.std.proofs.Common.{None}
use Rattle.std.specs.Prelude.{flat_map}
use Rattle.svc_task_runs.specs.declared.task_run.Fate.TheVariants as fate
use Rattle.svc_task_runs.specs.declared.task_run.TaskRun.{TaskRun}
use Rattle.svc_profile.specs.Counts.{entry_counted, task_counts}
use Rattle.svc_profile.specs.Words.{cut_word}
use Rattle.svc_profile.proofs.Tallies.{tally_room}
use Rattle.svc_profile.proofs.tally.add_tasks.Goals as goal

abbrev nobody : TaskRun
nobody = record { number = 0; unit = record { 0 = 0 }; entry = 0; first = 0; last = None; turns = 0; loads = 0; stores = 0; fate = fate.Active }

pub add_for-requires : goal.add_for-requires
add_for-requires c =
    let es = c.args.entries.now in
    record { few = rw (c.cut_word.ensures, c.of_task.ensures) (tally_room (λ (r : TaskRun). cut_word es r.fate r.last) task_counts (flat_map entry_counted es) c.args.runs.now c.loop-run.run-index nobody c.loop-run.words c.loop-run-test.true c.loop-run.invariant c.requires.few) }
