use Rattle.svc_task_runs.specs.Runs.{after}
use Rattle.svc_task_runs.proofs.Sorting.{in_place, one_settled}
use Rattle.svc_task_runs.proofs.runs.go_on.Goals as goal

pub loop-run-preserved : goal.loop-run-preserved
loop-run-preserved c =
    let f = after c.args.at c.args.entry.now in
    let old = c.args.active.now in
    let now = c.loop-run.active in
    let i = c.loop-run.run-index in (
      in_place f old now i _ c.go_on.new.self c.loop-run-test.true c.loop-run.invariant.0 c.go_on.ensures,
      one_settled f old now i _ c.go_on.new.self c.loop-run.settled _ c.loop-run-test.true c.loop-run.invariant.0 c.go_on.ensures c.is_active.ensures
          c.loop-run.invariant.1,
    )
