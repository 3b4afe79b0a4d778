use Rattle.std.proofs.Common.{◌+◌, get_or, subst, sym, arith}
use Rattle.svc_task_runs.specs.Bounds.{AreFew}
use Rattle.svc_task_runs.specs.Runs.{runs_of}
use Rattle.svc_task_runs.specs.Seen.{seen}
use Rattle.svc_task_runs.proofs.Fewness.{few_after}
use Rattle.svc_task_runs.proofs.Nobody.{nothing}
use Rattle.svc_task_runs.proofs.Sorting.{at_end, next_entry}
use Rattle.svc_task_runs.proofs.runs.TaskRuns.of.Goals as goal

pub loop-index-preserved : goal.loop-index-preserved
loop-index-preserved c =
    let es = c.args.entries.now in
    let i = c.loop-index.index in
    let stepped = c.in_ok-step.ensures in
    let value = c.turns_in-turns.ensures.value in
    let few = c.turns_in-turns.ensures.few in (
      next_entry es i nothing (seen c.loop-index.runs) (seen c.step.new.self) (runs_of es) c.loop-index-test.true stepped c.loop-index.invariant.0,
      subst (AreFew (i + 1)) (sym stepped) (few_after i (get_or es i nothing) (seen c.loop-index.runs) (omega (arith, value, few)) c.loop-index.invariant.1),
    )

pub returns-clause-runs : goal.returns-clause-runs
returns-clause-runs c = at_end c.args.entries.now c.loop-index.index (seen c.loop-index.runs) (runs_of c.args.entries.now) c.loop-index-test.false c.loop-index.invariant.0
