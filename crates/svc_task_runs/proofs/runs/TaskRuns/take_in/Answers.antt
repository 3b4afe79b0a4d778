use Rattle.std.proofs.Common.{◌+◌, subst, sym, arith}
use Rattle.svc_task_runs.specs.Bounds.{AreFew}
use Rattle.svc_task_runs.specs.Seen.{seen}
use Rattle.svc_task_runs.proofs.Fewness.{few_after}
use Rattle.svc_task_runs.proofs.runs.TaskRuns.take_in.Goals as goal

pub returns-clause-few : goal.returns-clause-few
returns-clause-few c =
    let at = c.args.at in
    let value = c.turns_in-turns.ensures.value in
    let few = c.turns_in-turns.ensures.few in
    subst (AreFew (at + 1)) (sym c.in_ok-step.ensures) (few_after at c.args.entry.now (seen c.args.self.now) (omega (arith, value, few)) c.requires.few)
