use Rattle.std.proofs.Common.{◌≡◌, ◌∙◌, ◌++◌, List, ap, arith, drop, length}
use Rattle.std.specs.Prelude.{flat_map}
use Rattle.svc_task_runs.specs.declared.task_run.TaskRun.{TaskRun}
use Rattle.svc_task_runs.specs.Seen.{seen}
use Rattle.svc_export.specs.Vcd.{decision}
use Rattle.svc_export.proofs.Texts.{new_ones}
use Rattle.svc_export.proofs.vcd.put_decided.Goals as goal

pub returns-clause-text : goal.returns-clause-text
returns-clause-text c =
    let at = c.args.at in
    let before = c.len-before.result in
    let count = c.len-before.ensures in
    let many = c.args.runs.now.settled.ok.0 in
    let same : before ≡ length c.args.runs.now.settled.items = omega (arith, count, many) in
    let f = decision c.args.entries.now c.args.words.now at in
    c.in_ok-put_decisions.ensures
    ∙ ap (λ (rs : List TaskRun). c.args.text.now.items ++ flat_map f rs)
    (c.tasks_from-decided.ensures ∙ ap (drop before) c.deref.ensures.value
    ∙ new_ones at c.args.entry.now (seen c.args.runs.now) (seen c.take_in.new.self) before c.in_ok-take_in.ensures.tasks same)
