use Rattle.std.proofs.Common.{◌∙◌}
use Rattle.std.specs.Prelude.{flat_map}
use Rattle.svc_text.proofs.Gathered.{all_written}
use Rattle.svc_profile.specs.Tasks.{task_header, task_row, tasks_in_order}
use Rattle.svc_profile.proofs.tasks.write_tasks.Goals as goal

pub returns-clause-ok : goal.returns-clause-ok
returns-clause-ok g c =
    let now = g.W.Write.contents in
    all_written (now c.args.w.now) (now c.write_rows.new.w) (now c.write_text.new.w) task_header c.write_rows.new.text.items
    (flat_map task_row (tasks_in_order c.args.entries.now))
    (rw (c.in_ok-text.ensures.items, c.deref.ensures.value ∙ c.in_ok-runs.ensures) at c.in_ok-write_rows.ensures.ok)
    (rw c.deref-2.ensures.value at c.in_ok-write_text.ensures)
