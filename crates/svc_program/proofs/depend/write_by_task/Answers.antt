use Rattle.std.proofs.Common.{ℕ, List, ◌∙◌, ap, subst}
use Rattle.std.specs.Io.KnownBytes.{Appends}
use Rattle.svc_depend.specs.Tables.{task_table}
use Rattle.svc_program.proofs.depend.write_by_task.Goals as goal

pub returns-clause-told : goal.returns-clause-told
returns-clause-told g c = record {
  text = subst (λ (t : List ℕ). Appends (g.O.Write.contents c.args.out.now) (g.O.Write.contents c.write_task_needs.new.w) t)
      (ap task_table (c.deref.ensures.value ∙ c.in_ok-needs.ensures.tasks)) c.in_ok-write_task_needs.ensures.ok;
  ending_is = c.in_ok-needs.ensures.ending;
}
