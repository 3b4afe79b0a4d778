use Rattle.std.proofs.Common.{subst, sym}
use Rattle.svc_plain.specs.Tasks.{tasks_run}
use Rattle.svc_depend.specs.Told.{AreWords}
use Rattle.svc_program.proofs.depend.write_by_word.Goals as goal

pub returns-clause-told : goal.returns-clause-told
returns-clause-told g c =
    let tasks = tasks_run c.args.image.now c.args.most in
    record {
      text = c.in_ok-write_word_needs.ensures.ok c.args.image.now tasks (subst (AreWords c.args.image.now tasks) (sym c.deref.ensures.value) c.in_ok-needs.ensures.words);
      ending_is = c.in_ok-needs.ensures.ending;
    }
