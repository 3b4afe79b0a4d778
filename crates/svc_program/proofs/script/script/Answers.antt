use Rattle.std.specs.Prelude.{IfOk}
use Rattle.std.proofs.Common.{List, subst}
use Rattle.svc_script.specs.declared.script.Step.{Step}
use Rattle.svc_answer.specs.Requests.{SavesAnyTrace}
use Rattle.svc_answer.specs.Scripts.{PlaysScript}
use Rattle.svc_answer.proofs.Answering.{script_answered}
use Rattle.svc_program.proofs.script.script.Goals as goal

pub returns : goal.returns
returns g c =
    script_answered g.O.Write.contents c.args.scripted (g.F.Files.held c.args.files.now) (g.F.Files.held c.play_script.new.files)
    c.args.out.now c.play_script.new.out c.play_script.result c.in_ok-image.image c.in_ok-steps.steps.items
    c.in_ok-image.ensures.image c.in_ok-steps.ensures.script
    (subst (λ (xs : List Step). IfOk c.play_script.result (PlaysScript c.in_ok-image.image c.args.scripted.config xs
    (SavesAnyTrace (g.F.Files.held c.play_script.new.files) c.args.scripted.trace) (g.O.Write.contents c.args.out.now) (g.O.Write.contents c.play_script.new.out)))
    c.deref.ensures.value c.play_script.ensures.script) c.play_script.ensures.silent c.play_script.ensures.alone
