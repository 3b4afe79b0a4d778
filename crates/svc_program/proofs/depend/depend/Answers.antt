use Rattle.std.proofs.Common.{Option}
use denote.Ref.{Bor}
use Rattle.svc_names.specs.declared.names.Names.{Names}
use Rattle.svc_answer.specs.Needs.{TellsNeeds}
use Rattle.svc_answer.proofs.Answering.{needs_answered, of_named}
use Rattle.svc_program.proofs.depend.depend.Goals as goal

pub returns : goal.returns
returns g c =
    let held = g.F.Files.held c.args.files.now in
    let old = c.args.out.now in
    let new = c.tell_needs.new.out in
    let depended = c.args.depended in
    let img = c.in_ok-image.image in
    let Tells = λ (names : Option (Bor Names)). TellsNeeds depended.by names img depended.most (g.O.Write.contents old) (g.O.Write.contents new) in
    needs_answered g.O.Write.contents depended held old new c.tell_needs.result img c.in_ok-image.ensures.image
    (of_named c.tell_needs.result held depended.names c.in_ok-names.names c.as_ref.result Tells c.in_ok-names.ensures c.as_ref.ensures.value c.tell_needs.ensures.told)
    c.tell_needs.ensures.silent
