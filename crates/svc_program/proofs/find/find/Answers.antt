use Rattle.std.proofs.Common.{Option}
use denote.Ref.{Bor}
use Rattle.svc_names.specs.declared.names.Names.{Names}
use Rattle.svc_answer.specs.Explored.{FindsSight}
use Rattle.svc_answer.specs.Requests.{SavesAnyTrace}
use Rattle.svc_answer.proofs.Answering.{of_named}
use Rattle.svc_program.proofs.Finding.{find_answered}
use Rattle.svc_program.proofs.find.find.Goals as goal

pub returns : goal.returns
returns g c =
    let held = g.F.Files.held c.args.files.now in
    let saved = g.F.Files.held c.look_for.new.files in
    let old = c.args.out.now in
    let new = c.look_for.new.out in
    let explored = c.args.explored in
    let img = c.in_ok-image.image in
    let Finds = λ (names : Option (Bor Names)). FindsSight names img explored c.args.sought (SavesAnyTrace saved c.args.trace) (g.O.Write.contents old) (g.O.Write.contents new) in
    find_answered g.O.Write.contents explored c.args.sought c.args.trace held saved old new c.look_for.result img c.in_ok-image.ensures.image
    (of_named c.look_for.result held explored.names c.in_ok-names.names c.as_ref.result Finds c.in_ok-names.ensures c.as_ref.ensures.value c.look_for.ensures.found)
    c.look_for.ensures.silent c.look_for.ensures.alone
