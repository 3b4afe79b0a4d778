use Rattle.std.proofs.Common.{Option}
use denote.Ref.{Bor}
use Rattle.svc_image.specs.Image.{Image}
use Rattle.svc_names.specs.declared.names.Names.{Names}
use Rattle.svc_request.specs.declared.request.Request.TheVariants as request
use Rattle.svc_answer.specs.Explored.{TellsSchedules}
use Rattle.svc_answer.specs.Named.{IsNamedIn}
use Rattle.svc_answer.proofs.Answering.{answered_reading, of_image, of_named}
use Rattle.svc_program.proofs.explore.explore.Goals as goal

pub returns : goal.returns
returns g c =
    let held = g.F.Files.held c.args.files.now in
    let old = c.args.out.now in
    let new = c.tell_schedules.new.out in
    let explored = c.args.explored in
    let img = c.in_ok-image.image in
    let Tells = λ (i : Image) (names : Option (Bor Names)). TellsSchedules names i explored.config explored.burst explored.states (g.O.Write.contents old) (g.O.Write.contents new) in
    answered_reading g.O.Write.contents (request.Explore explored) held old new c.tell_schedules.result
    (img, c.in_ok-image.ensures.image) tt
    (of_image c.tell_schedules.result held explored.image img (λ i exit. IsNamedIn held explored.names (λ names. Tells i names exit)) c.in_ok-image.ensures.image
    (of_named c.tell_schedules.result held explored.names c.in_ok-names.names c.as_ref.result (Tells img) c.in_ok-names.ensures c.as_ref.ensures.value c.tell_schedules.ensures.told))
    c.tell_schedules.ensures.silent
