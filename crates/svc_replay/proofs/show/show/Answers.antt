use Rattle.std.specs.Prelude.{IfOk}
use Rattle.std.proofs.Common.{List, Option, subst}
use denote.Ref.{Bor}
use Rattle.svc_names.specs.declared.names.Names.{Names}
use Rattle.svc_image.specs.Image.{Image}
use Rattle.svc_history_laws.specs.declared.entry.Entry.{Entry}
use Rattle.svc_request.specs.declared.request.Request.TheVariants as request
use Rattle.svc_answer.specs.Named.{IsNamedIn}
use Rattle.svc_answer.specs.Shown.{TellsMachine}
use Rattle.svc_answer.proofs.Answering.{answered_reading, of_loaded, of_named, silent_before}
use Rattle.svc_replay.proofs.show.show.Goals as goal

pub returns : goal.returns
returns g c =
    let held = g.F.Files.held c.args.files.now in
    let old = c.args.out.now in
    let new = c.show_entries.new.out in
    let traced = c.args.traced in
    let img = c.in_ok-image.image in
    let es = c.in_ok-image.entries.items in
    let given = c.as_ref.result in
    let Tells = λ (i : Image) (xs : List Entry) (names : Option (Bor Names)). TellsMachine c.args.shown.at c.args.shown.extras names i traced.config xs (g.O.Write.contents old) (g.O.Write.contents new) in
    answered_reading g.O.Write.contents (request.Show traced c.args.shown) held old new c.show_entries.result
    (img, c.in_ok-image.ensures.image) tt
    (of_loaded c.show_entries.result held traced img es (λ i xs exit. IsNamedIn held c.args.shown.names (λ names. Tells i xs names exit)) c.in_ok-image.ensures.image c.in_ok-image.ensures.trace
    (of_named c.show_entries.result held c.args.shown.names c.in_ok-names.names given (Tells img es) c.in_ok-names.ensures c.as_ref.ensures.value
    (subst (λ (xs : List Entry). IfOk c.show_entries.result (Tells img xs given)) c.deref.ensures.value c.show_entries.ensures.shown)))
    (silent_before old new c.show_entries.result _ c.show_entries.ensures.fault)
