use Rattle.std.specs.Prelude.{IfOk, option_map}
use Rattle.std.proofs.Common.{ℕ, List, Option, subst}
use denote.Ref.{Bor}
use Rattle.svc_request.specs.Names.{also_written_by}
use Rattle.svc_explain.specs.Explanations.{TellsUnsaved, files_written}
use Rattle.svc_explain.proofs.files.explain_saved.Goals as goal

pub returns : goal.returns
returns g c =
    let first = option_map (λ (name : Bor (List ℕ)). name.now) c.written_by.result in
    let Tells = λ (name also : Option (List ℕ)). IfOk c.unsaved.result (λ text. TellsUnsaved (files_written name also) text.items) in
    subst (λ (name : Option (List ℕ)). Tells name (also_written_by c.args.request.now)) c.written_by.ensures
    (subst (λ (also : Option (List ℕ)). Tells first also) c.also_written_by.ensures c.unsaved.ensures)
