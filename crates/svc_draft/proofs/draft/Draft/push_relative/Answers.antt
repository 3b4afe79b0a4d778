use Rattle.std.proofs.Common.{◌≡◌, ◌∙◌, ap, true, nat_eq, ℕ, Some, subst}
use Rattle.std.specs.Map.{update}
use Rattle.std.specs.HashMap.{get}
use Rattle.std.proofs.Math.Path.{fun_ext}
use Rattle.svc_draft.specs.Drafts.{layout_of}
use Rattle.svc_layout.specs.Refusals.{Changes}
use Rattle.svc_layout.specs.Layouts.{Distances}
use Rattle.svc_layout.specs.Places.{here}
use Rattle.svc_layout.specs.Contents.{with_instruction}
use Rattle.svc_layout.specs.Notes.{with_relative}
use Rattle.svc_draft.proofs.draft.Draft.push_relative.Goals as goal

pub returns : goal.returns
unfolding with_relative
returns c =
    let d = layout_of c.args.self.now in
    let noted = λ (place : ℕ). update nat_eq d.distances place (Some c.args.distance) in
    let found : (q : ℕ) → get nat_eq c.insert.new.self q ≡ noted c.here-place.result q = λ q. c.in_ok-insert.ensures.updates.0 q in
    let same : get nat_eq c.insert.new.self ≡ noted (here d) = fun_ext found ∙ ap noted c.here-place.ensures in
    subst (λ (ds : Distances). Changes c.push_instruction.result (with_instruction c.args.word (record d { distances = ds; has_distances = true })) (layout_of c.push_instruction.new.self)) same c.push_instruction.ensures
