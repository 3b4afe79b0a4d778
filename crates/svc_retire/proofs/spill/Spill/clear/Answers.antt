use Rattle.std.proofs.Common.{◌∙◌, ap, List, Option, None, ℕ, set}
use Rattle.std.specs.Prelude.{map}
use Rattle.std.proofs.lemmas.List.{map-set}
use Rattle.svc_retire.specs.Spills.{spilled_version}
use Rattle.svc_retire.proofs.spill.Spill.clear.Goals as goal

pub returns : goal.returns
returns c =
    let places = c.self.inside.places.items in
    map-set spilled_version places c.args.word.0 c.without_version.result ∙ ap (λ (v : Option ℕ). set (map spilled_version places) c.args.word.0 v) c.without_version.ensures.empty ∙ ap (λ (table : List (Option ℕ)). set table c.args.word.0 None) c.self.view_is
