use Rattle.std.proofs.Common.{ap, false}
use Rattle.svc_layout.specs.Layouts.{Layout}
use Rattle.svc_draft.proofs.draft.Draft.to_measure.Goals as goal

pub returns : goal.returns
returns c = ap (λ (x : Layout). record x { distances_known = false }) c.again-measuring.ensures
