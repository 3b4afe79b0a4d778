use Rattle.std.proofs.Common.{ap, true}
use Rattle.svc_layout.specs.Layouts.{Layout}
use Rattle.svc_draft.proofs.draft.Draft.last_round.Goals as goal

pub returns : goal.returns
returns c = ap (λ (x : Layout). record x { turns_all = true }) c.new-last.ensures
