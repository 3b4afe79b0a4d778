use Rattle.std.proofs.Common.{ap}
use Rattle.svc_draft.specs.Drafts.{layout_of}
use Rattle.svc_layout.specs.Layouts.{Layout}
use Rattle.svc_draft.proofs.draft.Draft.next_round.Goals as goal

pub returns : goal.returns
returns c = ap (λ (x : Layout). record x { turned = (layout_of c.args.self).turned }) c.new-next.ensures
