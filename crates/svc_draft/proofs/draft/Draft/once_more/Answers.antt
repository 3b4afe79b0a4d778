use Rattle.std.proofs.Common.{ap, not}
use Rattle.svc_draft.specs.Drafts.{layout_of}
use Rattle.svc_layout.specs.Layouts.{Layout}
use Rattle.svc_draft.proofs.draft.Draft.once_more.Goals as goal

pub returns : goal.returns
returns c = let d = layout_of c.args.self in ap (λ (x : Layout). record x { places_known = not d.lacks_places; turned = d.turned; turns_all = d.turns_all }) c.behind-more.ensures.layout
