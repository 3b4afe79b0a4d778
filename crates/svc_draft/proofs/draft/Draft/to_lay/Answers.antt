use Rattle.std.proofs.Common.{true}
use Rattle.svc_draft.specs.Drafts.{layout_of}
use Rattle.svc_layout.specs.Sources.{Source, source_seen}
use Rattle.svc_layout.specs.Layouts.{Layout}
use Rattle.svc_draft.proofs.draft.Draft.to_lay.Goals as goal

pub returns : goal.returns
returns c =
    let d = layout_of c.args.self in
    let begun = λ (x : Layout) (s : Source). record x { known = true; places_known = true; distances_known = true; source = source_seen true x.sources x.number s; data_from = d.data_from; bss_from = d.bss_from; data_step = d.data_step; bss_step = d.bss_step; distances = d.distances; turned = d.turned; turns_all = d.turns_all } in
    λ i. begun (c.behind-laying.ensures.layout i) (c.behind-laying.ensures.fresh i)
