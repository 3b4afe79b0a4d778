use Rattle.std.proofs.Common.{◌∙◌, true}
use Rattle.svc_draft.specs.Drafts.{layout_of}
use Rattle.svc_layout.specs.Sources.{Source, source_seen}
use Rattle.svc_layout.specs.Layouts.{Layout}
use Rattle.svc_layout.specs.Passes.{empty}
use Rattle.svc_draft.proofs.draft.Draft.again.Goals as goal

pub returns : goal.returns
returns c =
    let d = layout_of c.args.self in
    let begun = λ (x : Layout) (s : Source). record x { known = true; places_known = true; distances_known = true; source = source_seen true x.sources x.number s; data_from = c.data_begin-data_from.result; bss_from = c.bss_begin-bss_from.result; data_step = d.data_step; bss_step = d.bss_step; turned = d.turned; turns_all = d.turns_all } in
    let data_from = c.data_begin-data_from.ensures.value in
    let bss_from = c.bss_begin-bss_from.ensures.value in
    (λ i. begun (c.behind-again.ensures.layout i) (c.behind-again.ensures.fresh i)) ∙ (λ i. record (empty d.found true (data_from i) (bss_from i)) { data_step = d.data_step; bss_step = d.bss_step; turned = d.turned; turns_all = d.turns_all })
