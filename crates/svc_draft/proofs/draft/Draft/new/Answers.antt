use Rattle.std.proofs.Common.{◌∙◌, false, ap, List, map}
use Rattle.svc_draft.specs.declared.sources.SourceTables.{SourceTables}
use Rattle.svc_draft.specs.Drafts.{source_of}
use Rattle.svc_layout.specs.Passes.{empty}
use Rattle.svc_draft.proofs.draft.Draft.new.Goals as goal

pub returns : goal.returns
returns c = c.behind.ensures.layout ∙ ap (λ (ts : List SourceTables). empty (map source_of ts) false 0 0) c.new.ensures.items
