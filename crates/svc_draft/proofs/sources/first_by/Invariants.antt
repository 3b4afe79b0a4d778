use Rattle.std.proofs.Common.{◌≡◌, drop, map}
use Rattle.svc_draft.specs.Drafts.{source_of}
use Rattle.svc_layout.specs.Sources.{first_by}
use Rattle.svc_draft.proofs.sources.first_by.Given as goal

abbrev pub invariant-loop-text : goal.invariant-loop-text
invariant-loop-text l = first_by l.how l.name (map source_of (drop l.text-index l.texts)) ≡ first_by l.how l.name (map source_of l.texts)
