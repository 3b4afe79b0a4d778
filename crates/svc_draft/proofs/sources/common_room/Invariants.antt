use Rattle.std.proofs.Common.{◌≡◌, drop, map}
use Rattle.svc_draft.specs.Drafts.{source_of}
use Rattle.svc_layout.specs.Sources.{common_room}
use Rattle.svc_draft.proofs.sources.common_room.Given as goal

abbrev pub invariant-loop-text : goal.invariant-loop-text
invariant-loop-text l = common_room l.name (map source_of (drop l.text-index l.texts)) l.greatest ≡ common_room l.name (map source_of l.texts) l.fn.room
