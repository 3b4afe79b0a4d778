use Rattle.std.proofs.Common.{refl}
use Rattle.svc_history_laws.specs.declared.entry.ReplyKind.TheVariants as word
use Rattle.svc_report.proofs.words.ReplyKindWord.all.Goals as goal

pub returns : goal.returns
returns c word.Assigned = (0, refl)
returns c word.Ran = (1, refl)
returns c word.Loaded = (2, refl)
returns c word.Stored = (3, refl)
returns c word.Emitted = (4, refl)
returns c word.Trapped = (5, refl)
returns c word.Replaced = (6, refl)
returns c word.Cancelled = (7, refl)
returns c word.Committed = (8, refl)
