use Rattle.std.proofs.Common.{refl}
use Rattle.svc_history_laws.specs.declared.entry.ServedKind.TheVariants as word
use Rattle.svc_report.proofs.words.ServedKindWord.all.Goals as goal

pub returns : goal.returns
returns c word.Hit = (0, refl)
returns c word.Reuse = (1, refl)
returns c word.Version = (2, refl)
returns c word.Spill = (3, refl)
returns c word.Committed = (4, refl)
returns c word.Memory = (5, refl)
