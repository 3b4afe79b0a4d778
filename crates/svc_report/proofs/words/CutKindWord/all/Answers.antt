use Rattle.std.proofs.Common.{refl}
use Rattle.svc_history_laws.specs.declared.entry.CutKind.TheVariants as word
use Rattle.svc_report.proofs.words.CutKindWord.all.Goals as goal

pub returns : goal.returns
returns c word.Violation = (0, refl)
returns c word.Guess = (1, refl)
returns c word.Cancel = (2, refl)
