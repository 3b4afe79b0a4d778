use Rattle.std.proofs.Common.{refl}
use Rattle.svc_history_laws.specs.declared.entry.Kind.TheVariants as word
use Rattle.svc_report.proofs.words.KindWord.all.Goals as goal

pub returns : goal.returns
returns c word.Submit = (0, refl)
returns c word.Assign = (1, refl)
returns c word.Commit = (2, refl)
returns c word.Replace = (3, refl)
returns c word.Cancel = (4, refl)
