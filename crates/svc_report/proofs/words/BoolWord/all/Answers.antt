use Rattle.std.proofs.Common.{refl, true, false}
use Rattle.svc_report.proofs.words.BoolWord.all.Goals as goal

pub returns : goal.returns
returns c false = (0, refl)
returns c true = (1, refl)
