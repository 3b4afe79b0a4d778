use Rattle.std.proofs.Common.{refl}
use Rattle.svc_script.specs.declared.script.StepWord.TheVariants as word
use Rattle.svc_script.proofs.script.StepWordWord.all.Goals as goal

pub returns : goal.returns
returns c word.Assign = (0, refl)
returns c word.Submit = (1, refl)
returns c word.Replace = (2, refl)
returns c word.Cancel = (3, refl)
returns c word.Commit = (4, refl)
returns c word.Take = (5, refl)
returns c word.Give = (6, refl)
