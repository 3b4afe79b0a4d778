use Rattle.std.proofs.Common.{◌∙◌, sym}
use Rattle.svc_profile.proofs.AddingWords.{loads_come, stores_come}
use Rattle.svc_profile.proofs.Done.{loads_done, stores_done}
use Rattle.svc_profile.proofs.word_laws.word_rows_are_of_tasks.Goals as goal

pub returns-clause-loads : goal.returns-clause-loads
returns-clause-loads c = loads_come c.args.entries.now c.requires.named ∙ sym (loads_done c.args.entries.now c.requires.alone)

pub returns-clause-stores : goal.returns-clause-stores
returns-clause-stores c = stores_come c.args.entries.now c.requires.named ∙ sym (stores_done c.args.entries.now c.requires.alone)
