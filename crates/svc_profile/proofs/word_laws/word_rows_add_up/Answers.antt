use Rattle.svc_profile.proofs.AddingWords.{loads_come, squashed_come, stores_come, turns_come, versions_come, violations_come}
use Rattle.svc_profile.proofs.word_laws.word_rows_add_up.Goals as goal

pub returns-clause-loads : goal.returns-clause-loads
returns-clause-loads c = loads_come c.args.entries.now c.requires.named

pub returns-clause-stores : goal.returns-clause-stores
returns-clause-stores c = stores_come c.args.entries.now c.requires.named

pub returns-clause-versions : goal.returns-clause-versions
returns-clause-versions c = versions_come c.args.entries.now c.requires.named

pub returns-clause-violations : goal.returns-clause-violations
returns-clause-violations c = violations_come c.args.entries.now c.requires.named

pub returns-clause-squashed : goal.returns-clause-squashed
returns-clause-squashed c = squashed_come c.args.entries.now c.requires.named

pub returns-clause-turns : goal.returns-clause-turns
returns-clause-turns c = turns_come c.args.entries.now c.requires.named
