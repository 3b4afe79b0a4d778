use Rattle.svc_program.proofs.dispatch.perform.Goals as goal

pub returns-in-Some-clause-apart : goal.returns-in-Some-clause-apart
returns-in-Some-clause-apart g c = λ over. let found = c.is_over_itself.ensures over in absurd (cc)

pub returns-in-None-clause-apart : goal.returns-in-None-clause-apart
returns-in-None-clause-apart g c = λ over. let found = c.is_over_itself.ensures over in absurd (cc)
