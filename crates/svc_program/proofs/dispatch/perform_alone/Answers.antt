use Rattle.svc_program.proofs.dispatch.perform_alone.Goals as goal

pub returns-clause-apart : goal.returns-clause-apart
returns-clause-apart g c = λ over. let found = c.is_over_itself-is_over.ensures over in absurd (cc)
