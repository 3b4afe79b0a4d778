use Rattle.svc_asm.proofs.rounds.+find.Given as goal

abbrev pub decreases-find : goal.decreases-find
decreases-find l = l.passes
