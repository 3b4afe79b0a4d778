use Rattle.svc_asm.proofs.rounds.+settle.Given as goal

abbrev pub decreases-settle : goal.decreases-settle
decreases-settle l = l.rounds
