use Rattle.svc_retire.specs.Purges.{IsNewest}
use Rattle.svc_retire.proofs.purging.newest_value.Given as goal

abbrev pub invariant-loop-held : goal.invariant-loop-held
invariant-loop-held l = IsNewest l.committed l.held-index l.newest
