use Rattle.svc_retire.proofs.Dropping.{IsDropped}
use Rattle.svc_retire.proofs.purging.drop_versions.Given as goal

abbrev pub invariant-loop-held : goal.invariant-loop-held
invariant-loop-held l = IsDropped l.initial.caches l.caches l.committed l.keep l.word.0 l.held-index l.initial.probes l.probes
