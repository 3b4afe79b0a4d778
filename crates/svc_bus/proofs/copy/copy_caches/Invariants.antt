use Rattle.svc_bus.proofs.Copying.{IsCopied}
use Rattle.svc_bus.proofs.copy.copy_caches.Given as goal

abbrev pub invariant-loop-unit : goal.invariant-loop-unit
invariant-loop-unit l = record { copied : IsCopied l.caches l.others l.unit }
