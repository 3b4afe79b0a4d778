use Rattle.svc_line.specs.Bits.{after_squash}
use Rattle.svc_cache.specs.Changes.{IsChangedBelow}
use Rattle.svc_cache.proofs.cache.Cache.for_squash.Given as goal

abbrev pub invariant-loop-place : goal.invariant-loop-place
invariant-loop-place l = IsChangedBelow after_squash l.place-index l.initial.place-items l.place-items
