use Rattle.svc_line.specs.Bits.{after_commit}
use Rattle.svc_cache.specs.Changes.{IsChangedBelow}
use Rattle.svc_cache.proofs.cache.Cache.for_commit.Given as goal

abbrev pub invariant-loop-place : goal.invariant-loop-place
invariant-loop-place l = IsChangedBelow after_commit l.place-index l.initial.place-items l.place-items
