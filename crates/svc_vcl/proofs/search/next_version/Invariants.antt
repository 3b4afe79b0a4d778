use Rattle.std.proofs.Common.{◌≡◌, ◌<◌, ◌&&◌, ltb, ℕ, false}
use Rattle.svc_vcl.specs.Listed.{slot_at, is_version}
use Rattle.svc_vcl.proofs.search.next_version.Given as goal

abbrev pub invariant-loop-later : goal.invariant-loop-later
invariant-loop-later l = (k : ℕ) → k < l.later → (ltb l.place k && is_version (slot_at l.active k)) ≡ false
