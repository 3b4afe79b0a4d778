use Rattle.std.proofs.Common.{◌≡◌, ◌<◌, ◌&&◌, ◌==◌, ℕ, false}
use Rattle.svc_line.specs.Bits.{bits_of, is_reusable}
use Rattle.svc_vol.specs.Value.{unit_at, held_at}
use Rattle.svc_vcl.proofs.search.reusable_copy.Given as goal

abbrev pub invariant-loop-place : goal.invariant-loop-place
invariant-loop-place l = (k : ℕ) → k < l.place → ((unit_at l.committed k == l.unit.0) && is_reusable (bits_of (held_at l.committed k).line.bits)) ≡ false
