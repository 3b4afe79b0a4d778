use Rattle.std.proofs.Common.{◌≡◌, option_map}
use Rattle.svc_bus_laws.specs.Search.{greatest}
use Rattle.svc_line.specs.Bits.{bits_of, is_dirty}
use Rattle.svc_vol.specs.Value.{held_at}
use Rattle.svc_vcl.proofs.search.newest_version.Given as goal

abbrev pub invariant-loop-place : goal.invariant-loop-place
invariant-loop-place l = l.newest ≡ option_map (held_at l.committed) (greatest l.place (λ i. is_dirty (bits_of (held_at l.committed i).line.bits)))
