use Rattle.std.proofs.Common.{◌≡◌}
use Rattle.svc_vcl.specs.Listed.{nearest_version_in}
use Rattle.svc_vcl.proofs.search.nearest_version.Given as goal

abbrev pub invariant-loop-earlier : goal.invariant-loop-earlier
invariant-loop-earlier l = l.nearest ≡ nearest_version_in l.active l.earlier
