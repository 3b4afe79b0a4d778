use Rattle.std.proofs.Common.{◌≡◌}
use Rattle.svc_vcl.specs.Listed.{is_overtaken_in}
use Rattle.svc_vcl.proofs.search.is_overtaken.Given as goal

abbrev pub invariant-loop-later : goal.invariant-loop-later
invariant-loop-later l = l.overtaken ≡ is_overtaken_in l.active l.later l.place
