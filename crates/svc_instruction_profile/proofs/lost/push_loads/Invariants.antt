use Rattle.std.proofs.Common.{◌≡◌, ◌++◌, drop}
use Rattle.svc_instruction_profile.specs.Charges.{loads_lost}
use Rattle.svc_instruction_profile.proofs.lost.push_loads.Given as goal

abbrev pub invariant-loop-index : goal.invariant-loop-index
invariant-loop-index l =
    l.charges.items ++ loads_lost l.run (drop l.index l.asked) (drop l.index l.entries)
    ≡ l.fn.charges.items ++ loads_lost l.run l.asked l.entries
