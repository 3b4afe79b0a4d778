use Rattle.std.proofs.Common.{◌≡◌, ◌++◌, drop}
use Rattle.std.specs.Prelude.{flat_map}
use Rattle.svc_instruction_profile.specs.Charges.{lost_by}
use Rattle.svc_instruction_profile.proofs.lost.push_all_lost.Given as goal

abbrev pub invariant-loop-run : goal.invariant-loop-run
invariant-loop-run l =
    l.charges.items ++ flat_map (lost_by l.asked l.entries l.at) (drop l.run-index l.settled)
    ≡ l.fn.charges.items ++ flat_map (lost_by l.asked l.entries l.at) l.settled
