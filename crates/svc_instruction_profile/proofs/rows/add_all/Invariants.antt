use Rattle.std.proofs.Common.{◌≡◌, [], drop}
use Rattle.svc_instruction_profile.specs.Rows.{with_charges}
use Rattle.svc_instruction_profile.proofs.rows.add_all.Given as goal

abbrev pub invariant-loop-charge : goal.invariant-loop-charge
invariant-loop-charge l = with_charges l.rows.entries (drop l.charge-index l.charges) ≡ with_charges [] l.charges
