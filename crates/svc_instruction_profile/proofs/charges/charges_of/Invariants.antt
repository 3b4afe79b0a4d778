use Rattle.std.proofs.Common.{◌≡◌, ◌++◌, drop}
use Rattle.svc_task_runs.specs.Bounds.{AreFew}
use Rattle.svc_task_runs.specs.Seen.{seen}
use Rattle.svc_instruction_profile.specs.Charges.{charges_from, charges_of}
use Rattle.svc_instruction_profile.proofs.charges.charges_of.Given as goal

abbrev pub invariant-loop-index : goal.invariant-loop-index
invariant-loop-index l = record {
  charges : l.charges.items ++ charges_from l.asked l.entries (seen l.runs) l.index (drop l.index l.entries) ≡ charges_of l.asked l.entries;
  few : AreFew l.index (seen l.runs);
}
