use Rattle.std.proofs.Common.{◌≡◌, take}
use Rattle.svc_report.specs.Summary.{counts_of}
use Rattle.svc_report.proofs.counts.Counts.of.Given as goal

abbrev pub invariant-loop-entry : goal.invariant-loop-entry
invariant-loop-entry l = l.counts ≡ counts_of (take l.entry-index l.entries)
