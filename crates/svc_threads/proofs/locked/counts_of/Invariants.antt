use Rattle.std.proofs.Common.{◌≡◌, take}
use Rattle.svc_threads.specs.Counts.{row_of_entries}
use Rattle.svc_threads.proofs.locked.counts_of.Given as goal

abbrev pub invariant-loop-entry : goal.invariant-loop-entry
invariant-loop-entry l = l.counts ≡ row_of_entries (take l.entry-index l.recorder.entries)
