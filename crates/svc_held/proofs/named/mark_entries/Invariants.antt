use Rattle.std.proofs.Common.{take, length}
use Rattle.svc_held.specs.Named.{IsMarked}
use Rattle.svc_held.proofs.named.mark_entries.Given as goal

abbrev pub invariant-loop-entry : goal.invariant-loop-entry
invariant-loop-entry l = IsMarked (take l.entry-index l.entries) (length l.fn.marks) l.marks
