use Rattle.std.proofs.Common.{take}
use Rattle.std.specs.Prelude.{flat_map}
use Rattle.std.specs.Io.KnownBytes.{Appends, append_known}
use Rattle.svc_profile.specs.Tasks.{task_row}
use Rattle.svc_profile.proofs.tasks.write_rows.Given as goal

abbrev pub invariant-loop-run : goal.invariant-loop-run
invariant-loop-run g l =
    Appends (append_known (g.W.Write.contents l.fn.w) l.fn.text.items) (append_known (g.W.Write.contents l.w) l.text.items)
    (flat_map task_row (take l.run-index l.runs))
