use Rattle.std.proofs.Common.{◌≡◌, ◌++◌, take}
use Rattle.std.specs.Prelude.{flat_map}
use Rattle.svc_export.specs.Chrome.{mark_event}
use Rattle.svc_export.proofs.mark_events.put_marks.Given as goal

abbrev pub invariant-loop-mark : goal.invariant-loop-mark
invariant-loop-mark l = l.text.items ≡ l.fn.text.items ++ flat_map mark_event (take l.mark-index l.marks)
