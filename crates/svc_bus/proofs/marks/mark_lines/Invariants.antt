use Rattle.std.proofs.Common.{option_map}
use Rattle.svc_base.specs.declared.ids.UnitId.{UnitId}
use Rattle.svc_bus.proofs.Marking.{IsMarked}
use Rattle.svc_bus.proofs.marks.mark_lines.Given as goal

abbrev pub invariant-loop-held : goal.invariant-loop-held
invariant-loop-held l = IsMarked l.initial.caches l.caches (option_map (λ (u : UnitId). u.0) l.mark.previous) l.mark.writer.0 l.lines l.mark.word.0 l.held-index l.initial.probes l.probes
