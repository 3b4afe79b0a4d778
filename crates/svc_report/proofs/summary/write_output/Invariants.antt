use Rattle.std.proofs.Common.{take}
use Rattle.std.specs.Io.KnownBytes.{Appends, append_known}
use Rattle.svc_report.specs.Summary.{output_rows}
use Rattle.svc_report.proofs.summary.write_output.Given as goal

abbrev pub invariant-loop-word : goal.invariant-loop-word
invariant-loop-word g l =
    Appends (append_known (g.W.Write.contents l.fn.w) l.fn.pending) (append_known (g.W.Write.contents l.w) l.pending) (output_rows (take l.word-index l.output))
