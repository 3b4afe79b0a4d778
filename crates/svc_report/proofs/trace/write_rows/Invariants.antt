use Rattle.std.proofs.Common.{◌++◌, take}
use Rattle.std.specs.Prelude.{flat_map}
use Rattle.std.specs.Io.KnownBytes.{Appends, append_known}
use Rattle.svc_report.specs.Lines.{line}
use Rattle.svc_report.specs.Trace.{header, row_of}
use Rattle.svc_report.proofs.trace.write_rows.Given as goal

abbrev pub invariant-loop-entry : goal.invariant-loop-entry
invariant-loop-entry g l = Appends (append_known (g.W.Write.contents l.fn.w) l.fn.pending) (append_known (g.W.Write.contents l.w) l.pending) (line header ++ flat_map row_of (take l.entry-index l.entries))
