use Rattle.std.proofs.Common.{◌++◌, take}
use Rattle.std.specs.Prelude.{flat_map}
use Rattle.std.specs.Io.KnownBytes.{Appends, append_known}
use Rattle.svc_report.specs.Lines.{line}
use Rattle.svc_script.specs.Script.{script_header, step_row}
use Rattle.svc_script.proofs.script.write_steps.Given as goal

abbrev pub invariant-loop-step : goal.invariant-loop-step
invariant-loop-step g l = Appends (append_known (g.W.Write.contents l.fn.w) l.fn.pending) (append_known (g.W.Write.contents l.w) l.pending) (line script_header ++ flat_map step_row (take l.step-index l.steps))
