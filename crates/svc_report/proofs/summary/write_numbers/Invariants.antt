use Rattle.std.proofs.Common.{Bor, List, ℕ, map, take}
use Rattle.std.specs.Io.KnownBytes.{Appends, append_known}
use Rattle.svc_report.specs.Summary.{number_rows}
use Rattle.svc_report.proofs.summary.write_numbers.Given as goal

abbrev pub invariant-loop-index : goal.invariant-loop-index
invariant-loop-index g l =
    Appends (append_known (g.W.Write.contents l.fn.w) l.fn.pending) (append_known (g.W.Write.contents l.w) l.pending) (number_rows (take l.index (map (λ (name : Bor (List ℕ)). name.now) l.names)) (take l.index l.numbers))
