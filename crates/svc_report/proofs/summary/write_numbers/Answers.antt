use Rattle.std.proofs.Common.{arith}
use Rattle.svc_report.proofs.CountRows.{one_more}
use Rattle.svc_report.proofs.summary.write_numbers.Goals as goal

pub loop-index-preserved : goal.loop-index-preserved
loop-index-preserved g c = one_more _ _ _ c.args.names.now c.args.numbers.now c.loop-index.index _ _ c.in_ok-write_number.ensures.ok (omega arith) (omega arith) c.loop-index.invariant
