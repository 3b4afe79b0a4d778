use Rattle.std.proofs.Common.{◌≡◌, ◌+◌, ℕ, arith}
use Rattle.svc_draw.specs.Legend.{lane_text}
use Rattle.svc_draw.proofs.Texts.{numbers_more}
use Rattle.svc_draw.proofs.legend.write_lanes.Goals as goal

pub loop-number-preserved : goal.loop-number-preserved
loop-number-preserved c =
    let n : ℕ = c.loop-number.number in
    numbers_more (lane_text c.args.frame.now.sheet) 0 n n (n + 1) c.args.text.now.items c.loop-number.text.items c.write_lane.new.text.items (omega arith) (omega arith)
    c.loop-number.invariant c.in_ok-write_lane.ensures
