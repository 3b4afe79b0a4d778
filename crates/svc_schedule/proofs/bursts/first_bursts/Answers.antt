use Rattle.std.proofs.Common.{rules, arith, ◌≡◌, ◌∷◌, ◌++◌, [], length, length-append, ap}
use Rattle.svc_schedule.proofs.Making.{ready_more}
use Rattle.svc_schedule.proofs.bursts.first_bursts.Goals as goal

pub loop-unit-preserved : goal.loop-unit-preserved
loop-unit-preserved c =
    let i = c.loop-unit.invariant in
    let more : c.push.new.self.items ≡ c.loop-unit.bursts.items ++ c.advance.result ∷ [] = search rules in
    let longer = ap length more in
    record {
      count = omega (arith, longer, length-append c.loop-unit.bursts.items (c.advance.result ∷ []), i.count);
      each = ready_more c.args.image.now c.args.most c.loop-unit.bursts.items c.push.new.self.items c.advance.result more i.each c.advance.ensures.advance;
    }
