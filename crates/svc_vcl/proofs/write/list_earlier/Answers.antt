use Rattle.std.proofs.Common.{◌≡◌, ◌∙◌, ◌<◌, sym, ap, None, length, arith}
use Rattle.svc_vcl.specs.Planned.{unmarked_line}
use Rattle.svc_vcl.proofs.Staling.{kept_on, left_out}
use Rattle.svc_vcl.proofs.write.list_earlier.Goals as goal
use Rattle.svc_vcl.proofs.write.list_earlier.Goals.{in-Some, in_default}

pub loop-slot-preserved : goal.loop-slot-preserved
loop-slot-preserved c =
    let earlier = c.args.earlier.now in
    let index = c.loop-slot.slot-index in
    let within : index < length earlier = omega arith in
    let size = c.loop-slot.invariant.size in
    elim c.match-unmarked_line.branch [
      | in-Some w ↦ record {
        size = let more = w.push.ensures.len in let same : length c.match-unmarked_line.stale.items ≡ length w.push.new.self.items = ap (λ (x : _). length x.items) w.stale-is in omega arith;
        listed =
            ap (λ (x : _). x.items) w.stale-is ∙ w.push.ensures.items
            ∙ kept_on unmarked_line earlier index None c.args.stale.now.items c.loop-slot.stale.items within c.loop-slot.invariant.listed w.in-Some.held (sym c.unmarked_line.ensures ∙ w.in-Some.is);
      }
      | in_default w ↦ record {
        size = let same : length c.match-unmarked_line.stale.items ≡ length c.loop-slot.stale.items = ap (λ (x : _). length x.items) w.stale-is in omega arith;
        listed =
            ap (λ (x : _). x.items) w.stale-is
            ∙ left_out unmarked_line earlier index None c.args.stale.now.items c.loop-slot.stale.items within c.loop-slot.invariant.listed (sym c.unmarked_line.ensures ∙ w.in_default.is);
      }
    ]
