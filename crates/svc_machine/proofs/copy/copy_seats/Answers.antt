use Rattle.std.proofs.Common.{◌≡◌, ◌<◌, ◌++◌, ◌∷◌, [], ◌∙◌, ap, sym, arith, true, is_ok, List, length, length-take, take, get_or}
use Rattle.std.specs.Prelude.{if◌then◌else◌}
use Rattle.std.proofs.lemmas.List.{take_more}
use Rattle.std.proofs.lemmas.Grind.{common_steps}
use Rattle.svc_machine.specs.declared.seat.Seat.{Seat}
use Rattle.svc_machine.proofs.copy.copy_seats.Goals as goal

pub loop-seat-preserved : goal.loop-seat-preserved
loop-seat-preserved c =
    let others : List Seat = c.args.others.now in
    let seats = c.loop-seat.seats in
    let i = c.loop-seat.seat-index in
    let inv = c.loop-seat.invariant in
    let inside : i < length others = omega (arith, c.loop-seat-test.true) in
    let n : length seats.items ≡ length (take i others) = ap (λ (l : List Seat). length l) inv.items in
    let k = length-take i others in
    let fits = c.requires in
    let room = inv.room in
    let own = seats.ok.0 in
    let ok : is_ok c.push-room.result ≡ true = c.push-room.ensures.succeeds (omega (arith, n, k, fits, room, own, inside)) in
    record {
      items =
          c.push-room.ensures.items ∙ ap (λ b. if b then seats.items ++ c.copy.result ∷ [] else seats.items) ok
          ∙ (λ j. inv.items j ++ (c.copy.ensures ∙ c.seat-item.is) j ∷ [])
          ∙ sym (take_more others i c.seat-item.result inside);
      room = let more = c.push-room.ensures.capacity in omega (arith, room, more);
    }

pub returns-clause-seats : goal.returns-clause-seats
returns-clause-seats c = c.loop-seat.invariant.items ∙ grind (arith, common_steps)
