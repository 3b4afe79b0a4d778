use Rattle.std.proofs.Common.{ℕ, ◌≡◌, ◌∙◌, ◌<◌, ◌≤◌, refl, ap, arith, length}
use Rattle.svc_base.specs.declared.ids.UnitId.{UnitId}
use Rattle.svc_machine.specs.Reads.{lease_of}
use Rattle.svc_machine.specs.Value.{MachineValue}
use Rattle.svc_schedule.specs.Orders.{place_among, rank_of}
use Rattle.svc_schedule.proofs.Turning.{by_rank_next, place_within, ranks_next}
use Rattle.svc_schedule.proofs.policies.by_age.Goals as goal

pub insert-requires : goal.insert-requires
insert-requires c =
    let i = c.loop-number.invariant in
    let within = place_within c.as_slice.result.now c.rank_of-rank.result in
    let same = ap length c.as_slice.ensures.value in
    let in_bounds : c.place_among-place.result ≤ length c.loop-number.ranks.items = omega (arith, within, same, c.place_among-place.ensures) in
    let room : length c.loop-number.ranks.items < 16 = omega (arith, i.ranks_len, i.few, c.loop-number-test.true) in
    (omega arith, (in_bounds, room))

pub insert-requires-in-loop-number : goal.insert-requires-in-loop-number
insert-requires-in-loop-number c =
    let i = c.loop-number.invariant in
    let within = place_within c.as_slice.result.now c.rank_of-rank.result in
    let same = ap length c.as_slice.ensures.value in
    let in_bounds : c.place_among-place.result ≤ length c.loop-number.order.items = omega (arith, within, same, c.place_among-place.ensures, i.len, i.ranks_len) in
    let room : length c.loop-number.order.items < 16 = omega (arith, i.len, i.few, c.loop-number-test.true) in
    (omega arith, (in_bounds, room))

pub loop-number-preserved : goal.loop-number-preserved
loop-number-preserved c =
    let i = c.loop-number.invariant in
    let n : ℕ = c.loop-number.number in
    let unit : UnitId = record { 0 = n } in
    let rank : ℕ → ℕ = λ u. rank_of c.args.first (lease_of c.args.recorder.now.machine u) in
    let r_is : c.rank_of-rank.result ≡ rank n =
    c.rank_of-rank.ensures ∙ ap (rank_of c.args.first) (c.lease.ensures ∙ ap (λ (m : MachineValue). lease_of m n) c.machine-machine.ensures.machine) in
    let place_is = c.place_among-place.ensures ∙ ap (λ l. place_among l c.rank_of-rank.result) c.as_slice.ensures.value in
    let order = c.loop-number.order.items in
    let ranks = c.loop-number.ranks.items in
    let put = c.insert-in-loop-number.ensures in
    record {
      items = by_rank_next rank n order c.insert-in-loop-number.new.self.items ranks c.place_among-place.result c.rank_of-rank.result unit put.items place_is r_is refl i.items i.ranks;
      ranks = ranks_next rank order c.insert-in-loop-number.new.self.items ranks c.insert.new.self.items c.place_among-place.result c.rank_of-rank.result unit put.items c.insert.ensures.items r_is i.ranks;
      len = omega (arith, i.len, put.len);
      ranks_len = omega (arith, i.ranks_len, c.insert.ensures.len);
      few = i.few;
    }
