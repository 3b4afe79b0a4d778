use Rattle.std.specs.Prelude.{vec_capacity}
use Rattle.svc_machine.proofs.Opening.{opened_kept}
use Rattle.svc_machine.proofs.machine.Machine.open_from.Goals as goal

pub invariant_of-result : goal.invariant_of-result
invariant_of-result c =
    let seats = c.in_ok-seats.seats in
    let output = c.in_ok-output.output in
    opened_kept c.args.image c.open_bus.ensures.sound c.args.config c.args.first c.in_ok-bus.bus c.in_ok-sequencer.sequencer seats.items (vec_capacity seats) output.items (vec_capacity output)
    c.in_ok-seats.ensures.empty c.in_ok-output.ensures.empty c.in_ok-sequencer.ensures.ok c.in_ok-bus.ensures.table c.in_ok-seats.ensures.room c.in_ok-output.ensures.room
