use Rattle.std.proofs.Common.{inr}
use Rattle.svc_bus.specs.State.{bus_state}
use Rattle.svc_machine.proofs.AskedTurns.{prepared, room_after, served_by_one}
use Rattle.svc_machine.proofs.asked.word_to_store.Goals as goal

pub returns-in_ok-old-in_default-clause-prepared : goal.returns-in_ok-old-in_default-clause-prepared
returns-in_ok-old-in_default-clause-prepared c t p runs =
    let ens = c.in_ok-old-in_default.ensures {u = tt} in
    let served = served_by_one c.in_ok-old-in_default.served _ (ens.served t p runs) in
    prepared (bus_state c.args.bus.now) c.args.unit.0 t p c.args.access.word c.args.access.lane c.args.value (bus_state c.read.new.self) c.stored_word.result c.in_ok-old-in_default.old c.in_ok-old-in_default.served c.args.kind c.in_default.not-Word runs
    (record { value_is = ens.value t p runs; served_is = served; table = ens.table t p runs }) c.stored_word.ensures

pub returns-in_ok-old-in_default-clause-room : goal.returns-in_ok-old-in_default-clause-room
returns-in_ok-old-in_default-clause-room c =
    let r = c.requires.running in
    let ens = c.in_ok-old-in_default.ensures {u = tt} in
    inr (ens.refused, room_after (bus_state c.read.new.self) c.args.unit.0 r.0 r.1 c.args.access.word (ens.table r.0 r.1 r.2) r.2.unit_is)
