use Rattle.std.proofs.Common.{Some, length, ◌+◌, arith}
use Rattle.svc_retire.specs.Purges.{purges}
use Rattle.svc_bus.proofs.Counting.{purges_few, room_after, room_less}
use Rattle.svc_bus.proofs.request.take_line.Goals as goal

pub drop_in-requires-clause-room : goal.drop_in-requires-clause-room
drop_in-requires-clause-room c =
    let caches = c.args.caches.now in
    let taken = purges caches (Some c.args.unit) c.args.word.0 in
    room_after caches c.purge.new.caches c.args.probes.now c.purge.new.probes taken 1
    (room_less caches c.args.probes.now (1 + length caches) (taken + 1) (omega (arith, purges_few caches (Some c.args.unit) c.args.word.0)) c.requires.room)
    c.purge.ensures.sizes c.purge.ensures.counted
