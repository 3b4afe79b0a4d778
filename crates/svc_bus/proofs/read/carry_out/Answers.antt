use Rattle.std.proofs.Common.{false, length, inl, inr}
use Rattle.svc_bus.specs.Room.{full_in}
use Rattle.svc_bus.proofs.Counting.{few_counted}
use Rattle.svc_bus.proofs.Reading.{or_hit}
use Rattle.svc_bus.proofs.read.carry_out.Goals as goal

-- whoever serves a bus request, the line is put and the word purged
pub returns-in-Version : goal.returns-in-Version
returns-in-Version c =
    let searches = few_counted c.put_line.result c.args.caches.now c.args.unit c.args.word.0 c.args.probes.now c.put_line.new.probes c.requires.request.known c.put_line.ensures.counted in
    let put = c.put_line.ensures in
    let refused = or_hit c.put_line.result false (full_in c.args.caches.now c.args.unit.0 (length c.args.backing.now) c.args.word.0) put.refused in
    elim c.in-Version.is [
      | inl (unit, is) ↦ rw is (record { refused = refused; same_caches = put.same_caches; same_memory = put.same_memory; lines = put.lines; memory = put.memory; sizes = put.sizes; searches = searches })
      | inr rest ↦ elim rest [
        | inl is ↦ rw is (record { refused = refused; same_caches = put.same_caches; same_memory = put.same_memory; lines = put.lines; memory = put.memory; sizes = put.sizes; searches = searches })
        | inr rest ↦ elim rest [
          | inl (unit, is) ↦ rw is (record { refused = refused; same_caches = put.same_caches; same_memory = put.same_memory; lines = put.lines; memory = put.memory; sizes = put.sizes; searches = searches })
          | inr is ↦ rw is (record { refused = refused; same_caches = put.same_caches; same_memory = put.same_memory; lines = put.lines; memory = put.memory; sizes = put.sizes; searches = searches })
        ]
      ]
    ]
