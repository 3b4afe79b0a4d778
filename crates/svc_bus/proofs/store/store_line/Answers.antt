use Rattle.std.proofs.Common.{◌∙◌, ◌==◌, ◌&&◌, ap, length, Some, option_map}
use Rattle.svc_base.specs.declared.ids.UnitId.{UnitId}
use Rattle.svc_line.specs.Line.{seen_line}
use Rattle.svc_vcl.specs.Planned.{is_named}
use Rattle.svc_bus.specs.Marks.{overtaken_where}
use Rattle.svc_bus.specs.Stores.{left_line}
use Rattle.svc_bus.proofs.Storing.{held_after, room_left, searches_few, put_ends}
use Rattle.svc_bus.proofs.store.store_line.Goals as goal

pub mark_lines-requires-clause-held : goal.mark_lines-requires-clause-held
mark_lines-requires-clause-held c =
    held_after c.args.caches.now c.put_line.new.caches c.args.store.now.unit.0 c.args.store.now.word.0 (Some (seen_line c.args.store.now.line)) c.args.store.now.changed.now c.requires.change.once c.in_ok-put_line.ensures.sizes c.in_ok-put_line.ensures.lines c.requires.change.held

pub mark_lines-requires-clause-ends : goal.mark_lines-requires-clause-ends
mark_lines-requires-clause-ends c =
    (length c.args.backing.now, put_ends c.args.caches.now c.put_line.new.caches c.args.store.now.unit.0 c.args.store.now.word.0 (length c.args.backing.now) (Some (seen_line c.args.store.now.line)) c.requires.request.purge.in_memory c.requires.ends c.in_ok-put_line.ensures.lines)

pub mark_lines-requires-clause-room : goal.mark_lines-requires-clause-room
mark_lines-requires-clause-room c =
    room_left c.args.caches.now c.put_line.new.caches c.args.probes.now c.put_line.new.probes c.args.store.now.unit c.args.store.now.word.0 c.args.store.now.changed.now c.requires.change.held c.in_ok-put_line.ensures.sizes c.in_ok-put_line.ensures.counted c.requires.room

pub returns-clause-searches : goal.returns-clause-searches
returns-clause-searches c =
    searches_few c.args.caches.now c.put_line.new.caches c.args.probes.now c.put_line.new.probes c.mark_lines.new.probes c.args.store.now.unit c.args.store.now.word.0 c.args.store.now.changed.now c.requires.request.known c.requires.change.once c.requires.change.held c.in_ok-put_line.ensures.sizes c.in_ok-put_line.ensures.counted c.mark_lines.ensures.counted

pub returns-clause-lines : goal.returns-clause-lines
returns-clause-lines c = λ u a.
    let word = c.args.store.now.word.0 in
    let changed = c.args.store.now.changed.now in
    let put = c.in_ok-put_line.ensures.lines in
    c.squash_lines.ensures.lines u a
    ∙ ap (left_line c.args.queue.now c.args.store.now.tasks_left u) (c.mark_lines.ensures.lines u a ∙ ap (overtaken_where (option_map (λ (unit : UnitId). unit.0) c.args.store.now.previous) c.args.store.now.unit.0 u ((a == word) && is_named changed u)) (put u a))
