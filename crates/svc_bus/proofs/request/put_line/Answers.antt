use Rattle.std.proofs.Common.{◌≡◌, ◌∙◌, sym, ap, subst, cond, ◌==◌, get_or, Some, length, ◌+◌, arith}
use Rattle.svc_line.specs.Line.{seen_line}
use Rattle.svc_retire.specs.Purges.{purges}
use Rattle.svc_bus.proofs.Counting.{purges_few, room_after, room_less}
use Rattle.svc_bus.proofs.Putting.{HasOwn, LacksOwn, has_own, lacks_own, filled_answers, filled_not, still_listed, still_ranked, committed_kept, purges_kept, counts_both}
use Rattle.svc_bus.proofs.request.put_line.Goals as goal

pub fill_in-requires-clause-room : goal.fill_in-requires-clause-room
fill_in-requires-clause-room c =
    let caches = c.args.caches.now in
    let taken = purges caches (Some c.args.unit) c.args.word.0 in
    room_after caches c.purge.new.caches c.args.probes.now c.purge.new.probes taken 1
    (room_less caches c.args.probes.now (1 + length caches) (taken + 1) (omega (arith, purges_few caches (Some c.args.unit) c.args.word.0)) c.requires.room)
    c.purge.ensures.sizes c.purge.ensures.counted

pub returns-then-has_line_of-clause-refused : goal.returns-then-has_line_of-clause-refused
returns-then-has_line_of-clause-refused c =
    let has : HasOwn c.args.list.now.committed c.args.unit.0 = subst (λ vs. HasOwn vs c.args.unit.0) c.committed.ensures.lines (has_own c.committed.result.now c.args.unit.0 (sym c.if-has_line_of.ensures)) in
    filled_answers c.fill_in.result c.args.caches.now c.purge.new.caches c.args.list.now.committed c.args.unit c.args.word.0 (length c.args.backing.now) c.requires.request.purge.listed has.0 has.1 has.2 c.requires.ends c.purge.ensures.lines c.fill_in.ensures.refused

pub returns-then-has_line_of-clause-same_caches : goal.returns-then-has_line_of-clause-same_caches
returns-then-has_line_of-clause-same_caches c =
    let has : HasOwn c.args.list.now.committed c.args.unit.0 = subst (λ vs. HasOwn vs c.args.unit.0) c.committed.ensures.lines (has_own c.committed.result.now c.args.unit.0 (sym c.if-has_line_of.ensures)) in
    filled_not c.fill_in.result c.args.caches.now c.purge.new.caches c.args.list.now.committed c.args.unit c.args.word.0 (length c.args.backing.now) c.requires.request.purge.listed has.0 has.1 has.2 c.requires.ends c.purge.ensures.lines c.fill_in.ensures.refused (c.fill_in.new.caches ≡ c.args.caches.now)

pub returns-then-has_line_of-clause-same_memory : goal.returns-then-has_line_of-clause-same_memory
returns-then-has_line_of-clause-same_memory c =
    let has : HasOwn c.args.list.now.committed c.args.unit.0 = subst (λ vs. HasOwn vs c.args.unit.0) c.committed.ensures.lines (has_own c.committed.result.now c.args.unit.0 (sym c.if-has_line_of.ensures)) in
    filled_not c.fill_in.result c.args.caches.now c.purge.new.caches c.args.list.now.committed c.args.unit c.args.word.0 (length c.args.backing.now) c.requires.request.purge.listed has.0 has.1 has.2 c.requires.ends c.purge.ensures.lines c.fill_in.ensures.refused (c.purge.new.backing ≡ c.args.backing.now)

pub purge-requires-2-clause-purge : goal.purge-requires-2-clause-purge
purge-requires-2-clause-purge c =
    let absent : LacksOwn c.args.list.now.committed c.args.unit.0 = subst (λ vs. LacksOwn vs c.args.unit.0) c.committed.ensures.lines (lacks_own c.committed.result.now c.args.unit.0 (sym c.if-has_line_of.ensures)) in
    record {
      listed = still_listed c.args.caches.now c.fill_in-2.new.caches c.args.list.now.committed c.args.unit c.args.word.0 (seen_line c.args.line) c.requires.request.purge.listed absent c.requires.request.known c.requires.active c.in_ok-fill_in.ensures.lines c.in_ok-fill_in.ensures.others c.in_ok-fill_in.ensures.sizes;
      ranked = still_ranked c.args.caches.now c.fill_in-2.new.caches c.args.list.now.committed c.args.unit c.args.word.0 (seen_line c.args.line) c.requires.request.purge.listed absent c.requires.request.known c.requires.active c.in_ok-fill_in.ensures.lines c.in_ok-fill_in.ensures.others c.in_ok-fill_in.ensures.sizes c.requires.request.purge.ranked;
      in_memory = c.requires.request.purge.in_memory;
    }

pub returns-clause-memory : goal.returns-clause-memory
returns-clause-memory c = λ a.
    let absent : LacksOwn c.args.list.now.committed c.args.unit.0 = subst (λ vs. LacksOwn vs c.args.unit.0) c.committed.ensures.lines (lacks_own c.committed.result.now c.args.unit.0 (sym c.if-has_line_of.ensures)) in
    c.purge-2.ensures.memory a ∙ ap (λ value. cond (a == c.args.word.0) value (get_or c.args.backing.now a 0)) (committed_kept c.args.caches.now c.fill_in-2.new.caches c.args.list.now.committed c.args.unit c.args.word.0 (seen_line c.args.line) c.requires.request.purge.listed absent c.requires.request.known c.requires.active c.in_ok-fill_in.ensures.lines c.in_ok-fill_in.ensures.others c.in_ok-fill_in.ensures.sizes c.args.backing.now)

pub returns-clause-counted : goal.returns-clause-counted
returns-clause-counted c =
    let absent : LacksOwn c.args.list.now.committed c.args.unit.0 = subst (λ vs. LacksOwn vs c.args.unit.0) c.committed.ensures.lines (lacks_own c.committed.result.now c.args.unit.0 (sym c.if-has_line_of.ensures)) in
    let kept : purges c.fill_in-2.new.caches (Some c.args.unit) c.args.word.0 ≡ purges c.args.caches.now (Some c.args.unit) c.args.word.0 = purges_kept c.args.caches.now c.fill_in-2.new.caches c.args.list.now.committed c.args.unit c.args.word.0 (seen_line c.args.line) c.requires.request.purge.listed absent c.requires.request.known c.requires.active c.in_ok-fill_in.ensures.lines c.in_ok-fill_in.ensures.others c.in_ok-fill_in.ensures.sizes in
    counts_both c.args.probes.now c.fill_in-2.new.probes c.purge-2.new.probes 1 (purges c.fill_in-2.new.caches (Some c.args.unit) c.args.word.0) (purges c.args.caches.now (Some c.args.unit) c.args.word.0 + 1) (omega (arith, kept)) c.in_ok-fill_in.ensures.counted c.purge-2.ensures.counted
