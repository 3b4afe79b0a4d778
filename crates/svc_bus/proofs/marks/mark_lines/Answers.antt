use Rattle.std.proofs.Common.{option_map, ◌≡◌, subst, suc, ◌+◌, length, arith}
use Rattle.svc_base.specs.declared.ids.UnitId.{UnitId}
use Rattle.svc_bus.proofs.Marking.{IsMarked, mark_begins, mark_held, mark_ends_below, mark_room, mark_steps, mark_ends}
use Rattle.svc_bus.proofs.marks.mark_lines.Goals as goal

pub loop-held-init : goal.loop-held-init
loop-held-init c = mark_begins c.args.caches.now (option_map (λ (u : UnitId). u.0) c.args.mark.now.previous) c.args.mark.now.writer.0 c.args.lines.now c.args.mark.now.word.0 c.args.probes.now

pub mark_line-requires-clause-held : goal.mark_line-requires-clause-held
mark_line-requires-clause-held c = mark_held c.args.caches.now c.loop-held.caches (option_map (λ (u : UnitId). u.0) c.args.mark.now.previous) c.args.mark.now.writer.0 c.args.lines.now c.args.mark.now.word.0 c.loop-held.held-index c.args.probes.now c.loop-held.probes c.loop-held.invariant (omega arith) c.requires.held

pub mark_line-requires-clause-ends : goal.mark_line-requires-clause-ends
mark_line-requires-clause-ends c = (c.requires.ends.0, mark_ends_below c.args.caches.now c.loop-held.caches (option_map (λ (u : UnitId). u.0) c.args.mark.now.previous) c.args.mark.now.writer.0 c.args.lines.now c.args.mark.now.word.0 c.loop-held.held-index c.args.probes.now c.loop-held.probes c.loop-held.invariant c.requires.ends.0 c.requires.ends.1)

pub mark_line-requires-clause-room : goal.mark_line-requires-clause-room
mark_line-requires-clause-room c = mark_room c.args.caches.now c.loop-held.caches (option_map (λ (u : UnitId). u.0) c.args.mark.now.previous) c.args.mark.now.writer.0 c.args.lines.now c.args.mark.now.word.0 c.loop-held.held-index c.args.probes.now c.loop-held.probes c.loop-held.invariant (omega arith) c.requires.room

pub loop-held-preserved : goal.loop-held-preserved
loop-held-preserved c =
    subst (λ n. IsMarked c.args.caches.now c.mark_line.new.caches (option_map (λ (u : UnitId). u.0) c.args.mark.now.previous) c.args.mark.now.writer.0 c.args.lines.now c.args.mark.now.word.0 n c.args.probes.now c.mark_line.new.probes) (let e : suc c.loop-held.held-index ≡ c.loop-held.held-index + 1 = omega arith in e)
    (mark_steps c.args.caches.now c.loop-held.caches (option_map (λ (u : UnitId). u.0) c.args.mark.now.previous) c.args.mark.now.writer.0 c.args.lines.now c.args.mark.now.word.0 c.loop-held.held-index c.args.probes.now c.loop-held.probes c.loop-held.invariant (omega arith) c.mark_line.new.caches c.mark_line.new.probes c.mark_line.ensures.lines c.mark_line.ensures.sizes c.mark_line.ensures.counted)

pub returns-clause-lines : goal.returns-clause-lines
returns-clause-lines c =
    let all : c.loop-held.held-index ≡ length c.args.lines.now = omega arith in
    mark_ends c.args.caches.now c.loop-held.caches (option_map (λ (u : UnitId). u.0) c.args.mark.now.previous) c.args.mark.now.writer.0 c.args.lines.now c.args.mark.now.word.0 c.args.probes.now c.loop-held.probes
    (subst (λ n. IsMarked c.args.caches.now c.loop-held.caches (option_map (λ (u : UnitId). u.0) c.args.mark.now.previous) c.args.mark.now.writer.0 c.args.lines.now c.args.mark.now.word.0 n c.args.probes.now c.loop-held.probes) all c.loop-held.invariant)

pub returns-clause-counted : goal.returns-clause-counted
returns-clause-counted c =
    let all : c.loop-held.held-index ≡ length c.args.lines.now = omega arith in
    (subst (λ n. IsMarked c.args.caches.now c.loop-held.caches (option_map (λ (u : UnitId). u.0) c.args.mark.now.previous) c.args.mark.now.writer.0 c.args.lines.now c.args.mark.now.word.0 n c.args.probes.now c.loop-held.probes) all c.loop-held.invariant).counted
