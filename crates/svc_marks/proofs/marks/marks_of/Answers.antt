use Rattle.std.proofs.Common.{◌<◌, ◌∙◌, arith, length, rules, sym}
use Rattle.svc_marks.proofs.Searching.{all_marks, none_shown, noted, one_more_known}
use Rattle.svc_marks.proofs.marks.marks_of.Goals as goal

pub loop-at-init : goal.loop-at-init
loop-at-init c = (search rules, λ unit word. c.none-stores.ensures unit word ∙ sym (none_shown c.args.entries.now c.args.window.now unit word))

pub loop-at-preserved : goal.loop-at-preserved
loop-at-preserved c =
    let es = c.args.entries.now in
    let w = c.args.window.now in
    let at = c.loop-at.at in
    let from = c.loop-at.auto.at in
    let below = c.loop-at-test.true in
    let to = c.requires.inside in
    let inside : at < length es = omega (arith, below, to) in
    let known = c.loop-at.invariant.1 in (
      one_more_known es w c.loop-at.left.now _ at w.to _ c.loop-at.stores c.loop-at.marks.items c.push_marks.new.marks.items _ below to c.left_at-left.ensures known
          c.in_ok-push_marks.ensures c.loop-at.invariant.0,
      noted es w at _ c.loop-at.stores c.note.new.self from inside known c.in_ok-note.ensures,
    )

pub returns : goal.returns
returns c =
    let w = c.args.window.now in
    all_marks c.args.entries.now w c.loop-at.left.now c.loop-at.at w.to c.loop-at.marks.items _ c.loop-at-test.false c.loop-at.invariant.0
