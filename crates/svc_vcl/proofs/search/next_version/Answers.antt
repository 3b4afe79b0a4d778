use Rattle.std.proofs.Common.{◌≡◌, ◌∙◌, ◌<◌, ◌&&◌, ltb, lt-ltb, true, sym, ap, arith, below_more}
use Rattle.std.specs.Prelude.{option_and_then}
use Rattle.std.proofs.lemmas.Bool.{and_from}
use Rattle.svc_vcl.specs.Listed.{slot_at, is_version}
use Rattle.svc_vcl.proofs.Searching.{least_here, least_past}
use Rattle.svc_vcl.proofs.Linking.{none_past, not_here}
use Rattle.svc_vcl.proofs.search.next_version.Goals as goal

pub loop-later-init : goal.loop-later-init
loop-later-init c = none_past c.args.active.now c.args.place

pub loop-later-preserved : goal.loop-later-preserved
loop-later-preserved c = below_more _ _ c.loop-later.invariant (not_here c.args.active.now c.args.place c.loop-later.later (sym c.is_version.ensures ∙ c.if-is_version.false))

pub returns-then-is_version : goal.returns-then-is_version
returns-then-is_version c =
    let active = c.args.active.now in
    let later = c.loop-later.later in
    let above : c.args.place < later = omega arith in
    let here : later < c.args.count = omega arith in
    let pass : (ltb c.args.place later && is_version (slot_at active later)) ≡ true = and_from _ _ (lt-ltb c.args.place later above) (sym c.is_version.ensures ∙ c.if-is_version.true) in
    sym (ap (option_and_then (slot_at active)) (least_here c.args.count later _ here pass c.loop-later.invariant))

pub returns : goal.returns
returns c =
    let active = c.args.active.now in
    sym (ap (option_and_then (slot_at active)) (least_past c.args.count c.loop-later.later _ (omega arith) c.loop-later.invariant))
