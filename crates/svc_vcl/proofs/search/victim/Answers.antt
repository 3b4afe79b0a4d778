use Rattle.std.proofs.Common.{◌≡◌, ◌∙◌, ◌<◌, false, sym, length, arith}
use Rattle.svc_vcl.specs.Listed.{slot_at, is_exposure, is_version}
use Rattle.svc_vcl.proofs.Searching.{walk_goes_on}
use Rattle.svc_vcl.proofs.search.victim.Goals as goal

pub loop-later-preserved : goal.loop-later-preserved
loop-later-preserved c =
    let active = c.args.active.now in
    let later = c.loop-later.later in
    let here : later < length active = omega arith in
    let fail : is_exposure (slot_at active later) ≡ false = sym c.is_exposure.ensures ∙ c.if-is_exposure.false in
    let also : is_version (slot_at active later) ≡ false = sym c.is_version.ensures ∙ c.if-is_version.false in
    c.loop-later.invariant ∙ walk_goes_on _ _ later (length active) here fail also
