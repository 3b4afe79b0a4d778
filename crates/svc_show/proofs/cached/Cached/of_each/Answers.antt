use Rattle.std.proofs.Common.{◌∙◌, ◌+◌, Bool, ap, ap₂, subst, sym}
use Rattle.std.specs.Prelude.{◌||◌, is_some}
use Rattle.svc_bus.specs.State.{bus_state}
use Rattle.svc_held.specs.Held.{is_named_line}
use Rattle.svc_show.specs.Named.{AreVersions, and_line}
use Rattle.svc_show.proofs.Caches.{one_cache}
use Rattle.svc_held.proofs.Ranges.{any_more}
use Rattle.svc_show.proofs.cached.Cached.of_each.Goals as goal

pub loop-unit-preserved : goal.loop-unit-preserved
loop-unit-preserved c =
    let bus = bus_state c.args.machine.now.bus in
    let n = c.args.named in
    let at = c.loop-unit.unit in
    let so_far = c.loop-unit.cached in
    let shown = c.line_of_named.ensures in (
      c.and-cached.ensures.line ∙ ap₂ (λ (x y : Bool). x || y) c.loop-unit.invariant.0 (ap is_some shown) ∙ sym (any_more (is_named_line bus n) at),
      subst (AreVersions bus n (at + 1)) (sym (c.and-cached.ensures.versions ∙ ap (and_line so_far.versions) shown)) (one_cache bus n at so_far.versions c.loop-unit.invariant.1),
    )
