use Rattle.std.proofs.Common.{◌∙◌, Bool, ap₂, sym}
use Rattle.std.specs.Prelude.{◌||◌}
use Rattle.svc_bus.specs.State.{bus_state}
use Rattle.svc_held.specs.Held.{is_named_line}
use Rattle.svc_held.proofs.Ranges.{any_more}
use Rattle.svc_version_order.proofs.order.is_named_cached.Goals as goal

pub loop-unit-preserved : goal.loop-unit-preserved
loop-unit-preserved c =
    c.either-cached.ensures ∙ ap₂ (λ (x y : Bool). x || y) c.loop-unit.invariant c.holds_line.ensures
    ∙ sym (any_more (is_named_line (bus_state c.args.machine.now.bus) c.args.named) c.loop-unit.unit)
