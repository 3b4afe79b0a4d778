use Rattle.std.proofs.Common.{◌∙◌}
use Rattle.svc_core_laws.specs.Turns.{data_words}
use Rattle.svc_bus.specs.State.{bus_state}
use Rattle.svc_held.proofs.Listed.{own_cached}
use Rattle.svc_version_order.proofs.order.is_cached.Goals as goal

pub returns : goal.returns
returns c =
    let m = c.args.machine.now in
    c.is_named_cached.ensures ∙ own_cached (bus_state m.bus) (data_words m.image) c.args.units c.args.named c.requires.own
