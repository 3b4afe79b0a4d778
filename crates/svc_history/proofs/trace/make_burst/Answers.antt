use Rattle.std.proofs.Common.{◌+◌, ◌∙◌, ap, option_map, sym, subst}
use Rattle.svc_image.specs.Image.{Image}
use Rattle.svc_core_laws.specs.Bursts.{IsAdvance}
use Rattle.svc_history.proofs.Tracing.{submit_replays, turns_are}
use Rattle.svc_history.proofs.trace.make_burst.Goals as goal

pub returns-clause-replay : goal.returns-clause-replay
returns-clause-replay c =
    let e = c.args.entry.now in
    let local = c.in_ok-entry.was {u = tt} in
    let asks = c.in_ok-entry-2.was {u = tt} in
    let burst = c.refill.ensures.lease in
    submit_replays c.args.machine.now e c.in_ok-lease.lease.now c.in_ok-entry.field-0 c.in_ok-entry-2.field-0 (c.from.result + c.from-2.result) c.refill.new.self
    (sym c.lease.ensures ∙ ap (option_map (λ lent. lent.now)) (c.in_ok-lease.was {u = tt})) local asks
    (turns_are e.local e.ask c.in_ok-entry.field-0 c.in_ok-entry-2.field-0 c.from.result c.from-2.result local asks c.from.ensures c.from-2.ensures)
    burst.0 burst.1 burst.2 (subst (λ (i : Image). IsAdvance i (c.from.result + c.from-2.result) c.refill.new.self) c.image.ensures c.refill.ensures.advance)
