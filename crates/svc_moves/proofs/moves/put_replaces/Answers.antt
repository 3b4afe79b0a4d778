use Rattle.std.proofs.Common.{Some, List, Option, Bool, ℕ, ◌∙◌, subst, sym, ap}
use Rattle.std.specs.Io.KnownBytes.{Appends}
use Rattle.svc_report.proofs.PlainLines.{on_ok, then_appends}
use Rattle.svc_core_laws.specs.Turns.{data_words}
use Rattle.svc_bus.specs.State.{bus_state}
use Rattle.svc_held.proofs.Listed.{own_held}
use Rattle.svc_moves.proofs.ReplacesHeld.{replaces_held}
use Rattle.svc_moves.proofs.moves.put_replaces.Goals as goal

pub put_each-requires : goal.put_each-requires
put_each-requires c =
    let m = c.args.machine.now in
    record { own = own_held (bus_state m.bus) (data_words m.image) c.requires.held.0 c.args.named.now c.requires.held.1 }

pub returns : goal.returns
returns c = λ s at.
    let m = c.args.machine.now in
    let same =
    replaces_held m.image m.config s (bus_state m.bus) at.lines.lines c.requires.held.0 c.args.named.now c.requires.held.1 c.args.unit.0 in
    on_ok c.put_each.result (subst (Appends (Some c.args.rows.now.items) (Some c.put_each.new.rows.items)) same) (c.put_each.ensures s at)
