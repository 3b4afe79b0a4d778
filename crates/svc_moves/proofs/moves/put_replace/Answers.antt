use Rattle.std.proofs.Common.{Some, List, Option, Bool, ℕ, ◌∙◌, subst, sym, ap}
use Rattle.std.specs.Io.KnownBytes.{Appends}
use Rattle.svc_report.proofs.PlainLines.{on_ok, then_appends}
use Rattle.std.specs.Prelude.{[], cond}
use Rattle.svc_core_laws.specs.Turns.{data_words}
use Rattle.svc_bus.specs.State.{bus_state}
use Rattle.svc_machine_laws.specs.Events.{Replace}
use Rattle.svc_moves.specs.Moves.{event_row}
use Rattle.svc_moves.proofs.ReplacesHeld.{is_held}
use Rattle.svc_moves.proofs.moves.put_replace.Goals as goal

pub returns : goal.returns
returns c = λ s at.
    let m = c.args.machine.now in
    let unit = c.args.unit.0 in
    let word = c.args.named.word.0 in
    let a = Some c.args.rows.now.items in
    let b = Some c.put_if_held.new.rows.items in
    let same =
    c.holds_line-is_held.ensures ∙ is_held (bus_state m.bus) s at.lines.lines (data_words m.image) c.args.named c.requires.own unit in
    on_ok c.put_if_held.result (subst (λ (x : Bool). Appends a b (cond x (event_row m.image m.config s unit (Replace unit word)) [])) same) (c.put_if_held.ensures s at)
