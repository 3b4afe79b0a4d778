use Rattle.std.proofs.Common.{Some, ◌≡◌, ◌∙◌, ℕ, List, codes, length, ap, subst, sym}
use Rattle.std.specs.Io.KnownBytes.{Appends}
use Rattle.svc_core_laws.specs.Turns.{data_words}
use Rattle.svc_bus.specs.State.{bus_state}
use Rattle.svc_held.specs.Held.{IsHeldBy}
use Rattle.svc_machine.specs.Value.{MachineValue, StandsAt}
use Rattle.svc_history_laws.specs.declared.entry.Entry.{Entry}
use Rattle.svc_history.specs.Recorded.{standing_of}
use Rattle.svc_report.specs.Summary.{number_row}
use Rattle.svc_report.proofs.PlainLines.{on_ok, then_appends}
use Rattle.svc_show.specs.Show.{standing_rows}
use Rattle.svc_show.proofs.show.write_rows.Goals as goal

pub returns : goal.returns
returns c =
    let r = c.args.recorder.now in
    let extras = c.args.extras in
    let s = standing_of r in
    let a = Some c.args.rows.now.items in
    let b = Some c.write_number.new.rows.items in
    let d = Some c.write_standing.new.rows.items in
    let told = number_row (codes "at") (length r.entries) in
    let same = c.machine.ensures.machine in
    let stands : StandsAt c.machine.result.now s = subst (λ (m : MachineValue). StandsAt m s) (sym same) c.machine.ensures.legal.here in
    let first : Appends a b told =
    subst (λ (es : List Entry). Appends a b (number_row (codes "at") (length es))) c.entries-count.ensures.entries c.in_ok-write_number.ensures in
    on_ok c.write_standing.result (λ h. then_appends a b d told (standing_rows extras r.machine.image r.machine.config s) first
    (subst (λ (m : MachineValue). Appends b d (standing_rows extras m.image m.config s)) same h)) (c.write_standing.ensures s stands)

pub write_standing-requires : goal.write_standing-requires
write_standing-requires c =
    record {
      held = subst (λ (m : MachineValue). IsHeldBy (bus_state m.bus) (data_words m.image) c.args.extras.memory c.args.named.now) (sym c.machine.ensures.machine) c.requires.held;
    }
