use Rattle.std.proofs.Common.{Some, ◌∙◌, ap, subst}
use Rattle.std.specs.Io.KnownBytes.{Appends}
use Rattle.svc_base.specs.declared.config.Config.{Config}
use Rattle.svc_core_laws.specs.Turns.{data_words}
use Rattle.svc_bus.specs.State.{bus_state}
use Rattle.svc_report.proofs.PlainLines.{on_ok}
use Rattle.svc_show.specs.Show.{line_rows}
use Rattle.svc_show.proofs.HeldRows.{lines_held}
use Rattle.svc_show.proofs.show.write_all_lines.Goals as goal

pub returns : goal.returns
returns c =
    let m = c.args.machine.now in
    let words = data_words m.image in
    let same =
    lines_held (bus_state m.bus) words c.requires.held.0 c.args.named.now c.requires.held.1 c.config-units.result.units
    ∙ ap (λ (config : Config). line_rows config.units words (bus_state m.bus)) c.config-units.ensures.config in
    on_ok c.write_lines.result (subst (Appends (Some c.args.rows.now.items) (Some c.write_lines.new.rows.items)) same) c.write_lines.ensures
