use Rattle.std.proofs.Common.{Some, subst}
use Rattle.std.specs.Io.KnownBytes.{Appends}
use Rattle.svc_core_laws.specs.Turns.{data_words}
use Rattle.svc_bus.specs.State.{bus_state}
use Rattle.svc_report.proofs.PlainLines.{on_ok}
use Rattle.svc_held.proofs.Listed.{inside_held}
use Rattle.svc_show.proofs.HeldRows.{spills_held}
use Rattle.svc_show.proofs.show.write_all_spills.Goals as goal

pub write_spills-requires : goal.write_spills-requires
write_spills-requires c =
    let m = c.args.machine.now in
    record { in_data = inside_held (bus_state m.bus) (data_words m.image) c.requires.held.0 c.args.named.now c.requires.held.1 }

pub returns : goal.returns
returns c =
    let m = c.args.machine.now in
    let words = data_words m.image in
    let same = spills_held (bus_state m.bus) words c.requires.held.0 c.args.named.now c.requires.held.1 in
    on_ok c.write_spills.result (subst (Appends (Some c.args.rows.now.items) (Some c.write_spills.new.rows.items)) same) c.write_spills.ensures
