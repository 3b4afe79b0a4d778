use Rattle.std.proofs.Common.{Some, subst}
use Rattle.std.specs.Io.KnownBytes.{Appends}
use Rattle.svc_core_laws.specs.Turns.{data_words}
use Rattle.svc_bus.specs.State.{bus_state}
use Rattle.svc_report.proofs.PlainLines.{on_ok}
use Rattle.svc_held.proofs.Listed.{own_held}
use Rattle.svc_show.proofs.HeldRows.{memory_held}
use Rattle.svc_show.proofs.show.write_all_words.Goals as goal

pub write_words-requires : goal.write_words-requires
write_words-requires c =
    let m = c.args.machine.now in
    record { own = own_held (bus_state m.bus) (data_words m.image) c.args.asked c.args.named.now c.requires.held }

pub returns : goal.returns
returns c =
    let m = c.args.machine.now in
    let words = data_words m.image in
    let same = memory_held (bus_state m.bus) words c.args.asked c.args.named.now c.requires.held m.image m.config m.plain in
    on_ok c.write_words.result (subst (Appends (Some c.args.rows.now.items) (Some c.write_words.new.rows.items)) same) c.write_words.ensures
