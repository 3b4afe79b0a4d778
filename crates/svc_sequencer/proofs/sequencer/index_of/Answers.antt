use Rattle.std.proofs.Common.{Ok, Err}
use Rattle.std.proofs.lemmas.List.Sorted.{searched}
use Rattle.svc_sequencer.proofs.Placed.{place_found, place_missed}
use Rattle.svc_sequencer.proofs.Searched.{rising_order}
use Rattle.svc_sequencer.proofs.sequencer.index_of.Goals as goal

pub returns-in-Ok : goal.returns-in-Ok
returns-in-Ok c =
    let xs = c.args.entries.now in
    let at = searched xs c.args.entry (Ok c.in-Ok.i) c.in-Ok.ensures.position (rising_order xs c.requires) in
    place_found xs c.requires c.args.entry c.in-Ok.i at.0 at.1

pub returns-in-Err : goal.returns-in-Err
returns-in-Err c =
    let xs = c.args.entries.now in
    let at = searched xs c.args.entry (Err c.in-Err.i) c.in-Err.ensures.position (rising_order xs c.requires) in
    place_missed xs c.args.entry c.in-Err.i at.1 at.2
