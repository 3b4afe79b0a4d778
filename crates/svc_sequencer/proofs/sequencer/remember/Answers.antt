use Rattle.std.proofs.Common.{Ok, Err}
use Rattle.std.proofs.lemmas.List.Sorted.{searched}
use Rattle.svc_sequencer.proofs.Searched.{found, missed, rising_order, remember_none, remember_found, remember_missed}
use Rattle.svc_sequencer.proofs.sequencer.remember.Goals as goal

pub returns-then-is_none : goal.returns-then-is_none
returns-then-is_none c = remember_none c.args.entries.now c.args.successors.now.items c.args.entry c.args.successor c.requires.as_many (search (c.is_none.ensures, c.if-is_none.true))

pub returns-in-Ok : goal.returns-in-Ok
returns-in-Ok c =
    let xs = c.args.entries.now in
    let at = searched xs c.args.entry (Ok c.in-Ok.i) c.in-Ok.ensures.position (rising_order xs c.requires.rising) in
    let f = found xs c.args.successors.now.items c.args.entry c.in-Ok.i c.requires.rising c.requires.as_many at.0 at.1 in
    remember_found xs c.args.successors.now.items c.args.entry c.in-Ok.i c.args.successor f (search (c.is_none.ensures, c.if-is_none.false))

pub returns-in_default : goal.returns-in_default
returns-in_default c =
    let xs = c.args.entries.now in
    let at = searched xs c.args.entry (Err c.in_default.field-0) c.in_default.ensures.position (rising_order xs c.requires.rising) in
    let f = missed xs c.args.successors.now.items c.args.entry c.in_default.field-0 c.requires.as_many at.1 at.2 in
    remember_missed xs c.args.successors.now.items c.args.entry c.in_default.field-0 c.args.successor f (search (c.is_none.ensures, c.if-is_none.false))
