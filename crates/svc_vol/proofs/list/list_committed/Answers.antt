use Rattle.std.proofs.Common.{sym, subst, length, map, option_map, arith}
use Rattle.svc_line.specs.Line.{seen_line}
use Rattle.svc_vol.specs.Lines.{lines_at}
use Rattle.svc_vol.specs.Walked.{AreWalked}
use Rattle.svc_vol.proofs.Assembling.{room, assembled}
use Rattle.svc_vol.proofs.list.list_committed.Goals as goal

pub list_versions-requires-clause-room : goal.list_versions-requires-clause-room
list_versions-requires-clause-room c =
    let found = c.args.found.now in
    let lines = lines_at (map (option_map seen_line) found) in
    let walked : AreWalked lines (length found) c.deref.result.now = subst (AreWalked lines (length found)) (sym c.deref.ensures.0) c.oldest_first.ensures.walked in
    let low = room lines (length found) c.list_copies.new.committed.items c.deref.result.now c.list_copies.ensures walked c.requires.ranked in
    omega (arith, low, c.requires.few)

pub returns : goal.returns
returns c =
    let found = c.args.found.now in
    let lines = lines_at (map (option_map seen_line) found) in
    let walked : AreWalked lines (length found) c.deref.result.now = subst (AreWalked lines (length found)) (sym c.deref.ensures.0) c.oldest_first.ensures.walked in
    assembled lines (length found) c.list_copies.new.committed.items c.deref.result.now c.list_copies.ensures walked c.requires.ranked c.list_versions.new.committed.items c.requires.valid c.list_versions.ensures
