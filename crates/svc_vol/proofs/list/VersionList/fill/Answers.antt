use Rattle.svc_vol.proofs.Validity.{found_lines}
use Rattle.svc_vol.proofs.list.VersionList.fill.Goals as goal

pub list_found-requires-clause-valid : goal.list_found-requires-clause-valid
list_found-requires-clause-valid c = rw c.deref.ensures.0 (found_lines c.args.caches.now c.args.word.0 c.find.new.found.items c.find.ensures.lines)
