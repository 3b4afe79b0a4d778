use Rattle.svc_export.specs.Events.{track}
use Rattle.svc_export.proofs.Texts.{one_more_unit}
use Rattle.svc_export.proofs.chrome.put_tracks.Goals as goal

pub loop-unit-preserved : goal.loop-unit-preserved
loop-unit-preserved c =
    one_more_unit track c.loop-unit.unit c.from.result c.args.text.now.items c.loop-unit.text.items c.put_track.new.text.items c.from.ensures
    c.loop-unit.invariant c.in_ok-put_track.ensures
