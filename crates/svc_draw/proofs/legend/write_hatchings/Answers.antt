use Rattle.svc_draw.specs.Legend.{hatchings}
use Rattle.svc_draw.proofs.Texts.{four_more}
use Rattle.svc_draw.proofs.legend.write_hatchings.Goals as goal

pub returns : goal.returns
unfolding hatchings
returns c =
    four_more c.args.text.now.items c.hatching.new.text.items c.hatching-2.new.text.items c.hatching-3.new.text.items c.hatching-4.new.text.items _ _ _ _
    c.in_ok-hatching.ensures c.in_ok-hatching-2.ensures c.in_ok-hatching-3.ensures c.in_ok-hatching-4.ensures
