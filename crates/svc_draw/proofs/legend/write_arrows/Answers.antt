use Rattle.svc_draw.specs.Legend.{arrow_samples}
use Rattle.svc_draw.proofs.Texts.{four_more}
use Rattle.svc_draw.proofs.legend.write_arrows.Goals as goal

pub returns : goal.returns
unfolding arrow_samples
returns c =
    four_more c.args.text.now.items c.thin_sample.new.text.items c.write_load.new.text.items c.bold_sample.new.text.items c.write_load-2.new.text.items _ _ _ _
    c.in_ok-thin_sample.ensures c.in_ok-write_load.ensures c.in_ok-bold_sample.ensures c.in_ok-write_load-2.ensures
