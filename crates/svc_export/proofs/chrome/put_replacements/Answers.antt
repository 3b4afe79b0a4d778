use Rattle.svc_export.proofs.Texts.{replacement_moves, replacements_end}
use Rattle.svc_export.proofs.chrome.put_replacements.Goals as goal

pub loop-index-preserved : goal.loop-index-preserved
loop-index-preserved c =
    replacement_moves c.args.entries.now c.loop-index.index _ c.loop-index.text.items c.put_if_replaced.new.text.items _ c.loop-index-test.true
    c.in_ok-put_if_replaced.ensures c.loop-index.invariant

pub returns : goal.returns
returns c = replacements_end c.args.entries.now c.loop-index.index c.loop-index.text.items _ c.loop-index-test.false c.loop-index.invariant
