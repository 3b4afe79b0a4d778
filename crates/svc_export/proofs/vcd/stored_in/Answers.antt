use Rattle.std.proofs.Common.{◌∙◌, sym}
use Rattle.svc_export.proofs.Texts.{store_moves, stores_end}
use Rattle.svc_export.proofs.vcd.stored_in.Goals as goal

pub loop-entry-preserved : goal.loop-entry-preserved
loop-entry-preserved c =
    c.loop-entry.invariant
    ∙ store_moves c.args.unit c.args.word c.loop-entry.value c.value_after-value.result c.args.entries.now c.loop-entry.entry-index _ c.loop-entry-test.true
    c.value_after-value.ensures

pub returns : goal.returns
returns c =
    sym (c.loop-entry.invariant ∙ stores_end c.args.unit c.args.word c.loop-entry.value c.args.entries.now c.loop-entry.entry-index c.loop-entry-test.false)
