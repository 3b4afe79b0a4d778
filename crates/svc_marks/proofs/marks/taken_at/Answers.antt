use Rattle.std.proofs.Common.{◌∙◌, sym, arith}
use Rattle.svc_marks.specs.Marks.{takes}
use Rattle.svc_marks.proofs.Searching.{entry_goes_on, no_entry}
use Rattle.svc_marks.proofs.marks.taken_at.Goals as goal

pub loop-entry-preserved : goal.loop-entry-preserved
loop-entry-preserved c = (
  omega (arith, c.loop-entry.invariant.0),
  c.loop-entry.invariant.1
      ∙ entry_goes_on (takes c.args.unit c.args.word) c.loop-entry.at c.args.entries.now c.loop-entry.entry-index _ c.loop-entry-test.true (sym c.if-takes.ensures),
)

pub returns : goal.returns
returns c =
    sym (c.loop-entry.invariant.1
    ∙ no_entry (takes c.args.unit c.args.word) c.loop-entry.at c.args.entries.now c.loop-entry.entry-index c.loop-entry-test.false)
