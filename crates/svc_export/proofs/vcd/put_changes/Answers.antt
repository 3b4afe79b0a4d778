use Rattle.svc_task_runs.specs.Seen.{seen}
use Rattle.svc_export.proofs.Texts.{changes_end, changes_move}
use Rattle.svc_export.proofs.vcd.put_changes.Goals as goal

pub loop-index-preserved : goal.loop-index-preserved
loop-index-preserved c =
    let es = c.args.entries.now in (
      changes_move es c.args.words.now (seen c.loop-index.runs) (seen c.put_entry.new.runs) es c.loop-index.index _ c.loop-index.text.items c.put_entry.new.text.items _
          c.loop-index-test.true c.in_ok-put_entry.ensures.text c.in_ok-put_entry.ensures.runs c.loop-index.invariant.0,
      c.in_ok-put_entry.ensures.few,
    )

pub returns : goal.returns
returns c =
    let es = c.args.entries.now in
    changes_end es c.args.words.now (seen c.loop-index.runs) es c.loop-index.index c.loop-index.text.items _ c.loop-index-test.false c.loop-index.invariant.0
