use Rattle.svc_task_runs.specs.Seen.{seen}
use Rattle.svc_task_runs.proofs.Nobody.{nothing}
use Rattle.svc_instruction_profile.specs.Charges.{charges_of}
use Rattle.svc_instruction_profile.proofs.Charging.{no_entry_left, one_entry}
use Rattle.svc_instruction_profile.proofs.charges.charges_of.Goals as goal

pub loop-index-preserved : goal.loop-index-preserved
loop-index-preserved c =
    let said = c.in_ok-charge.ensures in
    record {
      charges =
          one_entry c.args.asked.now c.args.entries.now c.loop-index.index nothing (seen c.loop-index.runs) (seen c.charge.new.runs)
          c.loop-index.charges.items c.charge.new.charges.items (charges_of c.args.asked.now c.args.entries.now)
          c.loop-index-test.true said.tasks said.charges c.loop-index.invariant.charges;
      few = said.few;
    }

pub returns : goal.returns
returns c =
    no_entry_left c.args.asked.now c.args.entries.now c.loop-index.index (seen c.loop-index.runs) c.loop-index.charges.items
    (charges_of c.args.asked.now c.args.entries.now) c.loop-index-test.false c.loop-index.invariant.charges
