use Rattle.std.proofs.Common.{◌++◌}
use Rattle.std.specs.Prelude.{flat_map}
use Rattle.svc_task_runs.proofs.Nobody.{nobody}
use Rattle.svc_instruction_profile.specs.Charges.{lost_by}
use Rattle.svc_instruction_profile.proofs.Charging.{no_part_left, one_part}
use Rattle.svc_instruction_profile.proofs.lost.push_all_lost.Goals as goal

pub loop-run-preserved : goal.loop-run-preserved
loop-run-preserved c =
    let f = lost_by c.args.asked.now c.args.entries.now c.args.at in
    one_part f c.args.settled.now c.loop-run.run-index nobody c.loop-run.charges.items c.push_lost.new.charges.items
    (c.args.charges.now.items ++ flat_map f c.args.settled.now) c.loop-run-test.true c.loop-run.invariant c.in_ok-push_lost.ensures

pub returns : goal.returns
returns c =
    let f = lost_by c.args.asked.now c.args.entries.now c.args.at in
    no_part_left f c.args.settled.now c.loop-run.run-index c.loop-run.charges.items
    (c.args.charges.now.items ++ flat_map f c.args.settled.now) c.loop-run-test.false c.loop-run.invariant
