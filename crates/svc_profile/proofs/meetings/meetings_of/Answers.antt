use Rattle.std.proofs.Common.{◌≡◌, ℕ, length, subst, arith}
use Rattle.svc_task_runs.specs.Bounds.{AreFew}
use Rattle.svc_task_runs.specs.Runs.{runs_of}
use Rattle.svc_task_runs.specs.Seen.{seen}
use Rattle.svc_task_runs.proofs.Nobody.{nothing}
use Rattle.svc_task_runs.proofs.Sorting.{at_end, next_entry}
use Rattle.svc_profile.specs.Meetings.{meetings_of}
use Rattle.svc_profile.proofs.Meeting.{none_left, one_more}
use Rattle.svc_profile.proofs.meetings.meetings_of.Goals as goal

pub loop-index-preserved : goal.loop-index-preserved
loop-index-preserved c =
    let es = c.args.entries.now in
    let i = c.loop-index.index in
    let met = c.in_ok-meet.ensures in (
      one_more c.args.meets es i nothing (seen c.loop-index.runs) (seen c.meet.new.runs) c.loop-index.meetings.items c.meet.new.meetings.items
          (meetings_of c.args.meets es) c.loop-index-test.true met.tasks met.met c.loop-index.invariant.0,
      next_entry es i nothing (seen c.loop-index.runs) (seen c.meet.new.runs) (runs_of es) c.loop-index-test.true met.tasks c.loop-index.invariant.1,
      met.few,
    )

pub returns-clause-met : goal.returns-clause-met
returns-clause-met c =
    none_left c.args.meets c.args.entries.now c.loop-index.index (seen c.loop-index.runs) c.loop-index.meetings.items (meetings_of c.args.meets c.args.entries.now)
    c.loop-index-test.false c.loop-index.invariant.0

pub returns-clause-few : goal.returns-clause-few
returns-clause-few c =
    let es = c.args.entries.now in
    let i = c.loop-index.index in
    let end = c.loop-index.auto.index-end in
    let stop = c.loop-index-test.false in
    let all : i ≡ length es = omega (arith, end, stop) in
    subst (AreFew (length es)) (at_end es i (seen c.loop-index.runs) (runs_of es) c.loop-index-test.false c.loop-index.invariant.1)
    (subst (λ (n : ℕ). AreFew n (seen c.loop-index.runs)) all c.loop-index.invariant.2)
