use Rattle.std.proofs.Common.{◌≡◌, ◌++◌, drop}
use Rattle.svc_task_runs.specs.Bounds.{AreFew}
use Rattle.svc_task_runs.specs.Runs.{runs_from, runs_of}
use Rattle.svc_task_runs.specs.Seen.{seen}
use Rattle.svc_profile.specs.Meetings.{meetings_from, meetings_of}
use Rattle.svc_profile.proofs.meetings.meetings_of.Given as goal

abbrev pub invariant-loop-index : goal.invariant-loop-index
invariant-loop-index l =
    (l.meetings.items ++ meetings_from l.meets (seen l.runs) l.index (drop l.index l.entries) ≡ meetings_of l.meets l.entries)
    × (runs_from (seen l.runs) l.index (drop l.index l.entries) ≡ runs_of l.entries)
    × AreFew l.index (seen l.runs)
