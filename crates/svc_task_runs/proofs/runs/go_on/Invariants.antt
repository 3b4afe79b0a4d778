use Rattle.std.proofs.Common.{◌≡◌, ◌++◌, drop, map, take}
use Rattle.std.specs.List.{list_any}
use Rattle.svc_task_runs.specs.Runs.{after, is_settled}
use Rattle.svc_task_runs.proofs.runs.go_on.Given as goal

abbrev pub invariant-loop-run : goal.invariant-loop-run
invariant-loop-run l =
    (l.active ≡ map (after l.at l.entry) (take l.run-index l.fn.active) ++ drop l.run-index l.fn.active)
    × (l.settled ≡ list_any is_settled (map (after l.at l.entry) (take l.run-index l.fn.active)))
