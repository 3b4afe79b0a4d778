use Rattle.std.proofs.Common.{◌≡◌, ◌++◌, length, take}
use Rattle.std.specs.List.{filter}
use Rattle.svc_task_runs.specs.Runs.{goes_on, is_settled}
use Rattle.svc_task_runs.proofs.Sorting.{part_way}
use Rattle.svc_task_runs.proofs.runs.settle.Given as goal

abbrev pub invariant-loop-index : goal.invariant-loop-index
invariant-loop-index l =
    (l.going ≡ length (filter goes_on (take l._index l.fn.active.items)))
    × (l.active.items ≡ part_way l.fn.active.items l._index)
    × (l.settled.items ≡ l.fn.settled.items ++ filter is_settled (take l._index l.fn.active.items))
