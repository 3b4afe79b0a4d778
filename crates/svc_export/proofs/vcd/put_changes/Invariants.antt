use Rattle.std.proofs.Common.{◌≡◌, ◌++◌, drop}
use Rattle.svc_task_runs.specs.Bounds.{AreFew}
use Rattle.svc_task_runs.specs.Runs.{no_runs}
use Rattle.svc_task_runs.specs.Seen.{seen}
use Rattle.svc_export.specs.Vcd.{changes_from}
use Rattle.svc_export.proofs.vcd.put_changes.Given as goal

abbrev pub invariant-loop-index : goal.invariant-loop-index
invariant-loop-index l =
    (l.text.items ++ changes_from l.entries l.words (seen l.runs) l.index (drop l.index l.entries)
    ≡ l.fn.text.items ++ changes_from l.entries l.words no_runs 0 l.entries)
    × AreFew l.index (seen l.runs)
