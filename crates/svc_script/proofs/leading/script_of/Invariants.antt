use Rattle.std.proofs.Common.{◌≡◌, map, take}
use Rattle.svc_script.specs.Leading.{step_to}
use Rattle.svc_script.proofs.leading.script_of.Given as goal

abbrev pub invariant-loop-entry : goal.invariant-loop-entry
invariant-loop-entry l = l.steps.items ≡ map step_to (take l.entry-index l.entries)
