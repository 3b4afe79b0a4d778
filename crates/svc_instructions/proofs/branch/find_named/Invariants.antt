use Rattle.std.proofs.Common.{◌≡◌, drop}
use Rattle.std.specs.List.{find}
use Rattle.svc_instructions.specs.Branches.{is_named}
use Rattle.svc_instructions.proofs.branch.find_named.Given as goal

abbrev pub invariant-loop-row : goal.invariant-loop-row
invariant-loop-row l = find (is_named l.name) (drop l.row-index l.rows) ≡ find (is_named l.name) l.rows
