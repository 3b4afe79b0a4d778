use Rattle.std.proofs.Common.{◌≡◌, ◌++◌, take}
use Rattle.std.specs.Prelude.{flat_map}
use Rattle.svc_names.specs.Made.{name_row}
use Rattle.svc_names.proofs.making.put_rows.Given as goal

-- the rows so far
abbrev pub invariant-loop-name : goal.invariant-loop-name
invariant-loop-name l = l.text.items ≡ l.initial.text.items ++ flat_map name_row (take l.name-index l.names)
