use Rattle.std.proofs.Common.{◌≡◌, ◌≤◌, length, take}
use Rattle.svc_bus.specs.Versions.{version_units}
use Rattle.svc_bus.proofs.versions.units_of.Given as goal

abbrev pub invariant-loop-held : goal.invariant-loop-held
invariant-loop-held l = (l.units.items ≡ version_units (take l.held-index l.committed)) × (length l.units.items ≤ l.held-index)
