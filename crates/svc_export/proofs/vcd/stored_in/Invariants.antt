use Rattle.std.proofs.Common.{◌≡◌, None, drop}
use Rattle.svc_export.specs.Vcd.{stored_in}
use Rattle.svc_export.proofs.vcd.stored_in.Given as goal

abbrev pub invariant-loop-entry : goal.invariant-loop-entry
invariant-loop-entry l = stored_in l.unit l.word None l.entries ≡ stored_in l.unit l.word l.value (drop l.entry-index l.entries)
