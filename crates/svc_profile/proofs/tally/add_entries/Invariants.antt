use Rattle.std.proofs.Common.{take}
use Rattle.std.specs.Prelude.{flat_map}
use Rattle.svc_profile.specs.Counts.{IsTally, entry_counted}
use Rattle.svc_profile.proofs.tally.add_entries.Given as goal

abbrev pub invariant-loop-entry : goal.invariant-loop-entry
invariant-loop-entry l = IsTally (flat_map entry_counted (take l.entry-index l.entries)) l.words
