use Rattle.std.proofs.Common.{◌≡◌, ◌++◌}
use Rattle.std.specs.Prelude.{flat_map}
use Rattle.svc_profile.specs.Counts.{named_row}
use Rattle.svc_profile.proofs.words.put_rows.Given as goal

abbrev pub invariant-loop-word : goal.invariant-loop-word
invariant-loop-word l = l.text.items ++ flat_map named_row l.word-iterator ≡ l.fn.text.items ++ flat_map named_row l.words.entries
