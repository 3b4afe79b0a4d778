use Rattle.std.proofs.Common.{◌≡◌, ◌++◌, take}
use Rattle.std.specs.Prelude.{flat_map}
use Rattle.svc_export.specs.Changes.{unknown}
use Rattle.svc_export.proofs.vcd.put_all_unknown.Given as goal

abbrev pub invariant-loop-word : goal.invariant-loop-word
invariant-loop-word l = l.text.items ≡ l.fn.text.items ++ flat_map unknown (take l.word-index l.words)
