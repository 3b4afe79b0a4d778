use Rattle.std.proofs.Common.{◌≡◌}
use Rattle.std.specs.Prelude.{flat_map}
use Rattle.std.specs.List.{range_with_len}
use Rattle.svc_held.specs.Named.{named_at}
use Rattle.svc_held.proofs.named.list_inside.Given as goal

abbrev pub invariant-loop-word : goal.invariant-loop-word
invariant-loop-word l = l.named.items ≡ flat_map (named_at l.asked l.marks) (range_with_len 0 l.word)
