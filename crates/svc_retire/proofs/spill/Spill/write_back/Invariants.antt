use Rattle.std.proofs.Common.{◌≡◌}
use Rattle.svc_retire.proofs.Emptying.{IsEmptied}
use Rattle.svc_retire.proofs.spill.Spill.write_back.Given as goal

abbrev pub invariant-loop-k : goal.invariant-loop-k
invariant-loop-k l = record {
  words : l.self-inside.words.items ≡ l.initial.self-inside.words.items;
  count : l.self-inside.count ≡ l.initial.self-inside.count;
  emptied : IsEmptied l.initial.self-inside.words.items l.k l.initial.self-inside.places.items l.self-inside.places.items l.initial.backing l.backing;
}
