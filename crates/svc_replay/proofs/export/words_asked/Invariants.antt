use Rattle.std.proofs.Common.{◌≡◌}
use Rattle.std.specs.Prelude.{flat_map}
use Rattle.std.specs.List.{range_with_len}
use Rattle.svc_answer.specs.Exports.{word_asked}
use Rattle.svc_replay.proofs.export.words_asked.Given as goal

abbrev pub invariant-loop-word : goal.invariant-loop-word
invariant-loop-word l = l.words.items ≡ flat_map (word_asked l.asked) (range_with_len 0 l.word)
