use Rattle.std.proofs.Common.{◌≡◌, ◌≢◌, ℕ, Some, slice_get, ◌<◌}
use Rattle.svc_report.proofs.words.named.Given as goal

-- none of the words so far is the field
abbrev pub invariant-loop-word : goal.invariant-loop-word
invariant-loop-word g l = (k : ℕ) (x : _) → k < l.word-index → slice_get l.word-items k ≡ Some x → l.field ≢ g.W.Word.word x
