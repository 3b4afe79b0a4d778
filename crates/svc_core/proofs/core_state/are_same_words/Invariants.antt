use Rattle.std.proofs.Common.{◌≡◌, ◌<◌, ℕ, get_or}
use Rattle.svc_core.proofs.core_state.are_same_words.Given as goal

abbrev pub invariant-loop-place : goal.invariant-loop-place
invariant-loop-place l = record {
  agree : l.differing ≡ 0 → (k : ℕ) → k < l.place → get_or l.a k 0 ≡ get_or l.b k 0;
  none : l.a ≡ l.b → l.differing ≡ 0;
}
