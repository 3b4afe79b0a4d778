use Rattle.std.proofs.Common.{ℕ, ◌≡◌, ◌⊎◌, ◌<◌, ◌≤◌, Some, length, slice_get}
use Rattle.svc_explore.specs.Search.{Place, path_at}
use Rattle.svc_explore.proofs.walk.Search.deepest.Given as goal

abbrev pub invariant-loop-index : goal.invariant-loop-index
invariant-loop-index l = record {
  bound : (i : ℕ) (e : Place) → i < l.index → slice_get l.self.keys.entries i ≡ Some e → length (path_at e) ≤ l.deepest;
  found : (l.deepest ≡ 0) ⊎ ((i : ℕ) × (e : Place) × (slice_get l.self.keys.entries i ≡ Some e) × (length (path_at e) ≡ l.deepest));
}
