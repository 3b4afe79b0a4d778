use Rattle.std.proofs.Common.{◌≡◌, ◌*◌, ◌<◌, ◌||◌, ℕ, false, drop, length}
use Rattle.std.specs.Prelude.{slice_index_or}
use Rattle.svc_list.specs.Listings.{is_target}
use Rattle.svc_list.proofs.labels.mark_targets.Given as goal

abbrev pub invariant-loop-word : goal.invariant-loop-word
invariant-loop-word l = record {
  address : l.address ≡ 4 * l.word-index;
  count : l.count ≡ length l.text;
  size : length l.table ≡ length l.initial.table;
  marks : (n : ℕ) → n < length l.initial.table
      → (slice_index_or l.table n false || is_target (length l.text) (4 * n) l.word-index (drop l.word-index l.text)) ≡ (slice_index_or l.initial.table n false || is_target (length l.text) (4 * n) 0 l.text);
}
