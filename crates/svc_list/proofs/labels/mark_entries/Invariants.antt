use Rattle.std.proofs.Common.{◌≡◌, ◌*◌, ◌<◌, ◌||◌, ◌==◌, ℕ, false, drop, length}
use Rattle.std.specs.Prelude.{slice_index_or}
use Rattle.std.specs.List.{list_any}
use Rattle.svc_list.proofs.labels.mark_entries.Given as goal

abbrev pub invariant-loop-entry : goal.invariant-loop-entry
invariant-loop-entry l = record {
  size : length l.table ≡ length l.initial.table;
  marks : (n : ℕ) → n < length l.initial.table
      → (slice_index_or l.table n false || list_any (λ e. e == 4 * n) (drop l.entry-index l.entries)) ≡ (slice_index_or l.initial.table n false || list_any (λ e. e == 4 * n) l.entries);
}
