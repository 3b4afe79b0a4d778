use Rattle.std.proofs.Common.{◌≡◌, ◌++◌, ◌*◌, ◌<◌, ℕ, Bool, false, drop, length}
use Rattle.std.specs.Prelude.{slice_index_or}
use Rattle.svc_names.specs.Given.{listed}
use Rattle.svc_list.specs.Listings.{text_of, marks, code}
use Rattle.svc_list.proofs.listing.put_code.Given as goal

abbrev pub invariant-loop-word : goal.invariant-loop-word
invariant-loop-word l = record {
  address : l.pc ≡ 4 * l.word-index;
  count : l.count ≡ length l.text;
  put : (is : ℕ → Bool) → ((n : ℕ) → n < length l.text → slice_index_or l.labelled n false ≡ is n)
      → l.out.items ++ text_of (code (listed l.names) (length l.text) is l.word-index (marks l.version l.entries l.limits) (drop l.word-index l.text))
      ≡ l.initial.out.items ++ text_of (code (listed l.names) (length l.text) is 0 (marks l.version l.initial.entries l.initial.limits) l.text);
}
