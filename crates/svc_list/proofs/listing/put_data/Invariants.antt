use Rattle.std.proofs.Common.{◌≡◌, ◌++◌, ◌+◌, ◌*◌, drop}
use Rattle.svc_names.specs.Given.{listed}
use Rattle.svc_list.specs.Listings.{text_of, data_lines}
use Rattle.svc_list.proofs.listing.put_data.Given as goal

abbrev pub invariant-loop-word : goal.invariant-loop-word
invariant-loop-word l = record {
  address : l.address ≡ l.initial.address + 4 * l.word-index;
  put : l.out.items ++ text_of (data_lines (listed l.names) l.address (drop l.word-index l.words)) ≡ l.initial.out.items ++ text_of (data_lines (listed l.names) l.initial.address l.words);
}
