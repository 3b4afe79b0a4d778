use Rattle.std.proofs.Common.{◌≡◌, ◌++◌, drop, suc}
use Rattle.svc_list.specs.Listings.{text_of, settings}
use Rattle.svc_list.proofs.listing.put_settings.Given as goal

abbrev pub invariant-loop-value : goal.invariant-loop-value
invariant-loop-value l = record {
  number : l.number ≡ suc l.value-index;
  put : l.out.items ++ text_of (settings l.number (drop l.value-index l.registers)) ≡ l.initial.out.items ++ text_of (settings 1 l.registers);
}
