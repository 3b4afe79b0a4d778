use Rattle.std.proofs.Common.{◌≡◌, ◌-◌, ◌≤◌, ◌++◌, drop, length}
use Rattle.svc_depend.specs.Links.{links_text}
use Rattle.svc_depend.proofs.pairs.put_links.Given as goal

abbrev pub invariant-loop-at : goal.invariant-loop-at
invariant-loop-at l = record {
  inside : l.at ≤ length l.links;
  told : l.text.items ++ links_text l.form l.task (drop l.at l.links) ≡ l.fn.text.items ++ links_text l.form l.task l.links;
}

abbrev pub decreases-loop-at : goal.decreases-loop-at
decreases-loop-at l = length l.links - l.at
