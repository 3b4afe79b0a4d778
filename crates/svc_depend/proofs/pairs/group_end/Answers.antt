use Rattle.std.proofs.Common.{◌≡◌, ◌∙◌, ◌-◌, ◌≤◌, ℕ, List, ap, arith, drop, get_or, leb, leb-true, length, length-drop, rules, true, false, subst, sym, get_or-drop}
use Rattle.std.specs.List.{between}
use Rattle.std.specs.List.Sorted.{IsPartitionedBy, IsPartitionPoint}
use Rattle.std.proofs.lemmas.List.Sorted.{IsNonDecreasingBy-drop, IsPartitionPoint-from_clause, IsPartitionedBy-leb}
use Rattle.std.proofs.lemmas.Bool.{leb-false}
use Rattle.std.proofs.lemmas.Slice.{between_to_end}
use Rattle.svc_depend.specs.declared.links.Link.{Link}
use Rattle.svc_depend.proofs.pairs.group_end.Goals as goal

rest_is : (c : goal.After-partition_point) → between c.args.at (length c.args.links.now) c.args.links.now ≡ drop c.args.at c.args.links.now
rest_is c = between_to_end c.args.links.now c.args.at (length c.args.links.now) (omega arith)

point : (c : goal.After-partition_point) → IsPartitionPoint (λ (l : Link). leb l.on c.args.on ≡ true) (λ l. leb l.on c.args.on ≡ false) (drop c.args.at c.args.links.now) c.partition_point.result
point c =
    let test = λ (l : Link). leb l.on c.args.on in
    let parted : IsPartitionedBy test (drop c.args.at c.args.links.now) = IsPartitionedBy-leb (λ (l : Link). l.on) (drop c.args.at c.args.links.now) c.args.on (IsNonDecreasingBy-drop (λ (l : Link). l.on) c.args.at c.args.links.now c.requires.order) in
    subst (λ (xs : List Link). IsPartitionPoint (λ (l : Link). test l ≡ true) (λ l. test l ≡ false) xs c.partition_point.result) (rest_is c)
    (IsPartitionPoint-from_clause test _ _ c.partition_point.ensures.partitioned (subst (IsPartitionedBy test) (sym (rest_is c)) parted) (λ a r q k. search rules))

there : (c : goal.After-partition_point) (k : ℕ) (d : Link) → c.args.at ≤ k → get_or (drop c.args.at c.args.links.now) (k - c.args.at) d ≡ get_or c.args.links.now k d
there c k d from = get_or-drop c.args.at c.args.links.now (k - c.args.at) d ∙ ap (λ (i : ℕ). get_or c.args.links.now i d) (omega (arith, from))

pub returns-clause-group : goal.returns-clause-group
returns-clause-group c = λ k d from below.
    leb-true _ _ (subst (λ (l : Link). leb l.on c.args.on ≡ true) (there c k d from) ((point c).0 (k - c.args.at) d (omega arith) (omega (arith, from, below))))

pub returns-clause-rest : goal.returns-clause-rest
returns-clause-rest c = λ k d from below.
    let first : c.args.at ≤ k = omega (arith, from) in
    let size : length (drop c.args.at c.args.links.now) ≡ length c.args.links.now - c.args.at = length-drop c.args.at c.args.links.now in
    leb-false _ _ (subst (λ (l : Link). leb l.on c.args.on ≡ false) (there c k d first) ((point c).1 (k - c.args.at) d (omega (arith, from)) (omega (arith, first, below, size))))
