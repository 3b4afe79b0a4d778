use Rattle.std.proofs.Common.{◌≡◌, List, leb, leb-true, rules, true, false, subst}
use Rattle.std.specs.List.Sorted.{IsPartitionPoint}
use Rattle.std.proofs.lemmas.List.Sorted.{IsPartitionPoint-from_clause, IsPartitionedBy-leb}
use Rattle.std.proofs.lemmas.Bool.{leb-false}
use Rattle.svc_names.specs.declared.name.Name.{Name}
use Rattle.svc_names.proofs.names.Names.count_to.Goals as goal

point : (c : goal.After-partition_point) → IsPartitionPoint (λ (n : Name). leb n.address c.args.address ≡ true) (λ n. leb n.address c.args.address ≡ false)
    c.args.self.now.list.items c.partition_point.result
point c =
    let test = λ (n : Name). leb n.address c.args.address in
    subst (λ (xs : List Name). IsPartitionPoint (λ (n : Name). test n ≡ true) (λ n. test n ≡ false) xs c.partition_point.result) c.as_slice.ensures.value
    (IsPartitionPoint-from_clause test _ _ c.partition_point.ensures.partitioned
    (rw c.as_slice.ensures.value (IsPartitionedBy-leb (λ (n : Name). n.address) c.args.self.now.list.items c.args.address c.args.self.now.order)) (λ a r q k. search rules))

pub returns-clause-up_to : goal.returns-clause-up_to
returns-clause-up_to c = λ k d from below. leb-true _ _ ((point c).0 k d from below)

pub returns-clause-past : goal.returns-clause-past
returns-clause-past c = λ k d from below. leb-false _ _ ((point c).1 k d from below)
