use Rattle.svc_names.proofs.Made.{in_any_order}
use Rattle.svc_names.proofs.Order.{in_order, named_rows}
use Rattle.svc_names.proofs.names.Names.of.Goals as goal

pub invariant_of-result : goal.invariant_of-result
invariant_of-result c =
    let made = c.in_ok-add_labels.ensures in
    record { named = named_rows c.add_labels.new.names.items made.table.rows; order = in_order c.add_labels.new.names.items made.table.order }

pub returns : goal.returns
returns c =
    in_any_order c.args.labels.items c.put_in_order.new.labels.items c.add_labels.new.names.items c.put_in_order.ensures.same
    (rw c.deref.ensures.value at c.in_ok-add_labels.ensures)
