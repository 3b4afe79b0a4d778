use Rattle.svc_names.proofs.Order.{in_order, named_rows}
use Rattle.svc_names.proofs.Read.{whole_table}
use Rattle.svc_names.proofs.reading.read_table.Goals as goal

pub invariant_of-result : goal.invariant_of-result
invariant_of-result g c =
    let read = c.in_ok-add_names.ensures.ok (g.R.Read.remaining c.args.reader) c.open-reader.ensures.source in
    record { named = named_rows c.add_names.new.names.items read.0.rows; order = in_order c.add_names.new.names.items read.0.order }

pub returns-clause-ok : goal.returns-clause-ok
returns-clause-ok g c =
    let read = c.in_ok-add_names.ensures.ok (g.R.Read.remaining c.args.reader) c.open-reader.ensures.source in
    (read.0, whole_table (g.R.Read.remaining c.args.reader) c.add_names.new.names.items read.0 read.1)
