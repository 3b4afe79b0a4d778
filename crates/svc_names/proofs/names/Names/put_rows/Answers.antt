use Rattle.std.proofs.Common.{◌∙◌, arith, ap, get_or, length}
use Rattle.std.proofs.lemmas.Bool.{eq-eqb, ne_eqb}
use Rattle.svc_report.proofs.PlainLines.{on_ok}
use Rattle.std.proofs.lemmas.Slice.{between_to_end}
use Rattle.std.proofs.Common.{◌++◌}
use Rattle.svc_names.proofs.Walked.{after_row, no_more, within_row}
use Rattle.svc_names.proofs.names.Names.put_rows.Goals as goal
use Rattle.svc_names.proofs.names.Names.put_rows.Goals.{then-told-at-eq10+in_ok-put_row, else-told-at-eq10}

pub loop-at-preserved : goal.loop-at-preserved
loop-at-preserved c =
    let names = c.args.self.now.list.items in
    let told = c.args.told.now in
    let inv = c.loop-at.invariant in
    let low = c.loop-at-test.true in
    elim c.if-told-at-eq10.branch [
      | then-told-at-eq10+in_ok-put_row w ↦
          rw (w.from-is, w.text-is) (record {
            early = omega arith;
            so_far = after_row names c.args.rows told c.loop-at.from c.loop-at.at c.loop-at.text.items w.put_row.new.text.items _ low
                (eq-eqb (get_or told c.loop-at.at 0) 10 w.if-told-at-eq10.true) w.in_ok-put_row.ensures inv.so_far;
          })
      | else-told-at-eq10 w ↦
          rw (w.from-is, w.text-is) (record {
            early = omega (arith, inv.early);
            so_far = within_row names c.args.rows told c.loop-at.from c.loop-at.at c.loop-at.text.items _ inv.early low
                (ne_eqb (get_or told c.loop-at.at 0) 10 w.if-told-at-eq10.false) inv.so_far;
          })
    ]

pub returns : goal.returns
returns c =
    let names = c.args.self.now.list.items in
    let told = c.args.told.now in
    let inv = c.loop-at.invariant in
    let end = c.loop-at-test.false in
    on_ok c.put.result (λ h. h ∙ ap (λ (t : _). c.loop-at.text.items ++ t) (between_to_end told c.loop-at.from (length told) (omega arith))
    ∙ no_more names c.args.rows told c.loop-at.from c.loop-at.at c.loop-at.text.items _ end inv.so_far) c.put.ensures.ok
