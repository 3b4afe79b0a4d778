use Rattle.std.specs.Prelude.{flat_map}
use Rattle.std.specs.List.{range_with_len}
use Rattle.std.proofs.Common.{◌≡◌, ◌++◌, ℕ, Some, arith, subst}
use Rattle.svc_held.proofs.Ranges.{row_more}
use Rattle.svc_show.specs.Cores.{register_row_at}
use Rattle.svc_show.proofs.cores.write_registers.Goals as goal

pub loop-place-preserved : goal.loop-place-preserved
loop-place-preserved c =
    let a = Some c.args.rows.now.items in
    let b = Some c.loop-place.rows.items in
    let d = Some c.write_register_at.new.rows.items in
    row_more (register_row_at c.args.began.now c.args.unit.0 c.args.core.now) c.loop-place.place a b d c.loop-place.invariant c.in_ok-write_register_at.ensures

pub returns : goal.returns
unfolding Rattle.svc_show.specs.Cores.register_rows
returns c =
    let f = register_row_at c.args.began.now c.args.unit.0 c.args.core.now in
    let end : c.loop-place.place ≡ 31 = omega (arith, c.loop-place.auto.place-end, c.loop-place-test.false) in
    subst (λ (n : ℕ). c.loop-place.rows.items ≡ c.args.rows.now.items ++ flat_map f (range_with_len 0 n)) end c.loop-place.invariant
