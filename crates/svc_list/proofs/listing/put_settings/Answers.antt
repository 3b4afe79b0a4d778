use Rattle.std.proofs.Common.{◌≡◌, ◌+◌, suc, arith}
use Rattle.svc_list.proofs.Printing.{goes_on, ends, settings_step, settings_none}
use Rattle.svc_list.proofs.listing.put_settings.Goals as goal

pub loop-value-preserved : goal.loop-value-preserved
loop-value-preserved c =
    let n = c.loop-value.number in
    let next : n + 1 ≡ suc n = omega arith in
    record {
      number = omega (arith, c.loop-value.invariant.number);
      put = rw next (goes_on _ _ _ _ _ _ c.in_ok-put_nonzero.ensures (settings_step c.args.registers.now c.loop-value.value-index n c.loop-value-test.true) c.loop-value.invariant.put);
    }

pub returns : goal.returns
returns c = ends _ _ _ (settings_none c.args.registers.now c.loop-value.value-index c.loop-value.number c.loop-value-test.false) c.loop-value.invariant.put
