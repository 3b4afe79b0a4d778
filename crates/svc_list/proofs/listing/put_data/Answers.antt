use Rattle.std.proofs.Common.{arith}
use Rattle.svc_names.specs.Given.{listed}
use Rattle.svc_list.proofs.Printing.{goes_on, ends, data_step, data_none}
use Rattle.svc_list.proofs.listing.put_data.Goals as goal

pub loop-word-preserved : goal.loop-word-preserved
loop-word-preserved c = record {
  address = omega (arith, c.loop-word.invariant.address);
  put = goes_on _ _ _ _ _ _ c.in_ok-put_datum.ensures (data_step (listed c.args.names) c.args.words.now c.loop-word.word-index c.loop-word.address c.loop-word-test.true) c.loop-word.invariant.put;
}

pub returns : goal.returns
returns c = ends _ _ _ (data_none (listed c.args.names) c.args.words.now c.loop-word.word-index c.loop-word.address c.loop-word-test.false) c.loop-word.invariant.put
