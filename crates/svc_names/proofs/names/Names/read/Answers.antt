use Rattle.svc_names.proofs.Back.{reads_back}
use Rattle.svc_names.proofs.names.Names.read.Goals as goal

pub returns-clause-back : goal.returns-clause-back
returns-clause-back g c h table known =
    reads_back h (g.R.Read.remaining c.args.reader) c.read_table.result table known c.read_table.ensures.ok c.read_table.ensures.err
