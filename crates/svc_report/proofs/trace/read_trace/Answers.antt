use Rattle.svc_report.proofs.RoundTrip.{reads_back}
use Rattle.svc_report.proofs.Short.{whole_trace}
use Rattle.svc_report.proofs.trace.read_trace.Goals as goal

pub returns-clause-ok : goal.returns-clause-ok
returns-clause-ok g c = whole_trace (g.R.Read.remaining c.args.reader) c.read_rows.result c.read_rows.ensures.ok

pub returns-clause-back : goal.returns-clause-back
returns-clause-back g c h all known =
    let text = g.R.Read.remaining c.args.reader in
    reads_back h text c.read_rows.result all known (whole_trace text c.read_rows.result c.read_rows.ensures.ok) c.read_rows.ensures.err
