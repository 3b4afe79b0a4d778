use Rattle.svc_script.proofs.ShortSteps.{whole_script}
use Rattle.svc_script.proofs.StepsBack.{reads_back}
use Rattle.svc_script.proofs.script.read_script.Goals as goal

pub returns-clause-ok : goal.returns-clause-ok
returns-clause-ok g c = whole_script (g.R.Read.remaining c.args.reader) c.read_rows.result c.read_rows.ensures.ok

pub returns-clause-back : goal.returns-clause-back
returns-clause-back g c steps all known =
    let text = g.R.Read.remaining c.args.reader in
    reads_back steps text c.read_rows.result all known (whole_script text c.read_rows.result c.read_rows.ensures.ok) c.read_rows.ensures.err
