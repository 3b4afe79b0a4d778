use Rattle.svc_program.proofs.run.run_threads.Goals as goal

pub returns-clause-run : goal.returns-clause-run
returns-clause-run g c =
    let outcome = c.in_ok-outcome.ensures in
    record { image = outcome.given.0; config_is = outcome.given.1; legal = outcome.legal }
