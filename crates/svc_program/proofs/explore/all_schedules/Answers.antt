use Rattle.svc_program.proofs.explore.all_schedules.Goals as goal

pub returns : goal.returns
returns c =
    let says = c.in_ok-exploration.ensures in
    record { whole = says.whole; witnessed = says.witnessed; order = says.order; told = says.told; limits = says.limits }
