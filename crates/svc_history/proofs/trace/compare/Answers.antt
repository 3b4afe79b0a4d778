use Rattle.svc_machine.specs.Events.{event_of}
use Rattle.svc_history.proofs.Tracing.{wrong_refused, wrong_differs}
use Rattle.svc_history.proofs.trace.compare.Goals as goal

pub returns-in-Ok-2-clause-fault : goal.returns-in-Ok-2-clause-fault
returns-in-Ok-2-clause-fault c legal =
    wrong_differs c.args.recorder.now c.args.entry.now c.in-Ok.slip.entry (event_of c.args.event) legal c.requires
    (c.in-Ok.ensures {u = tt}).refused (c.in-Ok.ensures {u = tt}).entry (λ same. let other = (c.if-is_same.ensures {u = tt}).1 same in cc)

pub returns-in-Err-clause-fault : goal.returns-in-Err-clause-fault
returns-in-Err-clause-fault c legal =
    wrong_refused c.args.recorder.now c.args.entry.now (event_of c.args.event) _ legal c.requires (c.in-Err.ensures {u = tt}).refused
