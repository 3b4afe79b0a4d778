use Rattle.std.proofs.Common.{refl, sym, subst}
use Rattle.svc_machine.specs.Value.{MachineValue}
use Rattle.svc_history_laws.specs.declared.entry.Kind.{Kind}
use Rattle.svc_history_laws.specs.declared.entry.Kind.TheVariants.{Submit}
use Rattle.svc_history_laws.specs.Replay.{Lacks}
use Rattle.svc_history.proofs.Tracing.{wrong_lacks}
use Rattle.svc_history.proofs.trace.replay.Goals as goal

pub returns-in_default-clause-fault : goal.returns-in_default-clause-fault
returns-in_default-clause-fault c =
    let e = c.args.entry.now in
    let r = c.args.recorder.now in
    wrong_lacks r e c.machine-machine.ensures.legal
    (subst (λ (k : Kind). Lacks k r.machine.image r.machine.plain e) (sym c.in-Assign.is) c.in_default.is)

pub returns-in_default-make_burst-clause-fault : goal.returns-in_default-make_burst-clause-fault
returns-in_default-make_burst-clause-fault c =
    let e = c.args.entry.now in
    let r = c.args.recorder.now in
    let lacks : Lacks Submit r.machine.image r.machine.plain e =
    subst (λ (m : MachineValue). Lacks Submit m.image m.plain e) c.machine-machine.ensures.machine ((c.in_default-make_burst.ensures {u = tt}).lacks refl) in
    wrong_lacks r e c.machine-machine.ensures.legal (subst (λ (k : Kind). Lacks k r.machine.image r.machine.plain e) (sym c.in-Submit.is) lacks)

pub returns-in_default-arg-clause-fault : goal.returns-in_default-arg-clause-fault
returns-in_default-arg-clause-fault c =
    let e = c.args.entry.now in
    let r = c.args.recorder.now in
    wrong_lacks r e c.machine-machine.ensures.legal
    (subst (λ (k : Kind). Lacks k r.machine.image r.machine.plain e) (sym c.in-Replace.is) c.in_default-arg.is)
