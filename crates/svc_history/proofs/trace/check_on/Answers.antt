use Rattle.std.proofs.Common.{subst, arith}
use Rattle.svc_base.specs.declared.config.Config.{Config}
use Rattle.svc_image.specs.Image.{Image}
use Rattle.svc_history.specs.Faults.{IsFaultAt, IsWrongThere}
use Rattle.svc_history.proofs.Tracing.{fault_at, get_there}
use Rattle.svc_history.proofs.trace.check_on.Goals as goal

-- what is wrong with an entry is never that memory was refused
pub returns-in-Err-clause-no_memory : goal.returns-in-Err-clause-no_memory
returns-in-Err-clause-no_memory c = λ is.
    subst (IsWrongThere c.loop-index.recorder _) is (c.in-Err.ensures {u = tt}).fault

pub returns-in-Err-clause-fault : goal.returns-in-Err-clause-fault
returns-in-Err-clause-fault c =
    let i = c.loop-index.invariant in
    let said = c.in-Err.ensures {u = tt} in
    let es = c.args.entries.now in
    let at = c.loop-index.index in
    let below = c.loop-index-test.true in
    let within = c.requires.inside in
    subst (λ (g : Config). IsFaultAt c.args.recorder.now.machine.image g es at c.in-Err.kind) i.config
    (subst (λ (img : Image). IsFaultAt img c.loop-index.recorder.machine.config es at c.in-Err.kind) i.image
    (fault_at c.loop-index.recorder es at _ c.in-Err.kind said.legal i.before (get_there es at _ (omega (arith, below, within))) said.fault))
