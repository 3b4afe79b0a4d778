use Rattle.std.proofs.Common.{Bool, ◌≡◌, ◌∙◌, ap, ap₂, sym, subst}
use Rattle.std.specs.Prelude.{nat_le}
use Rattle.svc_core_laws.specs.Sequence.{ending_of, plain_seq}
use Rattle.svc_machine.specs.Refusing.{machine_at}
use Rattle.svc_machine.specs.Value.{MachineValue}
use Rattle.svc_machine.proofs.Reading.{stopped_read}
use Rattle.svc_machine.proofs.machine.Machine.ending.Goals as goal

pub returns : goal.returns
unfolding machine_at
returns c =
    let m = c.self.inside in
    let full = subst (λ (v : MachineValue). c.is_full.result ≡ nat_le v.config.events v.plain.accepted) (sym c.self.view_is) c.is_full.ensures.full in
    let due = subst (λ (v : MachineValue). c.due.result ≡ (plain_seq v.image v.plain.commits).due) (sym c.self.view_is) c.due.ensures in
    rw (← c.self.view_is) (c.of.ensures ∙ ap (λ (b : Bool). ending_of b m.stopped c.due.result) full
    ∙ ap₂ (ending_of (nat_le m.config.events m.accepted)) (stopped_read _ c.self.invariant) due)
