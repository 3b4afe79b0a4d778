use Rattle.std.proofs.Common.{subst}
use Rattle.svc_machine_laws.specs.Reached.{IsReached}
use Rattle.svc_machine_laws.specs.Standing.{Standing}
use Rattle.svc_machine.specs.Value.{MachineValue, StandsAt}
use Rattle.svc_machine.proofs.Keeping.{own_standing, stands, reached_at}
use Rattle.svc_machine.proofs.machine.Machine.config.Goals as goal

pub returns-clause-standing : goal.returns-clause-standing
returns-clause-standing c = subst (λ (v : MachineValue). (s : Standing) × StandsAt v s) c.self.view_is (own_standing _ c.self.invariant, stands _ c.self.invariant)

pub returns-clause-reached : goal.returns-clause-reached
returns-clause-reached c = subst (λ (v : MachineValue). (s : Standing) → StandsAt v s → IsReached v.image v.config s) c.self.view_is (reached_at _ c.self.invariant)
