use Rattle.svc_machine_laws.specs.Events.{Assign, Submit, Replace, Cancel, Commit}
use Rattle.svc_machine.specs.Admitted.{refusal_by}
use Rattle.svc_machine.proofs.Testing.{refusal_is}
use Rattle.svc_machine.proofs.machine.Machine.admit.Goals as goal

pub returns-in-Assign-clause-refused : goal.returns-in-Assign-clause-refused
returns-in-Assign-clause-refused c s at = rw c.in-Assign.is (refusal_is c.args.self.now (λ t. refusal_by c.args.self.now.image t c.admit_assign.result) (Assign c.in-Assign.unit.0 c.in-Assign.guess) c.admit_assign.ensures.refused s at)

pub returns-in-Submit-clause-refused : goal.returns-in-Submit-clause-refused
returns-in-Submit-clause-refused c s at = rw c.in-Submit.is (refusal_is c.args.self.now (λ t. refusal_by c.args.self.now.image t c.admit_submit.result) (Submit c.in-Submit.burst.now) c.admit_submit.ensures.refused s at)

pub returns-in-Replace-clause-refused : goal.returns-in-Replace-clause-refused
returns-in-Replace-clause-refused c s at = rw c.in-Replace.is (refusal_is c.args.self.now (λ t. refusal_by c.args.self.now.image t c.admit_replace.result) (Replace c.in-Replace.unit.0 c.in-Replace.addr.0) c.admit_replace.ensures.refused s at)

pub returns-in-Cancel-clause-refused : goal.returns-in-Cancel-clause-refused
returns-in-Cancel-clause-refused c s at = rw c.in-Cancel.is (refusal_is c.args.self.now (λ t. refusal_by c.args.self.now.image t c.admit_cancel.result) (Cancel c.in-Cancel.unit.0) c.admit_cancel.ensures.refused s at)

pub returns-in-Commit-clause-refused : goal.returns-in-Commit-clause-refused
returns-in-Commit-clause-refused c s at = rw c.in-Commit.is (refusal_is c.args.self.now (λ t. refusal_by c.args.self.now.image t c.admit_commit.result) (Commit c.in-Commit.by.0) c.admit_commit.ensures.refused s at)
