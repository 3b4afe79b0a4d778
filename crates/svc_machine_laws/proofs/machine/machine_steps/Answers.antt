use Rattle.std.proofs.Common.{refl}
use Rattle.svc_machine_laws.proofs.Steps.{assign_step, cancel_step, commit_step}
use Rattle.svc_machine_laws.proofs.Checks.{check_step}
use Rattle.svc_machine_laws.proofs.Submits.{submit_step}
use Rattle.svc_machine_laws.proofs.machine.machine_steps.Goals as goal

pub returns : goal.returns
returns g c = record { assign = assign_step; submit = submit_step; check = check_step; replace = λ p s. refl; cancel = cancel_step; commit = commit_step }
