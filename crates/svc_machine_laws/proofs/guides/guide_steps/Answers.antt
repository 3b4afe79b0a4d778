use Rattle.std.proofs.Common.{refl}
use Rattle.svc_machine_laws.proofs.Followed.{assign_guide, submit_guide, check_guide, cancel_guide, commit_guide}
use Rattle.svc_machine_laws.proofs.guides.guide_steps.Goals as goal

pub returns : goal.returns
returns g c = record { opening = λ p entries first. refl; assign = assign_guide; submit = submit_guide; check = check_guide; replace = λ p entries s. refl; cancel = cancel_guide; commit = commit_guide }
