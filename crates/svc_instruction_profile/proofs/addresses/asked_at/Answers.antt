use Rattle.std.proofs.Common.{◌∙◌, ap, length}
use Rattle.svc_instruction_profile.proofs.Standing.{as_many_addresses}
use Rattle.svc_instruction_profile.proofs.addresses.asked_at.Goals as goal

pub returns-clause-same : goal.returns-clause-same
returns-clause-same c = ap length (c.in_ok-note_all.ensures {u = tt}).asked ∙ as_many_addresses c.in_ok-recorder.recorder.machine.image c.in_ok-recorder.recorder.machine.config c.args.entries.now
