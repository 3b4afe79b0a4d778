use Rattle.svc_machine_laws.specs.Standing.{standing_after, reply_to}
use Rattle.svc_machine_laws.proofs.Given.{given}
use Rattle.svc_machine_laws.proofs.Answering.{reply_is}
use Rattle.svc_machine_laws.proofs.MachineEvents.{machine_event}
use Rattle.svc_machine_laws.proofs.events.accepted_event.Goals as goal

pub returns : goal.returns
unfolding standing_after reply_to
returns c = record {
  machine = λ img is config s reached x are ok. machine_event img (given img is) config s reached x are ok;
  reply = λ img is config s x are ok. reply_is img (given img is) config s x are ok;
}
