use Rattle.std.proofs.Common.{◌∙◌, ap, refl}
use Rattle.svc_machine_laws.specs.Guess.{last_end}
use Rattle.svc_machine.specs.declared.seat.Seat.{Seat}
use Rattle.svc_machine.proofs.Reading.{guess_read}
use Rattle.svc_machine.proofs.machine.Machine.guess.Goals as goal

pub returns : goal.returns
returns c =
    rw (← c.self.view_is)
    (c.predict.ensures ∙ guess_read _ c.self.invariant c.self.inside.seats.items refl c.last_end.result (c.last_end.ensures ∙ ap (last_end (λ (s : Seat). s.lease.core.done)) c.deref.ensures.value))
