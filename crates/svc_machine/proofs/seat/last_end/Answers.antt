use Rattle.std.proofs.Common.{◌∙◌, ap, sym}
use Rattle.std.specs.Prelude.{option_and_then}
use Rattle.svc_machine.specs.declared.seat.Seat.{Seat}
use Rattle.svc_machine.proofs.Seats.{last_got}
use Rattle.svc_machine.proofs.seat.last_end.Goals as goal

pub returns-in-Some : goal.returns-in-Some
returns-in-Some c = c.done.ensures ∙ ap (option_and_then (λ (s : Seat). s.lease.core.done)) c.in-Some.ensures.value ∙ sym (last_got (λ (s : Seat). s.lease.core.done) c.args.seats.now)
