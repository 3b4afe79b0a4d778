use Rattle.std.proofs.Common.{◌∙◌, ap, refl, List}
use Rattle.std.specs.Prelude.{option_map, slice_get}
use Rattle.svc_machine.specs.declared.seat.Seat.{Seat}
use Rattle.svc_machine.specs.Kept.{whole_seat}
use Rattle.svc_machine.proofs.Testing.{borrowed, seat_seen}
use Rattle.svc_machine.proofs.machine.Machine.head.Goals as goal

pub returns : goal.returns
returns c =
    rw (← c.self.view_is) (borrowed c.first.result ∙ ap (option_map whole_seat) c.first.ensures.value
    ∙ ap (λ (l : List Seat). option_map whole_seat (slice_get l 0)) c.deref.ensures.value ∙ seat_seen _ c.self.invariant c.self.inside.seats.items refl 0)
