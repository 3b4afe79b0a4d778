use Rattle.std.proofs.Common.{◌∙◌, List, ap, refl}
use Rattle.std.specs.Prelude.{option_map, slice_get}
use Rattle.svc_machine.specs.declared.seat.Seat.{Seat}
use Rattle.svc_machine.proofs.ActiveTasks.{seat_core}
use Rattle.svc_machine.proofs.machine.Machine.core_at.Goals as goal

pub returns : goal.returns
returns c =
    rw (← c.self.view_is)
    (c.core_at.ensures
    ∙ ap (λ (l : List Seat). option_map (λ (s : Seat). s.lease.core) (slice_get l c.args.place)) c.deref.ensures.value
    ∙ seat_core _ c.self.invariant c.self.inside.seats.items refl c.args.place)
