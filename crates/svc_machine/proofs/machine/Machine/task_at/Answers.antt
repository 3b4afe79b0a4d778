use Rattle.std.proofs.Common.{◌∙◌, ap, ap₂, sym, refl, ℕ, List, Option, Some}
use Rattle.std.proofs.lemmas.Option.{slice_get_read}
use Rattle.std.specs.Prelude.{option_map, slice_get}
use Rattle.svc_core_laws.specs.declared.end.End.{End}
use Rattle.svc_machine.specs.declared.seat.Seat.{Seat}
use Rattle.svc_machine.specs.declared.shown.ActiveTask.{ActiveTask}
use Rattle.svc_machine.specs.Kept.{whole_seat}
use Rattle.svc_machine.proofs.ActiveTasks.{at_seat, task_read}
use Rattle.svc_machine.proofs.machine.Machine.task_at.Goals as goal

pub returns : goal.returns
returns c =
    let seats = c.self.inside.seats.items in
    let seat = c.in_ok-seat.seat.now in
    let found = c.in_ok-seat.ensures.lookup.3 in
    let there = slice_get_read c.deref.result.now _ c.args.place seat refl found.0 (found.1 seat) in
    let here = ap (λ (l : List Seat). slice_get l c.args.place) (sym c.deref.ensures.value) ∙ there in
    rw (← c.self.view_is) (
    ap₂ {C = Option ActiveTask} (λ (n : ℕ) (end : Option End). Some (record { unit = seat.lease.unit; task_entry = seat.task_entry; turns = n; done = end })) c.count.ensures.value c.done.ensures
    ∙ sym (ap (λ (o : Option Seat). option_map at_seat (option_map whole_seat o)) here)
    ∙ task_read _ c.self.invariant seats refl c.args.place)
