use Rattle.std.proofs.Common.{◌∙◌, ◌==◌, ap, sym, refl}
use Rattle.std.specs.List.{position}
use Rattle.svc_machine.specs.declared.seat.Seat.{Seat}
use Rattle.svc_machine.proofs.Seats.{place_below, seat_found}
use Rattle.svc_machine.proofs.Testing.{place_seen, own_seat, no_seat}
use Rattle.svc_machine.proofs.machine.Machine.seat_of.Goals as goal

pub index-requires : goal.index-requires
index-requires c =
    let seats = c.self.inside.seats in
    let at = ap (position (λ (s : Seat). s.lease.unit.0 == c.args.unit.0)) (sym c.deref.ensures.value) ∙ sym c.place_of.ensures ∙ c.in-Some.is in
    place_below seats.items c.args.unit.0 c.in-Some.place _ seats.ok.0 at

pub returns-in-Some-clause-place : goal.returns-in-Some-clause-place
returns-in-Some-clause-place c =
    let items = c.self.inside.seats.items in
    let unit = c.args.unit.0 in
    rw (← c.self.view_is) (sym c.in-Some.is ∙ c.place_of.ensures ∙ ap (position (λ (s : Seat). s.lease.unit.0 == unit)) c.deref.ensures.value ∙ place_seen _ c.self.invariant items refl unit)

pub returns-in-Some-clause-seat : goal.returns-in-Some-clause-seat
returns-in-Some-clause-seat c =
    let seats = c.self.inside.seats in
    let unit = c.args.unit.0 in
    let seat = c.index.result.now in
    let at = ap (position (λ (s : Seat). s.lease.unit.0 == unit)) (sym c.deref.ensures.value) ∙ sym c.place_of.ensures ∙ c.in-Some.is in
    let here = seat_found seats.items unit c.in-Some.place _ seat seats.ok.0 at c.index.ensures in
    rw (← c.self.view_is) (own_seat _ c.self.invariant seats.items refl unit c.in-Some.place at seat here)

pub returns-in-None-clause-place : goal.returns-in-None-clause-place
returns-in-None-clause-place c =
    let items = c.self.inside.seats.items in
    let unit = c.args.unit.0 in
    rw (← c.self.view_is) (sym c.in-None.is ∙ c.place_of.ensures ∙ ap (position (λ (s : Seat). s.lease.unit.0 == unit)) c.deref.ensures.value ∙ place_seen _ c.self.invariant items refl unit)

pub returns-in-None-clause-seat : goal.returns-in-None-clause-seat
returns-in-None-clause-seat c =
    let items = c.self.inside.seats.items in
    let unit = c.args.unit.0 in
    let at = ap (position (λ (s : Seat). s.lease.unit.0 == unit)) (sym c.deref.ensures.value) ∙ sym c.place_of.ensures ∙ c.in-None.is in
    rw (← c.self.view_is) (no_seat _ c.self.invariant items refl unit at)
