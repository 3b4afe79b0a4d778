-- What the tests of the table of refusals see of the fields.
use Rattle.std.proofs.Common.{ℕ, ◌≡◌, ◌==◌, List, map, Option, Some, None, Bor, refl, sym, ap, ◌∙◌, subst, option_map, slice_get, unwrap_or}
use Rattle.std.proofs.lemmas.Option.{slice_get-map}
use Rattle.std.specs.List.{position}
use Rattle.std.specs.Option.{option_copied}
use Rattle.svc_base.specs.declared.refusal.Refusal.{Refusal}
use Rattle.svc_core_laws.specs.declared.end.End.{End}
use Rattle.svc_core_laws.specs.State.{State}
use Rattle.svc_core_laws.specs.Words.{program}
use Rattle.svc_bus_laws.specs.LineTable.{LineTable}
use Rattle.svc_bus_laws.specs.BusState.{Agrees}
use Rattle.svc_bus.specs.State.{bus_state}
use Rattle.svc_machine_laws.specs.PlainMachine.{Plain}
use Rattle.svc_machine_laws.specs.WholeMachine as whole
use Rattle.svc_machine_laws.specs.WholeMachine.{Machine, machine_of, seat_unit}
use Rattle.svc_machine_laws.specs.Standing.{Standing, refusal_of}
use Rattle.svc_machine_laws.specs.Events.{Event, place_in, seat_place}
use Rattle.svc_machine_laws.specs.Refusals.{refuse, seat_at}
use Rattle.svc_machine.specs.declared.seat.Seat.{Seat}
use Rattle.svc_machine.specs.Value.{MachineValue, StandsAt}
use Rattle.svc_machine.specs.Kept.{Parts, Kept, machine_value, whole_seat}
use Rattle.svc_machine.specs.Refusing.{machine_at}
use Rattle.svc_machine.specs.Seats.{head_end}
use Rattle.svc_machine.proofs.Seats.{place_is}

module _ (m : Parts) (kept : Kept m) where
  pub stopped_seen : m.stopped ≡ (machine_at (machine_value m)).stopped
  unfolding machine_at
  stopped_seen = kept.stopped

  pub seats_seen : m.seats ≡ (machine_at (machine_value m)).seats
  unfolding machine_at
  seats_seen = kept.seats

  module _ (seats : List Seat) (same : map whole_seat seats ≡ m.seats) where
    pub place_seen : (unit : ℕ) → position (λ (s : Seat). s.lease.unit.0 == unit) seats ≡ seat_place (machine_at (machine_value m)) unit
    place_seen unit = place_is seats unit ∙ ap (λ (l : List (whole.Seat State)). place_in (map seat_unit l) unit) (same ∙ seats_seen)

    pub seat_seen : (place : ℕ) → option_map whole_seat (slice_get seats place) ≡ slice_get (machine_at (machine_value m)).seats place
    seat_seen place = sym (slice_get-map whole_seat seats place) ∙ ap (λ (l : List (whole.Seat State)). slice_get l place) (same ∙ seats_seen)

    -- the seat at the unit's place is the unit's
    pub own_seat : (unit place : ℕ) → position (λ (s : Seat). s.lease.unit.0 == unit) seats ≡ Some place → (seat : Seat) → slice_get seats place ≡ Some seat
        → Some (whole_seat seat) ≡ seat_at (machine_at (machine_value m)) unit
    own_seat unit place at seat here =
        sym (ap (λ q. unwrap_or (option_map (slice_get (machine_at (machine_value m)).seats) q) None) (sym (place_seen unit) ∙ at) ∙ sym (seat_seen place) ∙ ap (option_map whole_seat) here)

    pub no_seat : (unit : ℕ) → position (λ (s : Seat). s.lease.unit.0 == unit) seats ≡ None → None ≡ seat_at (machine_at (machine_value m)) unit
    no_seat unit at = sym (ap (λ q. unwrap_or (option_map (slice_get (machine_at (machine_value m)).seats) q) None) (sym (place_seen unit) ∙ at))

    -- what an admitted event has found, of the seats
    module _ (v : MachineValue) (is : machine_value m ≡ v) where
      pub placed_at : (unit place : ℕ) → seat_place (machine_at v) unit ≡ Some place → position (λ (s : Seat). s.lease.unit.0 == unit) seats ≡ Some place
      placed_at unit place at = place_seen unit ∙ subst (λ (u : MachineValue). seat_place (machine_at u) unit ≡ Some place) (sym is) at

      pub ended_at : (end : End) → head_end (machine_at v).seats ≡ Some end → head_end (map whole_seat seats) ≡ Some end
      ended_at end h = ap head_end (same ∙ seats_seen) ∙ subst (λ (u : MachineValue). head_end (machine_at u).seats ≡ Some end) (sym is) h

-- a borrowed seat
pub borrowed : (o : Option (Bor Seat)) → option_map (λ r. whole_seat r.now) o ≡ option_map whole_seat (option_copied o)
borrowed None = refl
borrowed (Some r) = refl

-- said for the plain machine's own seats, said for every standing
pub refusal_is : (v : MachineValue) (r : LineTable → Option Refusal) (x : Event) → ((t : LineTable) → Agrees (bus_state v.bus) t → r t ≡ refuse v.image v.config (machine_at v) t x)
    → (s : Standing) → StandsAt v s → r s.lines ≡ refusal_of v.image v.config s x
unfolding machine_at refusal_of
refusal_is v r x h s at = subst (λ (q : Plain). r s.lines ≡ refuse v.image v.config (machine_of (program v.image) q) s.lines x) at.plain (h s.lines at.lines)
