-- What the machine's fields tell.
use Rattle.std.proofs.Common.{ℕ, ◌≡◌, ◌≤◌, refl, sym, ap, ◌∙◌, subst, arith, Option, Some, None, ap₂}
use Rattle.std.proofs.lemmas.Option.{slice_get-map}
use Rattle.std.specs.Prelude.{List, map, option_map, slice_get, unwrap_or, ◌==◌}
use Rattle.std.specs.List.{position}
use Rattle.svc_core_laws.specs.Bytes.{word_at}
use Rattle.svc_core_laws.specs.declared.end.End.{End}
use Rattle.svc_core_laws.specs.Program.{Program, seq}
use Rattle.svc_core_laws.specs.Sequence.{plain_seq, IsSameSeq}
use Rattle.svc_core_laws.specs.Words.{program}
use Rattle.svc_bus_laws.specs.LineTable.{Line, LineTable, committed_value}
use Rattle.svc_bus_laws.specs.Versioned.{Versioned}
use Rattle.svc_bus_laws.specs.BusState.{without_number}
use Rattle.svc_bus_laws.specs.Sound.{IsSound}
use Rattle.svc_machine_laws.specs.Guess.{guess, last_end}
use Rattle.svc_machine_laws.specs.PlainMachine.{running, run_done}
use Rattle.svc_machine_laws.specs.Guide.{Guide, guess_of}
use Rattle.svc_machine_laws.proofs.Given.{given}
use Rattle.svc_machine_laws.proofs.Followed.{guess_is}
use Rattle.svc_core_laws.specs.State.{State}
use Rattle.svc_machine_laws.specs.WholeMachine as whole
use Rattle.svc_machine_laws.specs.WholeMachine.{machine_of, seat_unit}
use Rattle.svc_machine_laws.specs.Events.{place_in}
use Rattle.svc_machine_laws.specs.Refusals.{seat_at}
use Rattle.svc_machine.specs.declared.seat.Seat.{Seat}
use Rattle.svc_machine.specs.Reads.{lease_from, lease_of}
use Rattle.svc_machine.specs.Kept.{Parts, Kept, machine_value, whole_seat}
use Rattle.svc_machine.specs.Seats.{seat_end}
use Rattle.svc_machine.proofs.Seats.{last_run, last_seat, place_is}

module _ (m : Parts) (kept : Kept m) where
  same : IsSameSeq m.image (plain_seq m.image m.plain.commits) (seq (program m.image) m.plain.commits)
  same = (given m.image kept.sound).bytes m.plain.commits

  pub output_read : m.output ≡ (plain_seq m.image m.plain.commits).output
  output_read = kept.output ∙ same.output

  pub stopped_read : m.stopped ≡ (plain_seq m.image m.plain.commits).stopped
  stopped_read = kept.stopped ∙ same.stopped

  pub due_read : m.guide.due ≡ (plain_seq m.image m.plain.commits).due
  due_read = ap (λ (g : Guide). g.due) kept.guide ∙ same.due

  pub guess_read : (seats : List Seat) → map whole_seat seats ≡ m.seats → (ended : Option End) → ended ≡ last_end (λ (s : Seat). s.lease.core.done) seats
      → guess_of ended m.guide ≡ guess (program m.image) m.image.entries m.plain
  guess_read seats same ended is =
      let p : Program State = program m.image in
      let last : ended ≡ last_end (run_done p) (running p m.plain) = is ∙ last_seat seats ∙ ap (last_end seat_end) (same ∙ kept.seats) ∙ last_run p (running p m.plain) in
      ap₂ guess_of last kept.guide ∙ guess_is m.image m.plain kept.reached.entries

  -- the committed value of the bus's lines
  pub memory_read : (a : ℕ) → committed_value kept.lines a ≡ word_at (plain_seq m.image m.plain.commits).memory a
  memory_read a = ap (λ (v : Versioned). v.committed a) kept.reached.lines.same_map ∙ same.memory a

-- no line lies in a cache that there isn't
pub no_line : (t : LineTable) (u a : ℕ) → IsSound t → t.caches ≤ u → without_number (t.lines u a) ≡ None
no_line t u a sound out = of (t.lines u a) refl
  where
    of : (o : Option Line) → t.lines u a ≡ o → without_number o ≡ None
    of None h = refl
    of (Some l) h = absurd (let in_cache = (sound.sound_lines u a l h).cached in omega (arith, in_cache, out))

-- ---- a lease

seat_there : (seats : List (whole.Seat State)) (unit place : ℕ) → place_in (map seat_unit seats) unit ≡ Some place
    → unwrap_or (option_map (slice_get seats) (place_in (map seat_unit seats) unit)) None ≡ slice_get seats place
seat_there seats unit place e = ap (λ o. unwrap_or (option_map (slice_get seats) o) None) e

-- the unit's seat is the one at the place that is found
pub seat_read : (m : Parts) → Kept m → (seats : List Seat) → map whole_seat seats ≡ m.seats → (unit place : ℕ)
    → position (λ (s : Seat). s.lease.unit.0 == unit) seats ≡ Some place
    → seat_at (machine_of (program m.image) m.plain) unit ≡ option_map whole_seat (slice_get seats place)
seat_read m kept seats same unit place at =
    let placed : place_in (map seat_unit (map whole_seat seats)) unit ≡ Some place = sym (place_is seats unit) ∙ at in
    subst (λ (l : List (whole.Seat State)). unwrap_or (option_map (slice_get l) (place_in (map seat_unit l) unit)) None ≡ option_map whole_seat (slice_get seats place))
    (same ∙ kept.seats)
    (seat_there (map whole_seat seats) unit place placed ∙ slice_get-map whole_seat seats place)

pub no_seat_read : (m : Parts) → Kept m → (seats : List Seat) → map whole_seat seats ≡ m.seats → (unit : ℕ)
    → position (λ (s : Seat). s.lease.unit.0 == unit) seats ≡ None
    → seat_at (machine_of (program m.image) m.plain) unit ≡ None
no_seat_read m kept seats same unit at =
    let placed : place_in (map seat_unit (map whole_seat seats)) unit ≡ None = sym (place_is seats unit) ∙ at in
    subst (λ (l : List (whole.Seat State)). unwrap_or (option_map (slice_get l) (place_in (map seat_unit l) unit)) None ≡ None)
    (same ∙ kept.seats)
    (ap (λ o. unwrap_or (option_map (slice_get (map whole_seat seats)) o) None) placed)

pub lease_read : (m : Parts) → Kept m → (seats : List Seat) → map whole_seat seats ≡ m.seats → (unit place : ℕ)
    → position (λ (s : Seat). s.lease.unit.0 == unit) seats ≡ Some place → (seat : Seat) → slice_get seats place ≡ Some seat
    → lease_of (machine_value m) unit ≡ Some seat.lease
lease_read m kept seats same unit place at seat here =
    ap (option_map lease_from) (seat_read m kept seats same unit place at ∙ ap (option_map whole_seat) here)
