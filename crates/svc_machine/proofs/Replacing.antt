-- What an accepted replacement may do, and what it does.
use Rattle.std.proofs.Common.{ℕ, ◌≡◌, ◌+◌, ◌<◌, Bool, false, cond, List, map, Option, None, Some, refl, sym, ap, ap₂, ◌∙◌, arith}
use Rattle.std.specs.Prelude.{Result, Ok, Err, OnOk, MatchResult, is_none}
use Rattle.std.proofs.lemmas.Option.{none-some}
use Rattle.std.proofs.lemmas.Bool.{leb-false}
use Rattle.svc_base.specs.declared.refusal.Refusal.{Refusal}
use Rattle.svc_base.specs.declared.refusal.Refusal.TheVariants as refusal
use Rattle.svc_core_laws.specs.Words.{program}
use Rattle.svc_bus_laws.specs.LineTable.{LineTable}
use Rattle.svc_bus_laws.specs.BusState.{Agrees}
use Rattle.svc_bus_laws.specs.Refusals.{bus_cache, is_not_resident, is_pinned}
use Rattle.svc_bus_laws.specs.Steps.{replace}
use Rattle.svc_bus_laws.proofs.RefusalProofs.{same_pinned}
use Rattle.svc_bus.specs.Value.{BusValue}
use Rattle.svc_bus.specs.State.{bus_state}
use Rattle.svc_bus.specs.Calls.{replace_refusal}
use Rattle.svc_machine_laws.specs.WholeMachine.{machine_of}
use Rattle.svc_machine_laws.specs.Events.{Replace, plain_event, whole_event}
use Rattle.svc_machine_laws.specs.LineEvents.{line_event}
use Rattle.svc_machine_laws.specs.Refusals.{cases_of}
use Rattle.svc_machine_laws.proofs.Cases.{case_at, no_case}
use Rattle.svc_machine.specs.declared.seat.Seat.{Seat}
use Rattle.svc_machine.specs.Seats.{plain_of}
use Rattle.svc_machine.specs.Kept.{Parts, Kept, whole_seat}
use Rattle.svc_machine.proofs.Keeping.{IsAccepted, Moved, no_refusal, seat_task, tasks_seen}

-- a call that is refused exactly where there is a refusal, and isn't refused, is accepted
pub accepted_of : {A : Type 0} (r : Result A Refusal) (o : Option Refusal) (P : Type 0) → o ≡ None → MatchResult r (λ x. o ≡ None) (λ e. o ≡ Some e) → OnOk r P → P
accepted_of (Ok x) o P none h p = p
accepted_of (Err e) o P none h p = absurd (none-some e (sym none ∙ h))

module _ (m : Parts) (kept : Kept m) (unit a : ℕ) (ok : IsAccepted m (Replace unit a)) where
  off : (i : ℕ) → case_at (cases_of m.image m.config (machine_of (program m.image) m.plain) kept.lines (Replace unit a)) i ≡ false
  off = no_case (cases_of m.image m.config (machine_of (program m.image) m.plain) kept.lines (Replace unit a)) (no_refusal m kept (Replace unit a) ok)

  -- there is such a unit
  pub known : unit < (bus_state m.bus).caches
  known =
      let h = leb-false m.config.units unit (off 0) in
      let a = kept.agrees.caches in
      let b = kept.reached.lines.caches in
      omega (arith, h, a, b)

  pub accepted_room : m.plain.accepted < m.config.events
  accepted_room = leb-false m.config.events m.plain.accepted (off 4)

  -- the bus doesn't refuse
  pub bus_accepts : replace_refusal (bus_state m.bus) unit a ≡ None
  bus_accepts =
      let resident : is_not_resident (bus_cache (bus_state m.bus) unit) a ≡ false = ap is_none (kept.agrees.lines unit a) ∙ off 2 in
      let free : is_pinned (bus_cache (bus_state m.bus) unit) (bus_state m.bus).units unit a ≡ false = same_pinned (bus_state m.bus) kept.lines unit a kept.agrees ∙ off 3 in
      ap₂ {C = Option Refusal} (λ (x y : Bool). cond x (Some refusal.NotResident) (cond y (Some refusal.Pinned) None)) resident free

  pub replaced : (seats : List Seat) → map whole_seat seats ≡ m.seats
      → (bus : BusValue) → ((t : LineTable) → Agrees (bus_state m.bus) t → Agrees (bus_state bus) (replace t unit a))
      → Moved m (record m { plain = plain_of m.plain.commits (m.plain.accepted + 1) m.plain.epoch seats; bus = bus }) (Replace unit a)
  unfolding whole_event plain_event line_event
  replaced seats same bus agrees =
      record {
        image = refl;
        config = refl;
        tasks = tasks_seen seats ∙ ap (map seat_task) same;
        commits = refl;
        accepted = omega arith;
        epoch = refl;
        seats = kept.seats;
        output = kept.output;
        stopped = kept.stopped;
        guide = kept.guide;
        places = omega arith;
        room = omega arith;
        lines = agrees;
      }
