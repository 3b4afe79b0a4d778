-- A glance leases the unit's own task.
use Rattle.std.proofs.Common.{◌≡◌, ◌∙◌, ℕ, Bool, true, false, Option, Some, None, refl, sym, ap, subst, is_none, map, option_map, unwrap_or, slice_get}
use Rattle.std.specs.Prelude.{if◌then◌else◌, IfOk, IfSome, Result}
use Rattle.std.proofs.lemmas.Option.{none-some, same_Some, slice_get-map}
use Rattle.std.proofs.lemmas.Result.{IfOk-weaker}
use Rattle.svc_base.specs.declared.ids.UnitId.{UnitId}
use Rattle.svc_base.specs.declared.refusal.Refusal.{Refusal}
use Rattle.svc_core.specs.declared.burst.Lease.{Lease}
use Rattle.svc_core_laws.specs.State.{State}
use Rattle.svc_core_laws.specs.Words.{program}
use Rattle.svc_machine_laws.specs.Events.{seat_place}
use Rattle.svc_machine_laws.specs.Refusals.{seat_at}
use Rattle.svc_machine_laws.specs.WholeMachine.{Machine, Seat, machine_of, seat_unit}
use Rattle.svc_machine_laws.proofs.Places.{found}
use Rattle.svc_machine.specs.Reads.{lease_from}
use Rattle.svc_machine.specs.Value.{MachineValue}
use Rattle.svc_history.specs.declared.glance.Glance.{Glance}
use Rattle.svc_history.specs.Glances.{IsGlance}
use Rattle.svc_history.specs.Moves.{NextMove, in_run, next_move}
use Rattle.svc_history.specs.Moves as move
use Rattle.svc_threads.specs.Ports.{LeasesTo}

-- the seat of a unit's task is that unit's
seat_of_unit : (m : Machine State) (unit : ℕ) (seat : Seat State) → seat_at m unit ≡ Some seat → seat.unit ≡ unit
seat_of_unit m unit seat h = of (seat_place m unit) refl h
  where
    of : (o : Option ℕ) → seat_place m unit ≡ o → unwrap_or (option_map (slice_get m.seats) o) None ≡ Some seat → seat.unit ≡ unit
    of None e k = absurd (none-some seat k)
    of (Some q) e k =
        let at : slice_get (map seat_unit m.seats) q ≡ Some unit = found (map seat_unit m.seats) unit q e in
        same_Some seat.unit unit (sym (slice_get-map seat_unit m.seats q ∙ ap (option_map seat_unit) k) ∙ at)

abbrev unit_id : ℕ → UnitId
unit_id n = record { 0 = n }

-- and so is its lease
lease_of_unit : (m : Machine State) (unit : UnitId) (o : Option (Seat State)) → seat_at m unit.0 ≡ o → IfSome (option_map lease_from o) (λ (l : Lease). l.unit ≡ unit)
lease_of_unit m unit None h = tt
lease_of_unit m unit (Some seat) h = ap unit_id (seat_of_unit m unit.0 seat h)

leases : (m : MachineValue) (unit : UnitId) (g : Glance) → IsGlance m unit.0 g → LeasesTo unit g
leases m unit g is =
    let whole : Machine State = machine_of (program m.image) m.plain in
    subst (λ (o : Option Lease). IfSome o (λ (l : Lease). l.unit ≡ unit)) (sym is.lease) (lease_of_unit whole unit (seat_at whole unit.0) refl)

pub leases_own : (m : MachineValue) (unit : UnitId) (o : Result Glance Refusal) → IfOk o (IsGlance m unit.0) → IfOk o (LeasesTo unit)
leases_own m unit o is = IfOk-weaker o (IsGlance m unit.0) (LeasesTo unit) (leases m unit) is

-- the unit whose task a move runs on
abbrev unit_moved : UnitId → NextMove → UnitId
unit_moved unit (move.Begin guess) = unit
unit_moved unit (move.RunOn lease) = lease.unit
unit_moved unit move.Commit = unit
unit_moved unit move.Wait = unit
unit_moved unit move.Ended = unit

moves_own : (unit : UnitId) (ended : Bool) (o : Option Lease) (head : Bool) (guess : Option ℕ) → IfSome o (λ (l : Lease). l.unit ≡ unit)
    → unit_moved unit (if ended then move.Ended else in_run o head guess) ≡ unit
moves_own unit true o head guess own = refl
moves_own unit false None head None own = refl
moves_own unit false None head (Some e) own = refl
moves_own unit false (Some lease) head guess own = task (is_none lease.core.done) head
  where
    task : (runs head : Bool) → unit_moved unit (if runs then move.RunOn lease else (if head then move.Commit else move.Wait)) ≡ unit
    task true head = own
    task false true = refl
    task false false = refl

-- so the lease that a unit's move runs on from is the unit's
pub runs_own : (unit : UnitId) (g : Glance) (lease : Lease) → next_move g ≡ move.RunOn lease → LeasesTo unit g → lease.unit ≡ unit
runs_own unit g lease is own = ap (unit_moved unit) (sym is) ∙ moves_own unit g.ended g.lease g.is_head g.guess own
