-- The active tasks as they are shown, by their seats.
use Rattle.std.proofs.Common.{ℕ, zero, suc, ◌≡◌, List, [], ◌∷◌, map, Option, Some, None, refl, sym, ap, ◌∙◌}
use Rattle.std.proofs.lemmas.Option.{slice_get-map}
use Rattle.std.specs.Prelude.{option_map, slice_get}
use Rattle.std.specs.List.{AllByRecursion}
use Rattle.svc_core_laws.specs.State.{State}
use Rattle.svc_core_laws.specs.Words.{program}
use Rattle.svc_machine_laws.specs.PlainMachine.{Running, running}
use Rattle.svc_machine_laws.specs.Reached.{IsCounted}
use Rattle.svc_machine_laws.specs.WholeMachine as whole
use Rattle.svc_machine_laws.specs.WholeMachine.{seat_of}
use Rattle.svc_machine.specs.declared.seat.Seat.{Seat}
use Rattle.svc_machine.specs.declared.shown.ActiveTask.{ActiveTask}
use Rattle.svc_machine.specs.Cores.{core_in, core_of}
use Rattle.svc_machine.specs.Kept.{Parts, Kept, machine_value, whole_seat}
use Rattle.svc_machine.specs.Reads.{task_of, task_shown}

-- a task as its seat shows it
abbrev pub at_seat : whole.Seat State → ActiveTask
at_seat s = record { unit = record { 0 = s.unit }; task_entry = s.entry; turns = s.core.count; done = s.core.done }

-- its core has counted its turns
counted_at : (runs : List (Running State)) → AllByRecursion IsCounted runs → (place : ℕ)
    → option_map at_seat (option_map seat_of (slice_get runs place)) ≡ option_map task_shown (slice_get runs place)
counted_at [] all place = refl
counted_at (x ∷ runs) all zero = ap (λ (n : ℕ). Some (let shown : ActiveTask = record { unit = record { 0 = x.task.unit }; task_entry = x.task.entry; turns = n; done = x.run.core.done } in shown)) all.0
counted_at (x ∷ runs) all (suc place) = counted_at runs all.1 place

pub task_read : (m : Parts) → Kept m → (seats : List Seat) → map whole_seat seats ≡ m.seats → (place : ℕ)
    → option_map at_seat (option_map whole_seat (slice_get seats place)) ≡ task_of (machine_value m) place
task_read m kept seats same place =
    let runs = running (program m.image) m.plain in
    ap (option_map at_seat) (sym (slice_get-map whole_seat seats place) ∙ ap (λ (l : List (whole.Seat State)). slice_get l place) (same ∙ kept.seats) ∙ slice_get-map seat_of runs place)
    ∙ counted_at runs kept.reached.counted place

-- ---- their cores

abbrev core_at : whole.Seat State → State
core_at s = s.core

same_core : (o : Option (Running State)) → option_map core_at (option_map seat_of o) ≡ option_map core_in o
same_core None = refl
same_core (Some x) = refl

core_read : (m : Parts) → Kept m → (seats : List Seat) → map whole_seat seats ≡ m.seats → (place : ℕ)
    → option_map core_at (option_map whole_seat (slice_get seats place)) ≡ core_of (machine_value m) place
core_read m kept seats same place =
    let runs = running (program m.image) m.plain in
    ap (option_map core_at) (sym (slice_get-map whole_seat seats place) ∙ ap (λ (l : List (whole.Seat State)). slice_get l place) (same ∙ kept.seats) ∙ slice_get-map seat_of runs place)
    ∙ same_core (slice_get runs place)

own_core : (o : Option Seat) → option_map (λ (s : Seat). s.lease.core) o ≡ option_map core_at (option_map whole_seat o)
own_core None = refl
own_core (Some s) = refl

-- the core in the seat at a place
pub seat_core : (m : Parts) → Kept m → (seats : List Seat) → map whole_seat seats ≡ m.seats → (place : ℕ)
    → option_map (λ (s : Seat). s.lease.core) (slice_get seats place) ≡ core_of (machine_value m) place
seat_core m kept seats same place = own_core (slice_get seats place) ∙ core_read m kept seats same place
