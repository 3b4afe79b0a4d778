-- Standings with the same future number their tasks alike.
use Rattle.std.proofs.Common.{ℕ, suc, ◌≡◌, ◌+◌, List, [], ◌∷◌, length, map, unwrap_or, refl, sym, ap, ◌∙◌}
use Rattle.svc_image.specs.Image.{Image}
use Rattle.svc_core_laws.specs.Program.{seq}
use Rattle.svc_core_laws.specs.State.{State}
use Rattle.svc_core_laws.specs.Words.{program}
use Rattle.svc_machine_laws.specs.PlainMachine.{Plain, unit_of}
use Rattle.svc_machine_laws.specs.WholeMachine.{Machine, Seat, machine_of, seat_unit}
use Rattle.svc_machine_laws.specs.Events.{place_in}
use Rattle.svc_machine_laws.specs.Standing.{Standing}
use Rattle.svc_machine_laws.proofs.Steps.{map_runs}
use Rattle.svc_history_laws.specs.declared.entry.Entry.{Entry}
use Rattle.svc_explore_laws.specs.Futures.{HaveOneFuture, ageless, ageless_seat}
use Rattle.svc_explore_laws.specs.Observations.{Numbers, numbers, observed, observations}

length_map : {A B : Type 0} (f : A → B) (xs : List A) → length (map f xs) ≡ length xs
length_map f [] = refl
length_map f (x ∷ xs) = ap suc (length_map f xs)

-- the numbers of so many commits, and of active tasks with these units
abbrev numbered : (commits : ℕ) → List ℕ → Numbers
numbered commits units = record { head = commits; of_unit = λ unit. commits + unwrap_or (place_in units unit) (length units) }

numbers_by_units : (s : Plain) → numbers s ≡ numbered s.commits (map unit_of s.tasks)
numbers_by_units s =
    let same : length s.tasks ≡ length (map unit_of s.tasks) = sym (length_map unit_of s.tasks) in
    λ i. record { head = s.commits; of_unit = λ unit. s.commits + unwrap_or (place_in (map unit_of s.tasks) unit) (same i) }

units_ageless : {C : Type 0} (seats : List (Seat C)) → map seat_unit (map ageless_seat seats) ≡ map seat_unit seats
units_ageless [] = refl
units_ageless (s ∷ seats) = ap {B = List ℕ} (λ units. s.unit ∷ units) (units_ageless seats)

-- the units of the tasks are those of the machine's seats
seats_units : (img : Image) (s : Plain) → map seat_unit (map ageless_seat (machine_of (program img) s).seats) ≡ map unit_of s.tasks
seats_units img s =
    units_ageless (machine_of (program img) s).seats
    ∙ map_runs (program img) seat_unit unit_of (λ x. refl) (seq (program img) s.commits).memory s.tasks

pub same_numbers : (img : Image) (s t : Standing) → HaveOneFuture img s t → numbers s.plain ≡ numbers t.plain
same_numbers img s t same =
    let commits : s.plain.commits ≡ t.plain.commits = ap (λ (m : Machine State). m.versioned.commits) same.machine in
    let units : map unit_of s.plain.tasks ≡ map unit_of t.plain.tasks =
    sym (seats_units img s.plain) ∙ ap (λ (m : Machine State). map seat_unit m.seats) same.machine ∙ seats_units img t.plain in
    numbers_by_units s.plain ∙ (λ i. numbered (commits i) (units i)) ∙ sym (numbers_by_units t.plain)

pub same_sights : (img : Image) (s t : Standing) → HaveOneFuture img s t → (e : Entry) → observations s.plain e ≡ observations t.plain e
same_sights img s t same e = ap (λ (n : Numbers). observed n e) (same_numbers img s t same)
