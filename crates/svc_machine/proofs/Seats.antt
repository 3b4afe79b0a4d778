-- The seats, the tasks and the runs, by their places.
use Rattle.std.proofs.Common.{ℕ, suc, ◌≡◌, ◌+◌, ◌-◌, ◌==◌, ◌<◌, Bool, true, false, cond, List, [], ◌∷◌, map, length, Option, Some, None, refl, sym, ap, ap₂, ◌∙◌, arith}
use Rattle.std.specs.Prelude.{option_and_then, option_map, slice_get, slice_index_or, nat_lt, not}
use Rattle.std.specs.List.{position, position_or_len}
use Rattle.std.proofs.lemmas.Bool.{ltb-true, ltb-false, lt-ltb, le-ltb}
use Rattle.std.proofs.lemmas.Option.{slice_get_read}
use Rattle.svc_core_laws.specs.declared.end.End.{End}
use Rattle.svc_core_laws.specs.State.{State}
use Rattle.svc_core_laws.specs.Program.{Program}
use Rattle.svc_machine_laws.specs.Guess.{last_end}
use Rattle.svc_machine_laws.specs.PlainMachine.{Running, run_done}
use Rattle.svc_machine_laws.specs.WholeMachine.{seat_done, seat_of, seat_unit}
use Rattle.svc_machine_laws.specs.Events.{place_in}
use Rattle.svc_machine_laws.proofs.Places.{found, within}
use Rattle.svc_machine.specs.declared.seat.Seat.{Seat}
use Rattle.svc_machine.specs.Kept.{whole_seat}
use Rattle.svc_machine.specs.Seats.{seat_end}

-- ---- the place of a unit's seat

first : {A : Type 0} (a : A) (n : ℕ) → let o : Option A = Some a in cond (nat_lt 0 (suc n)) o None ≡ o
first a n = ap (λ b. cond b (Some a) None) (lt-ltb 0 (suc n) (omega arith))

shifted : (n m : ℕ) → cond (nat_lt (1 + n) (suc m)) (Some (1 + n)) None ≡ option_map suc (cond (nat_lt n m) (Some n) None)
shifted n m = split (nat_lt n m) refl
  where
    split : (b : Bool) → nat_lt n m ≡ b → cond (nat_lt (1 + n) (suc m)) (Some (1 + n)) None ≡ option_map suc (cond b (Some n) None)
    split true h = ap₂ (λ b k. cond b (Some k) None) (lt-ltb (1 + n) (suc m) (let k = ltb-true n m h in omega (arith, k))) (omega arith)
    split false h = ap (λ b. cond b (Some (1 + n)) None) (le-ltb (1 + n) (suc m) (let k = ltb-false n m h in omega (arith, k)))

-- the first seat of the unit is at its task's place
pub place_is : (seats : List Seat) (unit : ℕ) → position (λ (s : Seat). s.lease.unit.0 == unit) seats ≡ place_in (map seat_unit (map whole_seat seats)) unit
place_is [] unit = refl
place_is (x ∷ seats) unit = split (place_is seats unit) (x.lease.unit.0 == unit)
  where
    found : (b : Bool) → Option ℕ
    found b =
        let n = cond (not b) (1 + position_or_len (λ (s : Seat). s.lease.unit.0 == unit) seats) 0 in
        cond (nat_lt n (suc (length seats))) (Some n) None

    split : position (λ (s : Seat). s.lease.unit.0 == unit) seats ≡ place_in (map seat_unit (map whole_seat seats)) unit → (b : Bool)
        → found b ≡ cond b (Some 0) (option_map suc (place_in (map seat_unit (map whole_seat seats)) unit))
    split rest true = first 0 (length seats)
    split rest false = shifted (position_or_len (λ (s : Seat). s.lease.unit.0 == unit) seats) (length seats) ∙ ap (option_map suc) rest

-- ---- the tasks of the seats

pub count : {A B : Type 0} (f : A → B) (xs : List A) → length (map f xs) ≡ length xs
count f [] = refl
count f (x ∷ xs) = ap suc (count f xs)

-- a place that is found is one of the seats'
pub place_below : (seats : List Seat) (unit place n : ℕ) → n ≡ length seats → position (λ (s : Seat). s.lease.unit.0 == unit) seats ≡ Some place → place < n
place_below seats unit place n many at =
    let inside : place < length (map seat_unit (map whole_seat seats)) = within (map seat_unit (map whole_seat seats)) place unit (found (map seat_unit (map whole_seat seats)) unit place (sym (place_is seats unit) ∙ at)) in
    let one = count seat_unit (map whole_seat seats) in
    let two = count whole_seat seats in
    omega (arith, inside, one, two, many)

-- and its seat
pub seat_found : (seats : List Seat) (unit place n : ℕ) (seat : Seat) → n ≡ length seats → position (λ (s : Seat). s.lease.unit.0 == unit) seats ≡ Some place
    → seat ≡ slice_index_or seats place seat → slice_get seats place ≡ Some seat
seat_found seats unit place n seat many at is = slice_get_read seats n place seat many (place_below seats unit place n many at) is

-- ---- how the youngest has ended

pub last_got : {A : Type 0} (done : A → Option End) (xs : List A) → last_end done xs ≡ option_and_then done (slice_get xs (length xs - 1))
last_got done [] = refl
last_got done (x ∷ []) = refl
last_got done (x ∷ y ∷ xs) = last_got done (y ∷ xs) ∙ (let e : suc (length (y ∷ xs) - 1) ≡ length (x ∷ y ∷ xs) - 1 = omega arith in ap (λ n. option_and_then done (slice_get (x ∷ y ∷ xs) n)) e)

-- of the seats, and of the runs that they are of
pub last_seat : (seats : List Seat) → last_end (λ (s : Seat). s.lease.core.done) seats ≡ last_end seat_end (map whole_seat seats)
last_seat [] = refl
last_seat (x ∷ []) = refl
last_seat (x ∷ y ∷ seats) = last_seat (y ∷ seats)

pub last_run : (p : Program State) (runs : List (Running State)) → last_end (seat_done p) (map seat_of runs) ≡ last_end (run_done p) runs
last_run p [] = refl
last_run p (x ∷ []) = refl
last_run p (x ∷ y ∷ runs) = last_run p (y ∷ runs)
