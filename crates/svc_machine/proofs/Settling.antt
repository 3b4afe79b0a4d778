-- The tasks after one that has ended.
use Rattle.std.proofs.Common.{ℕ, zero, suc, ◌≡◌, ◌<◌, ◌≤◌, ◌==◌, Bool, false, true, cond, not, List, [], ◌∷◌, map, take, drop, length, get_or, Option, None, Some, refl, sym, ap, ◌∙◌, subst, arith}
use Rattle.std.specs.Prelude.{◌&&◌, ltb, leb, option_and_then, slice_get}
use Rattle.std.proofs.lemmas.Bool.{ne_eqb}
use Rattle.std.proofs.lemmas.List.{take_all}
use borrow.Author.Tests.{both_ways}
use Rattle.svc_core_laws.specs.declared.end.End.{End}
use Rattle.svc_core_laws.specs.State.{State}
use Rattle.svc_bus_laws.specs.LineTable.{LineTable, is_cut, is_active, unit_at}
use Rattle.svc_bus_laws.specs.BusState.{BusState, Agrees}
use Rattle.svc_bus_laws.specs.Refusals.{is_head}
use Rattle.svc_bus_laws.specs.Steps.{squash}
use Rattle.svc_bus_laws.proofs.Searches.{any_none}
use Rattle.svc_bus.specs.Calls.{IsAtWork}
use Rattle.svc_machine_laws.specs.declared.reply.Cut.{Cut}
use Rattle.svc_machine_laws.specs.declared.reply.Cause.TheVariants as cause
use Rattle.svc_machine_laws.specs.PlainMachine.{stays, cuts_after, cuts_at, cuts_next}
use Rattle.svc_machine_laws.specs.WholeMachine as whole
use Rattle.svc_machine_laws.specs.WholeMachine.{seat_entry, seat_unit}
use Rattle.svc_machine_laws.specs.LineEvents.{line_settle}
use Rattle.svc_machine_laws.specs.Replies.{cut_from, wrong_guess}
use Rattle.svc_machine_laws.proofs.EditedLists.{map_take}
use Rattle.svc_machine.specs.declared.seat.Seat.{Seat}
use Rattle.svc_machine.specs.Kept.{whole_seat}
use Rattle.svc_machine.specs.Seats.{is_misled, seat_end}
use Rattle.svc_machine.proofs.Cancelling.{and_off}
use Rattle.svc_machine.proofs.Seats.{count}

abbrev pub units_in : List Seat → List ℕ
units_in seats = map seat_unit (map whole_seat seats)

abbrev pub entries_in : List Seat → List ℕ
entries_in seats = map seat_entry (map whole_seat seats)

-- ---- where tasks are cut there is a next one

next_entry : (es : List ℕ) (place : ℕ) (end : End) → cuts_next end (drop (suc place) es) ≡ true → suc place < length es
next_entry [] place end h = absurd (both_ways false refl h)
next_entry (x ∷ []) zero end h = absurd (both_ways false refl h)
next_entry (x ∷ y ∷ es) zero end h = omega arith
next_entry (x ∷ es) (suc place) end h = let ih = next_entry es place end h in omega (arith, ih)

pub next_here : (seats : List Seat) (place : ℕ) (end : End) → cuts_next end (drop (suc place) (entries_in seats)) ≡ true → suc place < length seats
next_here seats place end h =
    let a = next_entry (entries_in seats) place end h in
    let b = count seat_entry (map whole_seat seats) in
    let c = count whole_seat seats in
    omega (arith, a, b, c)

next_unit : (seats : List Seat) (at : ℕ) (next : Seat) → at < length seats → next ≡ get_or seats at next → get_or (units_in seats) at 0 ≡ next.lease.unit.0
next_unit [] at next h is = absurd (omega (arith, h))
next_unit (x ∷ seats) zero next h is = ap (λ (s : Seat). s.lease.unit.0) (sym is)
next_unit (x ∷ seats) (suc at) next h is = next_unit seats at next (omega (arith, h)) is

-- its unit runs it, and not the head
module _ (b : BusState) (t : LineTable) (agrees : Agrees b t) (seats : List Seat) (units : t.units ≡ units_in seats) (place : ℕ) (next : Seat) (inside : suc place < length seats) (is : next ≡ get_or seats (suc place) next) where
  pub next_place : (s : LineTable) → Agrees b s → (suc place < length s.units) × (unit_at s (suc place) ≡ next.lease.unit.0)
  next_place s other =
      let same : s.units ≡ units_in seats = sym other.units ∙ agrees.units ∙ units in
      let many : length (units_in seats) ≡ length seats = count seat_unit (map whole_seat seats) ∙ count whole_seat seats in (
        subst (λ (us : List ℕ). suc place < length us) (sym same) (omega (arith, inside, many)),
        ap (λ (us : List ℕ). get_or us (suc place) 0) same ∙ next_unit seats (suc place) next inside is,
      )

  pub next_works : IsAtWork b next.lease.unit.0
  next_works =
      let here = next_place t agrees in (
        suc place,
        record {
          within = subst (λ (us : List ℕ). suc place < length us) (sym agrees.units) here.0;
          unit_is = ap (λ (us : List ℕ). get_or us (suc place) 0) agrees.units ∙ here.1;
        },
      )

  pub next_later : is_head b.units next.lease.unit.0 ≡ false
  next_later =
      let here = next_place t agrees in
      let within = here.0 in
      let apart : (unit_at t 0 == next.lease.unit.0) ≡ false =
      ne_eqb (unit_at t 0) next.lease.unit.0 (λ same. let one = agrees.sound.distinct_units 0 (suc place) (omega (arith, within)) within (same ∙ sym here.1) in absurd (omega (arith, one))) in
      ap (λ (us : List ℕ). is_head us next.lease.unit.0) agrees.units
      ∙ ap (λ x. ltb 0 (length t.units) && x) apart ∙ and_off (ltb 0 (length t.units))

-- ---- whether a task that has ended misleads

misled_by : {A : Type 0} (done : A → Option End) (entry : A → ℕ) (xs : List A) (place : ℕ) → cuts_at done entry xs place ≡ cuts_after (option_and_then done (slice_get xs place)) (drop (suc place) (map entry xs))
misled_by done entry [] place = refl
misled_by done entry (x ∷ xs) zero = refl
misled_by done entry (x ∷ xs) (suc place) = misled_by done entry xs place

-- how the task at a place has ended, where there is one and it has
abbrev pub ended_at : List Seat → (place : ℕ) → Option End
ended_at seats place = option_and_then (λ (s : Seat). s.lease.core.done) (slice_get seats place)

seat_got : (seats : List Seat) (place : ℕ) → option_and_then seat_end (slice_get (map whole_seat seats) place) ≡ ended_at seats place
seat_got [] place = refl
seat_got (x ∷ seats) zero = refl
seat_got (x ∷ seats) (suc place) = seat_got seats place

pub misled_is : (seats : List Seat) (place : ℕ) (o : Option End) → o ≡ ended_at seats place
    → is_misled (map whole_seat seats) place ≡ cuts_after o (drop (suc place) (entries_in seats))
misled_is seats place o is =
    misled_by seat_end seat_entry (map whole_seat seats) place
    ∙ ap (λ e. cuts_after e (drop (suc place) (entries_in seats))) (seat_got seats place ∙ sym is)

pub seats_kept : (wrong : Bool) (place : ℕ) (seats : List Seat) → map whole_seat (cond wrong (take (suc place) seats) seats) ≡ cond wrong (take (suc place) (map whole_seat seats)) (map whole_seat seats)
seats_kept true place seats = map_take whole_seat (suc place) seats
seats_kept false place seats = refl

-- ---- a cut behind the only task cuts nothing

pub squash_none : (t : LineTable) → length t.units ≤ 1 → squash t 1 ≡ t
squash_none t few = λ i. record t { lines = λ v b. lines v b i; units = take_all 1 t.units few i }
  where
    none : (v : ℕ) → is_cut t.units 1 v ≡ false
    none v = any_none (length t.units) (λ q. leb 1 q && (get_or t.units q 0 == v)) (λ q h. ap (λ x. x && (get_or t.units q 0 == v)) (first q (omega (arith, h, few))))
      where
        first : (q : ℕ) → q ≡ 0 → leb 1 q ≡ false
        first q e = ap (λ n. leb 1 n) e

    lines : (v b : ℕ) → cond (is_cut t.units 1 v && is_active (t.lines v b)) None (t.lines v b) ≡ t.lines v b
    lines v b = ap (λ x. cond (x && is_active (t.lines v b)) None (t.lines v b)) (none v)

-- ---- what the sequencer cuts is what doesn't stay

pub settled_lines : (t : LineTable) (end : End) (others : List (whole.Seat State)) → length t.units ≡ suc (length others)
    → cond (cuts_next end (map seat_entry others)) (squash t 1) t ≡ line_settle t (stays (Some end) (map seat_entry others))
settled_lines t end [] many = split (stays (Some end) [])
  where
    split : (x : Bool) → t ≡ line_settle t x
    split true = refl
    split false = sym (squash_none t (omega (arith, many)))
settled_lines t end (y ∷ others) many = split (stays (Some end) (map seat_entry (y ∷ others)))
  where
    split : (x : Bool) → cond (not x) (squash t 1) t ≡ line_settle t x
    split true = refl
    split false = refl

pub settled_seats : (end : End) (head : Seat) (others : List Seat)
    → map whole_seat (drop 1 (cond (cuts_next end (entries_in others)) (take 1 (head ∷ others)) (head ∷ others)))
    ≡ cond (stays (Some end) (entries_in others)) (map whole_seat others) []
settled_seats end head [] = split (stays (Some end) [])
  where
    split : (x : Bool) → let none : List (whole.Seat State) = [] in none ≡ cond x [] []
    split true = refl
    split false = refl
settled_seats end head (y ∷ others) = split (stays (Some end) (entries_in (y ∷ others)))
  where
    split : (x : Bool) → map whole_seat (drop 1 (cond (not x) (take 1 (head ∷ y ∷ others)) (head ∷ y ∷ others))) ≡ cond x (map whole_seat (y ∷ others)) []
    split true = refl
    split false = refl

pub settled_cut : (end : End) (k n : ℕ) (others : List (whole.Seat State)) → n ≡ suc (length others)
    → cond (cuts_next end (map seat_entry others)) (Some (cut_from cause.WrongGuess k n 1)) None ≡ cond (stays (Some end) (map seat_entry others)) None (wrong_guess k others)
settled_cut end k n [] many = split (stays (Some end) [])
  where
    split : (x : Bool) → let none : Option Cut = None in none ≡ cond x None None
    split true = refl
    split false = refl
settled_cut end k n (y ∷ others) many = split (stays (Some end) (map seat_entry (y ∷ others)))
  where
    split : (x : Bool) → cond (not x) (Some (cut_from cause.WrongGuess k n 1)) None ≡ cond x None (wrong_guess k (y ∷ others))
    split true = refl
    split false = ap {B = Option Cut} (λ m. Some (cut_from cause.WrongGuess k m 1)) many
