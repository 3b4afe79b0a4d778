-- The check of a guess: what the whole machine does is what the plain machine says.
use Rattle.std.proofs.Common.{ℕ, zero, suc, ◌≡◌, Bool, true, false, cond, List, [], ◌∷◌, map, take, length, ◌<◌, Option, Some, None, arith, refl, sym, ap, ap₂, ◌∙◌}
use Rattle.svc_core_laws.specs.declared.end.End.{End}
use Rattle.svc_core_laws.specs.Program.{Program, Seq, seq, over, wrote, part}
use Rattle.svc_bus_laws.specs.Versioned.{Row, with_head}
use Rattle.svc_bus_laws.specs.ByRows.{edit}
use borrow.Author.Tests.{both_ways}
use Rattle.svc_machine_laws.specs.PlainMachine.{Task, Plain, Running, run_done, run_entry, running, runs_of, row_of, cuts_at, cuts_after, is_misled, keep, check}
use Rattle.svc_machine_laws.specs.WholeMachine.{Seat, Machine, seat_of, machine_of}
use Rattle.svc_machine_laws.specs.WholeMachine as whole
use Rattle.svc_machine_laws.proofs.EditedLists.{map_take, hide_take}
use Rattle.svc_machine_laws.proofs.Steps.{runs_take}
use Rattle.svc_machine_laws.proofs.Submits.{machine_by}

map_both : {A B X : Type 0} (f : A → B) (g : B → X) (xs : List A) → map g (map f xs) ≡ map (λ x. g (f x)) xs
map_both f g [] = refl
map_both {A} {B} {X} f g (x ∷ xs) = ap {B = List X} (λ l. g (f x) ∷ l) (map_both f g xs)

cuts_map : {A B : Type 0} (f : A → B) (done : B → Option End) (entry : B → ℕ) (xs : List A) (place : ℕ) → cuts_at done entry (map f xs) place ≡ cuts_at (λ x. done (f x)) (λ x. entry (f x)) xs place
cuts_map f done entry [] place = refl
cuts_map f done entry (x ∷ xs) zero = ap (cuts_after (done (f x))) (map_both f entry xs)
cuts_map f done entry (x ∷ xs) (suc place) = cuts_map f done entry xs place

pub same_check : {C : Type 0} (p : Program C) (s : Plain) (place : ℕ) → whole.is_misled p (machine_of p s).seats place ≡ is_misled p s place
same_check p s place = cuts_map seat_of (whole.seat_done p) whole.seat_entry (running p s) place

pub keep_step : {C : Type 0} (p : Program C) (n : ℕ) (s : Plain) → machine_of p (keep n s) ≡ whole.keep n (machine_of p s)
keep_step {C} p n s =
    let q : Seq = seq p s.commits in
    let runs : List (Running C) = running p s in
    ap (machine_by q s.commits s.accepted s.epoch) (runs_take p q.memory n s.tasks)
    ∙ ap₂ {B = List (Seat C)} {C = Machine C} (λ a b. record (machine_of p s) { versioned = record { commits = s.commits; committed = q.memory; rows = a }; seats = b })
    (ap with_head (map_take row_of n runs) ∙ hide_take n (map row_of runs))
    (map_take seat_of n runs)

-- THE CHECK
pub check_step : {C : Type 0} (p : Program C) (s : Plain) (place : ℕ) → machine_of p (check p s place) ≡ whole.check p (machine_of p s) place
check_step {C} p s place = of (is_misled p s place) ∙ ap (λ b. cond b (whole.keep (suc place) (machine_of p s)) (machine_of p s)) (sym (same_check p s place))
  where
    of : (b : Bool) → machine_of p (cond b (keep (suc place) s) s) ≡ cond b (whole.keep (suc place) (machine_of p s)) (machine_of p s)
    of true = keep_step p (suc place) s
    of false = refl

pub check_commits : {C : Type 0} (p : Program C) (s : Plain) (place : ℕ) → (check p s place).commits ≡ s.commits
check_commits p s place = of (is_misled p s place)
  where
    of : (b : Bool) → (cond b (keep (suc place) s) s).commits ≡ s.commits
    of true = refl
    of false = refl

pub check_accepted : {C : Type 0} (p : Program C) (s : Plain) (place : ℕ) → (check p s place).accepted ≡ s.accepted
check_accepted p s place = of (is_misled p s place)
  where
    of : (b : Bool) → (cond b (keep (suc place) s) s).accepted ≡ s.accepted
    of true = refl
    of false = refl

-- a check that cuts has a next task
none_cut : (o : Option End) → cuts_after o [] ≡ false
none_cut None = refl
none_cut (Some x) = refl

pub cuts_within : {A : Type 0} (done : A → Option End) (entry : A → ℕ) (xs : List A) (place : ℕ) → cuts_at done entry xs place ≡ true → suc place < length xs
cuts_within done entry [] place h = absurd (both_ways false refl h)
cuts_within done entry (x ∷ []) zero h = absurd (both_ways (cuts_after (done x) []) (none_cut (done x)) h)
cuts_within done entry (x ∷ y ∷ xs) zero h = omega arith
cuts_within done entry (x ∷ xs) (suc place) h = let ih = cuts_within done entry xs place h in omega (arith, ih)

runs_count : {C : Type 0} (p : Program C) (m : ℕ → ℕ) (ts : List Task) → length (runs_of p m ts) ≡ length ts
runs_count p m [] = refl
runs_count p m (t ∷ ts) = ap suc (runs_count p (over (wrote (part p t.entry t.turns m).log) m) ts)

pub misled_within : {C : Type 0} (p : Program C) (s : Plain) (place : ℕ) → is_misled p s place ≡ true → suc place < length s.tasks
misled_within p s place h = let a = cuts_within (run_done p) run_entry (running p s) place h in let n = runs_count p (seq p s.commits).memory s.tasks in omega (arith, a, n)

pub take_edit : {A : Type 0} (place : ℕ) (f : A → A) (c : Option ℕ) (xs : List A) → take (suc place) (edit place f c xs) ≡ edit place f (Some 0) xs
take_edit place f c [] = refl
take_edit zero f c (x ∷ xs) = refl
take_edit {A} (suc place) f c (x ∷ xs) = ap {B = List A} (λ l. x ∷ l) (take_edit place f c xs)
