-- A roster numbers the tasks as the plain machine does.
use Rattle.std.proofs.Common.{ℕ, zero, suc, ◌≡◌, ◌+◌, ◌==◌, Bool, true, false, cond, not, List, [], ◌∷◌, ◌++◌, length, map, take, Option, Some, None, unwrap_or, option_map, slice_get, nat_lt, refl, sym, ap, ap₂, ◌∙◌, arith}
use Rattle.std.specs.List.{position, position_or_len}
use Rattle.std.proofs.lemmas.Bool.{ltb-true, ltb-false, lt-ltb, le-ltb}
use Rattle.std.proofs.lemmas.List.{take_all}
use Rattle.svc_base.specs.declared.ids.UnitId.{UnitId}
use Rattle.svc_core_laws.specs.Program.{seq}
use Rattle.svc_core_laws.specs.Words.{program}
use Rattle.svc_machine_laws.specs.PlainMachine.{Plain, Task, memory_at, run_of, unit_of}
use Rattle.svc_machine_laws.specs.Events.{place_in}
use Rattle.svc_machine_laws.proofs.Anew.{runs_at}
use Rattle.svc_machine.specs.declared.shown.ActiveTask.{ActiveTask}
use Rattle.svc_machine.specs.Reads.{task_of, task_shown}
use Rattle.svc_machine.specs.Value.{MachineValue}
use Rattle.svc_explore_laws.specs.Observations.{numbers}
use Rattle.svc_observations.specs.Rosters.{numbers_with, unit_numbers, unit_told}

length_map : {A B : Type 0} (f : A → B) (xs : List A) → length (map f xs) ≡ length xs
length_map f [] = refl
length_map f (x ∷ xs) = ap suc (length_map f xs)

pub same_numbers : (s : Plain) (head : ℕ) (units : List UnitId) → head ≡ s.commits → unit_numbers units ≡ map unit_of s.tasks → numbers_with head units ≡ numbers s
same_numbers s head units same are =
    let many : length units ≡ length s.tasks = sym (length_map (λ (u : UnitId). u.0) units) ∙ ap length are ∙ length_map unit_of s.tasks in
    λ i. record { head = same i; of_unit = λ unit. same i + unwrap_or (place_in (are i) unit) (many i) }

-- ---- the units of the tasks, one after another

abbrev pub shown_unit : Option ActiveTask → List ℕ
shown_unit None = []
shown_unit (Some a) = a.unit.0 ∷ []

-- what a machine tells of a task
pub told_unit : (m : MachineValue) (place : ℕ) (o : Option ActiveTask) → o ≡ task_of m place → shown_unit o ≡ unit_told (slice_get m.plain.tasks place)
told_unit m place o e =
    ap shown_unit (e ∙ ap (option_map task_shown) (runs_at (program m.image) (seq (program m.image) m.plain.commits).memory m.plain.tasks place)) ∙ of (slice_get m.plain.tasks place)
  where
    of : (o : Option Task) → shown_unit (option_map task_shown (option_map (run_of (program m.image) (memory_at (program m.image) (seq (program m.image) m.plain.commits).memory m.plain.tasks place)) o)) ≡ unit_told o
    of None = refl
    of (Some t) = refl

pub units_append : (xs ys : List UnitId) → unit_numbers (xs ++ ys) ≡ unit_numbers xs ++ unit_numbers ys
units_append [] ys = refl
units_append (x ∷ xs) ys = ap {B = List ℕ} (λ l. x.0 ∷ l) (units_append xs ys)

units_more : (n : ℕ) (ts : List Task) → map unit_of (take (suc n) ts) ≡ map unit_of (take n ts) ++ unit_told (slice_get ts n)
units_more zero [] = refl
units_more (suc n) [] = refl
units_more zero (t ∷ ts) = refl
units_more (suc n) (t ∷ ts) = ap {B = List ℕ} (λ l. t.unit ∷ l) (units_more n ts)

plus_one : (n : ℕ) → n + 1 ≡ suc n
plus_one n = omega arith

pub more_units : (n : ℕ) (ts : List Task) → map unit_of (take (n + 1) ts) ≡ map unit_of (take n ts) ++ unit_told (slice_get ts n)
more_units n ts = ap (λ k. map unit_of (take k ts)) (plus_one n) ∙ units_more n ts

pub all_units : (n : ℕ) (ts : List Task) → n ≡ length ts → map unit_of (take n ts) ≡ map unit_of ts
all_units n ts e = ap (map unit_of) (take_all n ts (omega (arith, e)))

-- ---- the place of a unit

first : {A : Type 0} (a : A) (n : ℕ) → let o : Option A = Some a in cond (nat_lt 0 (suc n)) o None ≡ o
first a n = ap (λ b. cond b (Some a) None) (lt-ltb 0 (suc n) (omega arith))

shifted : (n m : ℕ) → cond (nat_lt (1 + n) (suc m)) (Some (1 + n)) None ≡ option_map suc (cond (nat_lt n m) (Some n) None)
shifted n m = split (nat_lt n m) refl
  where
    split : (b : Bool) → nat_lt n m ≡ b → cond (nat_lt (1 + n) (suc m)) (Some (1 + n)) None ≡ option_map suc (cond b (Some n) None)
    split true h = ap₂ (λ b k. cond b (Some k) None) (lt-ltb (1 + n) (suc m) (let k = ltb-true n m h in omega (arith, k))) (omega arith)
    split false h = ap (λ b. cond b (Some (1 + n)) None) (le-ltb (1 + n) (suc m) (let k = ltb-false n m h in omega (arith, k)))

pub place_is : (units : List UnitId) (unit : ℕ) → position (λ (u : UnitId). u.0 == unit) units ≡ place_in (unit_numbers units) unit
place_is [] unit = refl
place_is (x ∷ units) unit = split (place_is units unit) (x.0 == unit)
  where
    found : (b : Bool) → Option ℕ
    found b =
        let n = cond (not b) (1 + position_or_len (λ (u : UnitId). u.0 == unit) units) 0 in
        cond (nat_lt n (suc (length units))) (Some n) None

    split : position (λ (u : UnitId). u.0 == unit) units ≡ place_in (unit_numbers units) unit → (b : Bool)
        → found b ≡ cond b (Some 0) (option_map suc (place_in (unit_numbers units) unit))
    split rest true = first 0 (length units)
    split rest false = shifted (position_or_len (λ (u : UnitId). u.0 == unit) units) (length units) ∙ ap (option_map suc) rest
