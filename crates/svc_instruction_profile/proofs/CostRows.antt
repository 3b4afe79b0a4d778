-- The rows of the table: what they add up to, and that a map keeps them.
use Rattle.std.proofs.Common.{Less, Equal, ◌≡◌, ◌∙◌, ◌+◌, ◌==◌, ◌<◌, ◌≤◌, ◌^◌, ◌∷◌, [], ℕ, suc, List, Bool, true, false, cond, Option, Some, length, get_or, drop, drop-cons, refl, ap, sym, arith}
use Rattle.std.specs.Prelude.{unwrap_or}
use Rattle.std.specs.BTreeMap.{insert_entry, is_at}
use Rattle.std.specs.Cmp.{nat_cmp_total}
use Rattle.std.specs.List.{AllByRecursion, sum_by}
use Rattle.std.specs.List.Sorted.{IsStrictlySortedBy}
use Rattle.std.specs.Map.{keys_of, lookup}
use Rattle.std.specs.Ordering.{is_eq, match_ordering, nat_cmp}
use Rattle.std.specs.declared.cmp.Ordering.{Ordering}
use Rattle.std.specs.declared.cmp.Ordering.TheVariants as ordering
use Rattle.std.proofs.lemmas.List.Sums.{sum_by-cons}
use Rattle.std.proofs.lemmas.Map.{lookup-none}
use Rattle.std.proofs.lemmas.Map.Keys.{sorted_head, sorted_tail}
use Rattle.svc_report.specs.Counting.{one_where}
use Rattle.svc_instruction_profile.specs.declared.charge.Charge.{Charge}
use Rattle.svc_instruction_profile.specs.declared.cost.Cost.{Cost}
use Rattle.svc_instruction_profile.specs.declared.cost.Expense.{Expense}
use Rattle.svc_instruction_profile.specs.declared.cost.Expense.TheVariants as expense
use Rattle.svc_instruction_profile.specs.Room.{HasRoom}
use Rattle.svc_instruction_profile.specs.Rows.{cost_at, costs_more, no_cost, number_of, one_of, with_charge, with_charges}
use Rattle.svc_instruction_profile.specs.Sums.{column_sum}

abbrev pub Row : Type 0
Row = ℕ × Cost

-- ---- sums

-- a column of a row, and what a charge adds to it
pub record IsColumn (f : Cost → ℕ) (x : Expense) : Type 0 where
  pub none : f no_cost ≡ 0
  pub more : (k : Cost) (y : Expense) → f (costs_more y k) ≡ f k + one_of x y

pub of_loads : IsColumn (λ k. k.loads) expense.Load
of_loads = record { none = refl; more = λ k y. refl }

pub of_stores : IsColumn (λ k. k.stores) expense.Store
of_stores = record { none = refl; more = λ k y. refl }

pub of_outputs : IsColumn (λ k. k.outputs) expense.Output
of_outputs = record { none = refl; more = λ k y. refl }

pub of_lost : IsColumn (λ k. k.lost) expense.Lost
of_lost = record { none = refl; more = λ k y. refl }

pub of_found : IsColumn (λ k. k.found) expense.Found
of_found = record { none = refl; more = λ k y. refl }

pub of_suffered : IsColumn (λ k. k.suffered) expense.Suffered
of_suffered = record { none = refl; more = λ k y. refl }

-- how many charges of a kind there are
abbrev pub as_one : Expense → Charge → ℕ
as_one x c = one_of x c.expense

abbrev pub charges_in : Expense → List Charge → ℕ
charges_in x cs = sum_by (as_one x) cs

with_one : (f : Cost → ℕ) (x : Expense) → IsColumn f x → (c : Charge) (rs : List Row) → column_sum f (with_charge c rs) ≡ column_sum f rs + as_one x c
with_one f x is c [] =
    let one = sum_by-cons (λ (r : Row). f r.1) (c.address, costs_more c.expense no_cost) [] in
    let more = is.more no_cost c.expense in
    let none = is.none in
    omega (arith, one, more, none)
with_one f x is c (r ∷ rs) = by (nat_cmp c.address r.0) (with_one f x is c rs)
  where
    by : (o : Ordering) → column_sum f (with_charge c rs) ≡ column_sum f rs + as_one x c
        → column_sum f (match_ordering o ((c.address, costs_more c.expense no_cost) ∷ r ∷ rs) ((r.0, costs_more c.expense r.1) ∷ rs) (r ∷ with_charge c rs)) ≡ column_sum f (r ∷ rs) + as_one x c
    by ordering.Less rest =
        let one = sum_by-cons (λ (r : Row). f r.1) (c.address, costs_more c.expense no_cost) (r ∷ rs) in
        let more = is.more no_cost c.expense in
        let none = is.none in
        omega (arith, one, more, none)
    by ordering.Equal rest =
        let one = sum_by-cons (λ (r : Row). f r.1) (r.0, costs_more c.expense r.1) rs in
        let was = sum_by-cons (λ (r : Row). f r.1) r rs in
        let more = is.more r.1 c.expense in
        omega (arith, one, was, more)
    by ordering.Greater rest =
        let one = sum_by-cons (λ (r : Row). f r.1) r (with_charge c rs) in
        let was = sum_by-cons (λ (r : Row). f r.1) r rs in
        omega (arith, one, was, rest)

pub with_all : (f : Cost → ℕ) (x : Expense) → IsColumn f x → (cs : List Charge) (rs : List Row) → column_sum f (with_charges rs cs) ≡ column_sum f rs + charges_in x cs
with_all f x is [] rs = omega arith
with_all f x is (c ∷ cs) rs =
    let first = with_one f x is c rs in
    let rest = with_all f x is cs (with_charge c rs) in
    let all = sum_by-cons (as_one x) c cs in
    omega (arith, first, rest, all)

-- the rows of charges add up to these
pub all_rows : (f : Cost → ℕ) (x : Expense) → IsColumn f x → (cs : List Charge) → column_sum f (with_charges [] cs) ≡ charges_in x cs
all_rows f x is cs = let all = with_all f x is cs [] in omega (arith, all)

-- ---- room

one_at_most : (b : Bool) → one_where b ≤ 1
one_at_most true = omega arith
one_at_most false = omega arith

few_charges : (x : Expense) (cs : List Charge) → charges_in x cs ≤ length cs
few_charges x [] = omega arith
few_charges x (c ∷ cs) =
    let all = sum_by-cons (as_one x) c cs in
    let first = one_at_most (number_of x == number_of c.expense) in
    let rest = few_charges x cs in
    omega (arith, all, first, rest)

found_part : (f : Cost → ℕ) → f no_cost ≡ 0 → (a : ℕ) (rs : List Row) → f (cost_at a rs) ≤ column_sum f rs
found_part f none a [] = omega (arith, none)
found_part f none a (r ∷ rs) = by (is_at (nat_cmp a) r.0) (found_part f none a rs)
  where
    by : (b : Bool) → f (cost_at a rs) ≤ column_sum f rs → f (unwrap_or (cond b (Some r.1) (lookup (is_at (nat_cmp a)) rs)) no_cost) ≤ column_sum f (r ∷ rs)
    by true rest = let all = sum_by-cons (λ (r : Row). f r.1) r rs in omega (arith, all)
    by false rest = let all = sum_by-cons (λ (r : Row). f r.1) r rs in omega (arith, all, rest)

-- a column has room for one of the charges that are left
column_room : (f : Cost → ℕ) (x : Expense) → IsColumn f x → (all : List Charge) (i : ℕ) (d : Charge) (rs : List Row) → i < length all
    → with_charges rs (drop i all) ≡ with_charges [] all → length all < 2 ^ 64
    → f (cost_at (get_or all i d).address rs) + as_one x (get_or all i d) < 2 ^ 64
column_room f x is all i d rs inside so_far few =
    let c = get_or all i d in
    let part = found_part f is.none c.address rs in
    let now : column_sum f (with_charges rs (drop i all)) ≡ column_sum f rs + charges_in x (drop i all) = with_all f x is (drop i all) rs in
    let last : column_sum f (with_charges [] all) ≡ charges_in x all = all_rows f x is all in
    let same : column_sum f (with_charges rs (drop i all)) ≡ column_sum f (with_charges [] all) = ap (column_sum f) so_far in
    let left : charges_in x (drop i all) ≡ as_one x c + charges_in x (drop (suc i) all) = ap (charges_in x) (drop-cons all i d inside) ∙ sum_by-cons (as_one x) c (drop (suc i) all) in
    let most = few_charges x all in
    omega (arith, part, now, last, same, left, most, few)

-- so has its row
pub room : (all : List Charge) (i : ℕ) (d : Charge) (rs : List Row) → i < length all
    → with_charges rs (drop i all) ≡ with_charges [] all → length all < 2 ^ 64
    → HasRoom (get_or all i d).expense (cost_at (get_or all i d).address rs)
room all i d rs inside so_far few = record {
  loads = column_room (λ k. k.loads) expense.Load of_loads all i d rs inside so_far few;
  stores = column_room (λ k. k.stores) expense.Store of_stores all i d rs inside so_far few;
  outputs = column_room (λ k. k.outputs) expense.Output of_outputs all i d rs inside so_far few;
  lost = column_room (λ k. k.lost) expense.Lost of_lost all i d rs inside so_far few;
  found = column_room (λ k. k.found) expense.Found of_found all i d rs inside so_far few;
  suffered = column_room (λ k. k.suffered) expense.Suffered of_suffered all i d rs inside so_far few;
}

-- one charge more
pub next_charge : (all : List Charge) (i : ℕ) (d : Charge) (rs new : List Row) → i < length all
    → with_charges rs (drop i all) ≡ with_charges [] all → new ≡ with_charge (get_or all i d) rs
    → with_charges new (drop (i + 1) all) ≡ with_charges [] all
next_charge all i d rs new inside so_far is =
    let n : i + 1 ≡ suc i = omega arith in
    ap (λ (k : ℕ). with_charges new (drop k all)) n ∙ ap (λ (l : List Row). with_charges l (drop (suc i) all)) is
    ∙ sym (ap (with_charges rs) (drop-cons all i d inside)) ∙ so_far

-- ---- a map that is in order

none_after : (k q : ℕ) → nat_cmp k q ≡ Less → (rs : List Row) → AllByRecursion (λ (y : ℕ). nat_cmp q y ≡ Less) (keys_of rs)
    → AllByRecursion (λ (r : Row). is_at (nat_cmp k) r.0 ≡ false) rs
none_after k q less [] all = tt
none_after k q less (r ∷ rs) all = (ap is_eq (nat_cmp_total.trans k q r.0 less all.0), none_after k q less rs all.1)

pub in_place : (c : Charge) (rs : List Row) → IsStrictlySortedBy nat_cmp (keys_of rs)
    → insert_entry nat_cmp rs c.address (costs_more c.expense (cost_at c.address rs)) ≡ with_charge c rs
in_place c [] sorted = refl
in_place c (r ∷ rs) sorted =
    by (nat_cmp c.address r.0) refl (in_place c rs (sorted_tail nat_cmp r.0 (keys_of rs) sorted))
  where
    here : Ordering → Cost
    here o = costs_more c.expense (unwrap_or (cond (is_eq o) (Some r.1) (lookup (is_at (nat_cmp c.address)) rs)) no_cost)

    by : (o : Ordering) → nat_cmp c.address r.0 ≡ o → insert_entry nat_cmp rs c.address (costs_more c.expense (cost_at c.address rs)) ≡ with_charge c rs
        → match_ordering o ((c.address, here o) ∷ r ∷ rs) ((r.0, here o) ∷ rs) (r ∷ insert_entry nat_cmp rs c.address (here o))
        ≡ match_ordering o ((c.address, costs_more c.expense no_cost) ∷ r ∷ rs) ((r.0, costs_more c.expense r.1) ∷ rs) (r ∷ with_charge c rs)
    by ordering.Less less rest =
        ap (λ (o : Option Cost). (c.address, costs_more c.expense (unwrap_or o no_cost)) ∷ r ∷ rs)
        (lookup-none (is_at (nat_cmp c.address)) rs (none_after c.address r.0 less rs (sorted_head nat_cmp r.0 (keys_of rs) sorted)))
    by ordering.Equal same rest = refl
    by ordering.Greater more rest = ap (λ (l : List Row). r ∷ l) rest
