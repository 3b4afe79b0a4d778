-- What the charges of a history add up to.
use Rattle.std.proofs.Common.{◌≡◌, ◌+◌, ◌++◌, ◌∷◌, [], ℕ, suc, List, Bool, true, false, cond, Option, Some, None, refl, arith}
use Rattle.std.specs.Prelude.{count_by, flat_map}
use Rattle.std.specs.Option.{IsSome}
use Rattle.std.proofs.lemmas.Bool.{both_ways}
use Rattle.std.proofs.lemmas.List.Sums.{sum_by-append, sum_by-cons}
use Rattle.svc_history_laws.specs.declared.entry.CutKind.TheVariants as cause
use Rattle.svc_history_laws.specs.declared.entry.Entry.{Entry}
use Rattle.svc_report.specs.Counting.{one_where}
use Rattle.svc_report.specs.Summary.{is_cause}
use Rattle.svc_task_runs.specs.declared.task_run.TaskRun.{TaskRun}
use Rattle.svc_task_runs.specs.Runs.{Runs, is_load, is_store, no_runs, step}
use Rattle.svc_profile.specs.declared.totals.Group.TheVariants as group
use Rattle.svc_profile.specs.Meetings.{settled_by}
use Rattle.svc_profile.specs.Profile.{is_of}
use Rattle.svc_instruction_profile.specs.declared.charge.Charge.{Charge}
use Rattle.svc_instruction_profile.specs.declared.cost.Expense.{Expense}
use Rattle.svc_instruction_profile.specs.declared.cost.Expense.TheVariants as expense
use Rattle.svc_instruction_profile.specs.Charges.{address_of, between, charged_where, charges_at, charges_from, charges_of, is_load_of, is_output, loads_lost, lost_by, own_charges, reader_charge, reader_of}
use Rattle.svc_instruction_profile.specs.Rows.{one_of}
use Rattle.svc_instruction_profile.specs.Sums.{AsksAt, EachAsksAt, EachIsReadFrom}
use Rattle.svc_instruction_profile.proofs.CostRows.{as_one, charges_in}

no_address : {X : Type 0} → IsSome (let none : Option ℕ = None in none) → X
no_address some = absurd (both_ways false refl some)

-- ---- a charge

-- of this kind, where it has an address
pub in_charged : (x y : Expense) (a : Option ℕ) (b : Bool) → (b ≡ true → IsSome a) → charges_in x (charged_where b a y) ≡ cond b (one_of x y) 0
in_charged x y a false some = refl
in_charged x y (Some p) true some = let one = sum_by-cons (as_one x) (record { address = p; expense = y }) [] in omega (arith, one)
in_charged x y None true some = no_address (some refl)

-- of another one
pub other : (x y : Expense) (a : Option ℕ) (b : Bool) → one_of x y ≡ 0 → charges_in x (charged_where b a y) ≡ 0
other x y a false differs = refl
other x y (Some p) true differs = let one = sum_by-cons (as_one x) (record { address = p; expense = y }) [] in omega (arith, one, differs)
other x y None true differs = refl

pub in_both : (x : Expense) (cs ds : List Charge) → charges_in x (cs ++ ds) ≡ charges_in x cs + charges_in x ds
in_both x cs ds = sum_by-append (as_one x) cs ds

-- ---- an entry

-- what an entry is charged itself
abbrev pub own_count : Expense → Entry → ℕ
own_count x e =
    cond (is_load e.reply) (one_of x expense.Load) 0 + (cond (is_store e.reply) (one_of x expense.Store) 0
    + (cond (is_output e.reply) (one_of x expense.Output) 0 + cond (is_cause cause.Violation e.cause) (one_of x expense.Found) 0))

own_in : (x : Expense) (a : Option ℕ) (e : Entry) → one_of x expense.Asked ≡ 0 → AsksAt a e → charges_in x (own_charges a e) ≡ own_count x e
own_in x a e differs asks =
    let asked = charged_where true a expense.Asked in
    let load = charged_where (is_load e.reply) a expense.Load in
    let store = charged_where (is_store e.reply) a expense.Store in
    let output = charged_where (is_output e.reply) a expense.Output in
    let found = charged_where (is_cause cause.Violation e.cause) a expense.Found in
    let none = other x expense.Asked a true differs in
    let loads = in_charged x expense.Load a (is_load e.reply) asks.loads in
    let stores = in_charged x expense.Store a (is_store e.reply) asks.stores in
    let outputs = in_charged x expense.Output a (is_output e.reply) asks.outputs in
    let violations = in_charged x expense.Found a (is_cause cause.Violation e.cause) asks.violation in
    let one = in_both x asked (load ++ (store ++ (output ++ (found ++ [])))) in
    let two = in_both x load (store ++ (output ++ (found ++ []))) in
    let three = in_both x store (output ++ (found ++ [])) in
    let four = in_both x output (found ++ []) in
    let five = in_both x found [] in
    omega (arith, none, loads, stores, outputs, violations, one, two, three, four, five)

pub entry_in : (x : Expense) → one_of x expense.Asked ≡ 0 → (asked : List (Option ℕ)) (all : List Entry) (at : ℕ) (e : Entry) (rs : List TaskRun) → AsksAt (address_of asked (Some at)) e
    → charges_in x (charges_at asked all at e rs) ≡ own_count x e + (charges_in x (reader_charge asked all at e rs) + charges_in x (flat_map (lost_by asked all at) (settled_by at e rs)))
entry_in x differs asked all at e rs asks =
    let own = own_charges (address_of asked (Some at)) e in
    let reader = reader_charge asked all at e rs in
    let lost = flat_map (lost_by asked all at) (settled_by at e rs) in
    let both = in_both x (own ++ reader) lost in
    let first = in_both x own reader in
    let mine = own_in x (address_of asked (Some at)) e differs asks in
    omega (arith, both, first, mine)

-- differs load is lost
no_loads : (x : Expense) → one_of x expense.Lost ≡ 0 → (r : TaskRun) (asked : List (Option ℕ)) (es : List Entry) → charges_in x (loads_lost r asked es) ≡ 0
no_loads x differs r asked [] = refl
no_loads x differs r [] (e ∷ es) = refl
no_loads x differs r (a ∷ asked) (e ∷ es) =
    let both = in_both x (charged_where (is_load_of r e) a expense.Lost) (loads_lost r asked es) in
    let first = other x expense.Lost a (is_load_of r e) differs in
    let rest = no_loads x differs r asked es in
    omega (arith, both, first, rest)

no_lost : (x : Expense) → one_of x expense.Lost ≡ 0 → (asked : List (Option ℕ)) (all : List Entry) (at : ℕ) (rs : List TaskRun) → charges_in x (flat_map (lost_by asked all at) rs) ≡ 0
no_lost x differs asked all at [] = refl
no_lost x differs asked all at (r ∷ rs) =
    let both = in_both x (lost_by asked all at r) (flat_map (lost_by asked all at) rs) in
    let first = by (is_of group.Squashed r.fate) in
    let rest = no_lost x differs asked all at rs in
    omega (arith, both, first, rest)
  where
    by : (b : Bool) → charges_in x (cond b (loads_lost r (between r.first (suc at) asked) (between r.first (suc at) all)) []) ≡ 0
    by true = no_loads x differs r (between r.first (suc at) asked) (between r.first (suc at) all)
    by false = refl

-- ---- the entries from an index on

-- each of them asks at its address
unfoldable pub EachFrom : List (Option ℕ) → ℕ → List Entry → Type 0
EachFrom asked at [] = Unit {0}
EachFrom asked at (e ∷ es) = AsksAt (address_of asked (Some at)) e × EachFrom asked (suc at) es

shifted : (a : Option ℕ) (asked : List (Option ℕ)) (at : ℕ) (es : List Entry) → EachFrom asked at es → EachFrom (a ∷ asked) (suc at) es
unfolding EachFrom
shifted a asked at [] all = tt
shifted a asked at (e ∷ es) all = (all.0, shifted a asked (suc at) es all.1)

pub each_from : (asked : List (Option ℕ)) (es : List Entry) → EachAsksAt asked es → EachFrom asked 0 es
unfolding EachFrom
each_from [] [] all = tt
each_from (a ∷ asked) [] all = tt
each_from [] (e ∷ es) all = absurd all
each_from (a ∷ asked) (e ∷ es) all = (all.0, shifted a asked 0 es (each_from asked es all.1))

-- a kind of charge that only entries themselves make
pub record IsOwn (x : Expense) (p : Entry → Bool) : Type 0 where
  pub asked : one_of x expense.Asked ≡ 0
  pub suffered : one_of x expense.Suffered ≡ 0
  pub lost : one_of x expense.Lost ≡ 0
  pub own : (e : Entry) → own_count x e ≡ one_where (p e)

pub zero_either : (b : Bool) → ◌≡◌ {A = ℕ} (cond b 0 0) 0
zero_either true = refl
zero_either false = refl

pub own_loads : IsOwn expense.Load (λ e. is_load e.reply)
own_loads = record {
  asked = refl;
  suffered = refl;
  lost = refl;
  own = λ e.
      let s = zero_either (is_store e.reply) in
      let o = zero_either (is_output e.reply) in
      let f = zero_either (is_cause cause.Violation e.cause) in
      omega (arith, s, o, f);
}

pub own_stores : IsOwn expense.Store (λ e. is_store e.reply)
own_stores = record {
  asked = refl;
  suffered = refl;
  lost = refl;
  own = λ e.
      let l = zero_either (is_load e.reply) in
      let o = zero_either (is_output e.reply) in
      let f = zero_either (is_cause cause.Violation e.cause) in
      omega (arith, l, o, f);
}

pub own_outputs : IsOwn expense.Output (λ e. is_output e.reply)
own_outputs = record {
  asked = refl;
  suffered = refl;
  lost = refl;
  own = λ e.
      let l = zero_either (is_load e.reply) in
      let s = zero_either (is_store e.reply) in
      let f = zero_either (is_cause cause.Violation e.cause) in
      omega (arith, l, s, f);
}

pub own_found : IsOwn expense.Found (λ e. is_cause cause.Violation e.cause)
own_found = record {
  asked = refl;
  suffered = refl;
  lost = refl;
  own = λ e.
      let l = zero_either (is_load e.reply) in
      let s = zero_either (is_store e.reply) in
      let o = zero_either (is_output e.reply) in
      omega (arith, l, s, o);
}

own_from : (x : Expense) (p : Entry → Bool) → IsOwn x p → (asked : List (Option ℕ)) (all : List Entry) (s : Runs) (at : ℕ) (es : List Entry) → EachFrom asked at es
    → charges_in x (charges_from asked all s at es) ≡ count_by p es
unfolding EachFrom charges_from
own_from x p is asked all s at [] asks = refl
own_from x p is asked all s at (e ∷ es) asks =
    let both = in_both x (charges_at asked all at e s.active) (charges_from asked all (step at e s) (suc at) es) in
    let here = entry_in x is.asked asked all at e s.active asks.0 in
    let own = is.own e in
    let reader = other x expense.Suffered (reader_of asked all at e s.active) (is_cause cause.Violation e.cause) is.suffered in
    let lost = no_lost x is.lost asked all at (settled_by at e s.active) in
    let rest = own_from x p is asked all (step at e s) (suc at) es asks.1 in
    let whole = sum_by-cons (λ e. one_where (p e)) e es in
    omega (arith, both, here, own, reader, lost, rest, whole)

-- what the entries themselves are charged
pub own_all : (x : Expense) (p : Entry → Bool) → IsOwn x p → (asked : List (Option ℕ)) (es : List Entry) → EachAsksAt asked es → charges_in x (charges_of asked es) ≡ count_by p es
own_all x p is asked es asks = own_from x p is asked es no_runs 0 es (each_from asked es asks)

-- ---- the violations suffered

suffered_none : (e : Entry) → own_count expense.Suffered e ≡ 0
suffered_none e =
    let l = zero_either (is_load e.reply) in
    let s = zero_either (is_store e.reply) in
    let o = zero_either (is_output e.reply) in
    let f = zero_either (is_cause cause.Violation e.cause) in
    omega (arith, l, s, o, f)

suffered_from : (asked : List (Option ℕ)) (all : List Entry) (s : Runs) (at : ℕ) (es : List Entry) → EachFrom asked at es → EachIsReadFrom asked all s at es
    → charges_in expense.Suffered (charges_from asked all s at es) ≡ count_by (λ e. is_cause cause.Violation e.cause) es
unfolding EachFrom EachIsReadFrom charges_from
suffered_from asked all s at [] asks read = refl
suffered_from asked all s at (e ∷ es) asks read =
    let x = expense.Suffered in
    let both = in_both x (charges_at asked all at e s.active) (charges_from asked all (step at e s) (suc at) es) in
    let here = entry_in x refl asked all at e s.active asks.0 in
    let own = suffered_none e in
    let reader = in_charged x x (reader_of asked all at e s.active) (is_cause cause.Violation e.cause) read.0 in
    let lost = no_lost x refl asked all at (settled_by at e s.active) in
    let rest = suffered_from asked all (step at e s) (suc at) es asks.1 read.1 in
    let whole = sum_by-cons (λ e. one_where (is_cause cause.Violation e.cause)) e es in
    omega (arith, both, here, own, reader, lost, rest, whole)

pub suffered_all : (asked : List (Option ℕ)) (es : List Entry) → EachAsksAt asked es → EachIsReadFrom asked es no_runs 0 es
    → charges_in expense.Suffered (charges_of asked es) ≡ count_by (λ e. is_cause cause.Violation e.cause) es
suffered_all asked es asks read = suffered_from asked es no_runs 0 es (each_from asked es asks) read
