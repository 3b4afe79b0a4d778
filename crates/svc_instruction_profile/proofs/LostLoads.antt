-- The loads that are charged as lost are those of the squashed tasks.
use Rattle.std.proofs.Common.{◌≡◌, ◌∙◌, ◌+◌, ◌-◌, ◌<◌, ◌≤◌, ◌==◌, ◌++◌, ◌∷◌, [], ◌&&◌, ℕ, zero, suc, List, Bool, true, false, cond, min, Option, Some, take, drop, map, slice_get, refl, ap, sym, arith}
use Rattle.std.specs.Prelude.{count_by, flat_map}
use Rattle.std.specs.List.{AllByRecursion, filter}
use Rattle.std.proofs.lemmas.Bool.{both_ways}
use Rattle.std.proofs.lemmas.Option.{none-some, same_Some}
use Rattle.std.proofs.lemmas.List.Sums.{sum_by-append, sum_by-cons}
use Rattle.svc_history_laws.specs.declared.entry.CutKind.TheVariants as cause
use Rattle.svc_history_laws.specs.declared.entry.Entry.{Entry}
use Rattle.svc_history_laws.specs.declared.entry.Kind.{Kind}
use Rattle.svc_history_laws.specs.declared.entry.Kind.TheVariants.{Assign, Submit, Replace, Cancel, Commit}
use Rattle.svc_report.specs.Counting.{one_where}
use Rattle.svc_report.specs.Summary.{is_cause, is_kind}
use Rattle.svc_task_runs.specs.declared.task_run.Fate.{Fate}
use Rattle.svc_task_runs.specs.declared.task_run.Fate.TheVariants as fate
use Rattle.svc_task_runs.specs.declared.task_run.TaskRun.{TaskRun}
use Rattle.svc_task_runs.specs.Runs.{Runs, after, begun, goes_on, is_active, is_load, is_settled, is_store, is_submit_of, no_runs, runs_from, runs_of, step, tasks_of, turns_in}
use Rattle.svc_task_runs.proofs.Begun.{all_both, all_filter}
use Rattle.svc_profile.specs.declared.totals.Group.TheVariants as group
use Rattle.svc_profile.specs.declared.totals.Measure.TheVariants as measure
use Rattle.svc_profile.specs.declared.totals.Total.{Total}
use Rattle.svc_profile.specs.Meetings.{settled_by}
use Rattle.svc_profile.specs.Profile.{is_of, part_of, total, total_of}
use Rattle.svc_instruction_profile.specs.declared.cost.Expense.TheVariants as expense
use Rattle.svc_instruction_profile.specs.Charges.{between, charged_where, charges_at, charges_from, charges_of, is_load_of, is_output, loads_lost, lost_by, reader_of}
use Rattle.svc_instruction_profile.specs.Sums.{EachAsksAt}
use Rattle.svc_instruction_profile.proofs.CostRows.{charges_in}
use Rattle.svc_instruction_profile.proofs.Totals.{EachFrom, each_from, entry_in, in_both, in_charged, other, own_count, zero_either}

-- the loads of squashed tasks
abbrev lost_total : Total
lost_total = total_of measure.Loads group.Squashed

-- ---- among some entries

both_hold : (a b : Bool) → (a && b) ≡ true → b ≡ true
both_hold true b h = h
both_hold false b h = absurd (both_ways false refl h)

loads_among : (r : TaskRun) (asked : List (Option ℕ)) (es : List Entry) → EachAsksAt asked es → charges_in expense.Lost (loads_lost r asked es) ≡ count_by (is_load_of r) es
loads_among r [] [] asks = refl
loads_among r (a ∷ asked) [] asks = refl
loads_among r [] (e ∷ es) asks = absurd asks
loads_among r (a ∷ asked) (e ∷ es) asks =
    let both = in_both expense.Lost (charged_where (is_load_of r e) a expense.Lost) (loads_lost r asked es) in
    let first = in_charged expense.Lost expense.Lost a (is_load_of r e) (λ is. asks.0.loads (both_hold (is_submit_of e r) (is_load e.reply) is)) in
    let rest = loads_among r asked es asks.1 in
    let whole = sum_by-cons (λ e. one_where (is_load_of r e)) e es in
    omega (arith, both, first, rest, whole)

each_drop : (n : ℕ) (asked : List (Option ℕ)) (es : List Entry) → EachAsksAt asked es → EachAsksAt (drop n asked) (drop n es)
each_drop zero asked es asks = asks
each_drop (suc n) [] [] asks = tt
each_drop (suc n) (a ∷ asked) [] asks = absurd asks
each_drop (suc n) [] (e ∷ es) asks = absurd asks
each_drop (suc n) (a ∷ asked) (e ∷ es) asks = each_drop n asked es asks.1

each_take : (n : ℕ) (asked : List (Option ℕ)) (es : List Entry) → EachAsksAt asked es → EachAsksAt (take n asked) (take n es)
each_take zero asked es asks = tt
each_take (suc n) [] [] asks = tt
each_take (suc n) (a ∷ asked) [] asks = absurd asks
each_take (suc n) [] (e ∷ es) asks = absurd asks
each_take (suc n) (a ∷ asked) (e ∷ es) asks = (asks.0, each_take n asked es asks.1)

loads_between : (r : TaskRun) (first last : ℕ) (asked : List (Option ℕ)) (es : List Entry) → EachAsksAt asked es
    → charges_in expense.Lost (loads_lost r (between first last asked) (between first last es)) ≡ count_by (is_load_of r) (between first last es)
loads_between r first last asked es asks =
    let from = min first last in
    loads_among r (between first last asked) (between first last es)
    (each_take (last - from) (drop from asked) (drop from es) (each_drop from asked es asks))

-- ---- one entry more

take_next : (es : List Entry) (n : ℕ) (e : Entry) → slice_get es n ≡ Some e → take (suc n) es ≡ take n es ++ e ∷ []
take_next [] n e h = absurd (none-some e h)
take_next (x ∷ es) zero e h = ap (λ y. y ∷ []) (same_Some x e h)
take_next (x ∷ es) (suc n) e h = ap (λ l. x ∷ l) (take_next es n e h)

pub get_behind : (es : List Entry) (n m : ℕ) → slice_get (drop n es) m ≡ slice_get es (n + m)
get_behind es zero m = ap (slice_get es) (let same : m ≡ 0 + m = omega arith in same)
get_behind [] (suc n) m = refl
get_behind (x ∷ es) (suc n) m = get_behind es n m ∙ ap (slice_get (x ∷ es)) (let same : suc (n + m) ≡ suc n + m = omega arith in same)

between_more : (first at : ℕ) (es : List Entry) (e : Entry) → first ≤ at → slice_get es at ≡ Some e → between first (suc at) es ≡ between first at es ++ e ∷ []
between_more first at es e begun there =
    let low : min first (suc at) ≡ first = omega (arith, begun) in
    let same : min first at ≡ first = omega (arith, begun) in
    let n : suc at - first ≡ suc (at - first) = omega (arith, begun) in
    let back : first + (at - first) ≡ at = omega (arith, begun) in
    ap (λ k. take (suc at - k) (drop k es)) low
    ∙ ap (λ k. take k (drop first es)) n
    ∙ take_next (drop first es) (at - first) e (get_behind es first (at - first) ∙ ap (slice_get es) back ∙ there)
    ∙ ap (λ k. take (at - k) (drop k es) ++ e ∷ []) (sym same)

-- ---- what a task has loaded

-- a task began before the entry at this index, and its loads are those of the entries since
pub record HasLoads (all : List Entry) (at : ℕ) (r : TaskRun) : Type 0 where
  pub begun : r.first < at
  pub loads : r.loads ≡ count_by (is_load_of r) (between r.first at all)

count_more : (p : Entry → Bool) (es : List Entry) (e : Entry) → count_by p (es ++ e ∷ []) ≡ count_by p es + one_where (p e)
count_more p es e =
    let both = sum_by-append (λ e. one_where (p e)) es (e ∷ []) in
    let one = sum_by-cons (λ e. one_where (p e)) e [] in
    omega (arith, both, one)

-- an entry changes neither a task's unit nor where it began
same_unit : (e : Entry) (r : TaskRun) (b : Bool)
    → (let now : TaskRun = cond b (record r { turns = r.turns + turns_in e; loads = r.loads + one_where (is_load e.reply); stores = r.stores + one_where (is_store e.reply) }) r in
    (now.unit ≡ r.unit) × (now.first ≡ r.first) × (now.loads ≡ r.loads + one_where (b && is_load e.reply)))
same_unit e r true = (refl, refl, refl)
same_unit e r false = (refl, refl, omega arith)

after_unit : (at : ℕ) (e : Entry) (r : TaskRun) → ((after at e r).unit ≡ r.unit) × ((after at e r).first ≡ r.first) × ((after at e r).loads ≡ r.loads + one_where (is_load_of r e))
unfolding after
after_unit at e r = same_unit e r (is_submit_of e r)

goes_further : (all : List Entry) (at : ℕ) (e : Entry) (r : TaskRun) → slice_get all at ≡ Some e → HasLoads all at r → HasLoads all (suc at) (after at e r)
goes_further all at e r there has =
    let now = after at e r in
    let same = after_unit at e r in
    let begun = has.begun in
    let first = same.1 in
    let loads = has.loads in
    let more = between_more r.first at all e (omega (arith, begun)) there in
    let count : count_by (is_load_of r) (between r.first (suc at) all) ≡ count_by (is_load_of r) (between r.first at all) + one_where (is_load_of r e) =
    ap (count_by (is_load_of r)) more ∙ count_more (is_load_of r) (between r.first at all) e in
    let by : count_by (is_load_of now) (between now.first (suc at) all) ≡ count_by (is_load_of r) (between r.first (suc at) all) =
    ap (λ u. count_by (λ e. (is_kind Submit e.kind && (e.unit.0 == u.0)) && is_load e.reply) (between now.first (suc at) all)) same.0
    ∙ ap (λ f. count_by (is_load_of r) (between f (suc at) all)) same.1 in
    let grown = same.2 in
    record { begun = omega (arith, begun, first); loads = omega (arith, grown, loads, count, by) }

all_further : (all : List Entry) (at : ℕ) (e : Entry) (rs : List TaskRun) → slice_get all at ≡ Some e → AllByRecursion (HasLoads all at) rs → AllByRecursion (HasLoads all (suc at)) (map (after at e) rs)
all_further all at e [] there has = tt
all_further all at e (r ∷ rs) there has = (goes_further all at e r there has.0, all_further all at e rs there has.1)

-- a task that begins has loaded nothing
begins : (k : Kind) (all : List Entry) (at : ℕ) (e : Entry) (s : Runs) → e.kind ≡ k → slice_get all at ≡ Some e → AllByRecursion (HasLoads all (suc at)) (begun k at e s)
begins Assign all at e s is there = (record { begun = omega arith; loads = sym none }, tt)
  where
    none : count_by (λ (x : Entry). (is_kind Submit x.kind && (x.unit.0 == e.unit.0)) && is_load x.reply) (between at (suc at) all) ≡ 0
    none =
        let p : Entry → Bool = λ (x : Entry). (is_kind Submit x.kind && (x.unit.0 == e.unit.0)) && is_load x.reply in
        let low : min at at ≡ at = omega arith in
        let no : at - at ≡ 0 = omega arith in
        let start : between at at all ≡ [] = ap (λ k. take (at - k) (drop k all)) low ∙ ap (λ k. take k (drop at all)) no in
        let not_it : p e ≡ false = ap (λ k. (is_kind Submit k && (e.unit.0 == e.unit.0)) && is_load e.reply) is in
        let here = ap (count_by p) (between_more at at all e (omega arith) there ∙ ap (λ l. l ++ e ∷ []) start) in
        let more = count_more p [] e in
        let none = ap one_where not_it in
        omega (arith, here, more, none)
begins Submit all at e s is there = tt
begins Replace all at e s is there = tt
begins Cancel all at e s is there = tt
begins Commit all at e s is there = tt

-- ---- the tasks that are settled

part_lost : (asked : List (Option ℕ)) (all : List Entry) (at : ℕ) (r : TaskRun) → EachAsksAt asked all → HasLoads all (suc at) r → charges_in expense.Lost (lost_by asked all at r) ≡ part_of lost_total r
part_lost asked all at r asks has = by (is_of group.Squashed r.fate)
  where
    by : (b : Bool) → charges_in expense.Lost (cond b (loads_lost r (between r.first (suc at) asked) (between r.first (suc at) all)) []) ≡ cond b r.loads 0
    by true = loads_between r r.first (suc at) asked all asks ∙ sym has.loads
    by false = refl

parts_lost : (asked : List (Option ℕ)) (all : List Entry) (at : ℕ) (rs : List TaskRun) → EachAsksAt asked all → AllByRecursion (HasLoads all (suc at)) rs
    → charges_in expense.Lost (flat_map (lost_by asked all at) rs) ≡ total rs lost_total
parts_lost asked all at [] asks has = refl
parts_lost asked all at (r ∷ rs) asks has =
    let both = in_both expense.Lost (lost_by asked all at r) (flat_map (lost_by asked all at) rs) in
    let first = part_lost asked all at r asks has.0 in
    let rest = parts_lost asked all at rs asks has.1 in
    let whole = sum_by-cons (part_of lost_total) r rs in
    omega (arith, both, first, rest, whole)

lost_none : (e : Entry) → own_count expense.Lost e ≡ 0
lost_none e =
    let l = zero_either (is_load e.reply) in
    let s = zero_either (is_store e.reply) in
    let o = zero_either (is_output e.reply) in
    let f = zero_either (is_cause cause.Violation e.cause) in
    omega (arith, l, s, o, f)

pub get_first : (es : List Entry) (n : ℕ) (e : Entry) (rest : List Entry) → drop n es ≡ e ∷ rest → slice_get es n ≡ Some e
get_first es n e rest is =
    let same : n + 0 ≡ n = omega arith in
    ap (slice_get es) (sym same) ∙ sym (get_behind es n 0) ∙ ap (λ l. slice_get l 0) is

pub drop_next : (es : List Entry) (n : ℕ) (e : Entry) (rest : List Entry) → drop n es ≡ e ∷ rest → drop (suc n) es ≡ rest
drop_next [] zero e rest is = cc
drop_next [] (suc n) e rest is = cc
drop_next (x ∷ es) zero e rest is = cc
drop_next (x ∷ es) (suc n) e rest is = drop_next es n e rest is

lost_from : (asked : List (Option ℕ)) (all : List Entry) (s : Runs) (at : ℕ) (es : List Entry) → EachAsksAt asked all → EachFrom asked at es → drop at all ≡ es
    → AllByRecursion (HasLoads all at) s.active
    → total s.settled lost_total + charges_in expense.Lost (charges_from asked all s at es) ≡ total (runs_from s at es).settled lost_total
unfolding EachFrom charges_from runs_from step
lost_from asked all s at [] asks from is has = omega arith
lost_from asked all s at (e ∷ es) asks from is has =
    let x = expense.Lost in
    let there = get_first all at e es is in
    let further = all_further all at e s.active there has in
    let both = in_both x (charges_at asked all at e s.active) (charges_from asked all (step at e s) (suc at) es) in
    let here = entry_in x refl asked all at e s.active from.0 in
    let own = lost_none e in
    let reader = other x expense.Suffered (reader_of asked all at e s.active) (is_cause cause.Violation e.cause) refl in
    let lost = parts_lost asked all at (settled_by at e s.active) asks (all_filter (HasLoads all (suc at)) is_settled (map (after at e) s.active) further) in
    let settled : total (s.settled ++ settled_by at e s.active) lost_total ≡ total s.settled lost_total + total (settled_by at e s.active) lost_total =
    sum_by-append (part_of lost_total) s.settled (settled_by at e s.active) in
    let rest = lost_from asked all (step at e s) (suc at) es asks from.1 (drop_next all at e es is)
    (all_both (HasLoads all (suc at)) (filter goes_on (map (after at e) s.active)) (begun e.kind at e s)
    (all_filter (HasLoads all (suc at)) goes_on (map (after at e) s.active) further) (begins e.kind all at e s refl there)) in
    omega (arith, both, here, own, reader, lost, settled, rest)

-- ---- no active task was squashed

abbrev IsSpared : TaskRun → Type 0
IsSpared r = is_of group.Squashed r.fate ≡ false

none_lost : (rs : List TaskRun) → AllByRecursion IsSpared rs → total rs lost_total ≡ 0
none_lost [] all = refl
none_lost (r ∷ rs) all =
    let whole = sum_by-cons (part_of lost_total) r rs in
    let first : part_of lost_total r ≡ 0 = ap (λ (b : Bool). cond b r.loads 0) all.0 in
    let rest = none_lost rs all.1 in
    omega (arith, whole, first, rest)

spared : (f : Fate) → is_active f ≡ true → is_of group.Squashed f ≡ false
spared fate.Active is = refl
spared fate.Committed is = absurd (both_ways false refl is)
spared fate.Violation is = absurd (both_ways false refl is)
spared fate.Guess is = absurd (both_ways false refl is)
spared fate.Cancel is = absurd (both_ways false refl is)

spared_on : (rs : List TaskRun) → AllByRecursion IsSpared (filter goes_on rs)
spared_on [] = tt
spared_on (r ∷ rs) = by (goes_on r) (spared r.fate) (spared_on rs)
  where
    by : (b : Bool) → (b ≡ true → IsSpared r) → AllByRecursion IsSpared (filter goes_on rs) → AllByRecursion IsSpared (cond b (r ∷ filter goes_on rs) (filter goes_on rs))
    by true one rest = (one refl, rest)
    by false one rest = rest

begun_spared : (k : Kind) (at : ℕ) (e : Entry) (s : Runs) → AllByRecursion IsSpared (begun k at e s)
begun_spared Assign at e s = (refl, tt)
begun_spared Submit at e s = tt
begun_spared Replace at e s = tt
begun_spared Cancel at e s = tt
begun_spared Commit at e s = tt

active_spared : (s : Runs) (at : ℕ) (es : List Entry) → AllByRecursion IsSpared s.active → AllByRecursion IsSpared (runs_from s at es).active
unfolding runs_from step
active_spared s at [] all = all
active_spared s at (e ∷ es) all =
    active_spared (step at e s) (suc at) es
    (all_both IsSpared (filter goes_on (map (after at e) s.active)) (begun e.kind at e s) (spared_on (map (after at e) s.active)) (begun_spared e.kind at e s))

pub lost_all : (asked : List (Option ℕ)) (es : List Entry) → EachAsksAt asked es → charges_in expense.Lost (charges_of asked es) ≡ total (tasks_of es) lost_total
lost_all asked es asks =
    let both : total (tasks_of es) lost_total ≡ total (runs_of es).settled lost_total + total (runs_of es).active lost_total =
    sum_by-append (part_of lost_total) (runs_of es).settled (runs_of es).active in
    let settled = lost_from asked es no_runs 0 es asks (each_from asked es asks) refl tt in
    let active = none_lost (runs_of es).active (active_spared no_runs 0 es tt) in
    omega (arith, both, settled, active)
