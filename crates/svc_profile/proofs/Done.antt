-- What tasks did together is what the entries tell of it, where each entry is of one task alone.
use Rattle.std.proofs.Common.{◌≡◌, ◌+◌, ◌∷◌, [], ℕ, suc, List, Bool, true, false, cond, map, refl, arith}
use Rattle.std.specs.Prelude.{count_by}
use Rattle.std.specs.List.{filter, sum_by}
use Rattle.std.proofs.lemmas.List.Filters.{sum_by-filter_both}
use Rattle.std.proofs.lemmas.List.Sums.{sum_by-append, sum_by-cons}
use Rattle.svc_history_laws.specs.declared.entry.Entry.{Entry}
use Rattle.svc_history_laws.specs.declared.entry.Kind.{Kind}
use Rattle.svc_history_laws.specs.declared.entry.Kind.TheVariants.{Assign, Submit, Replace, Cancel, Commit}
use Rattle.svc_report.specs.Counting.{one_where}
use Rattle.svc_task_runs.specs.declared.task_run.TaskRun.{TaskRun}
use Rattle.svc_profile.specs.declared.totals.Group.TheVariants as group
use Rattle.svc_profile.specs.declared.totals.Measure.TheVariants as measure
use Rattle.svc_profile.specs.Profile.{total, total_of}
use Rattle.svc_task_runs.specs.Runs.{Runs, after, begun, goes_on, is_load, is_settled, is_store, is_submit_of, no_runs, runs_from, step, tasks_of, turns_in}
use Rattle.svc_profile.specs.OneTask.{EachIsOfOneTask, EachRunsOne, RunsOneTask}

-- the tasks do so much of it as there are entries that pass the test
record IsToldBy (d : TaskRun → ℕ) (p : Entry → Bool) : Type 0 where
  more : (at : ℕ) (e : Entry) (r : TaskRun) → d (after at e r) ≡ d r + cond (is_submit_of e r) (one_where (p e)) 0
  none : (k : Kind) (at : ℕ) (e : Entry) (s : Runs) → sum_by d (begun k at e s) ≡ 0
  one : (e : Entry) (s : Runs) → RunsOneTask e s → p e ≡ true → count_by (is_submit_of e) s.active ≡ 1

-- what an entry adds for each of the tasks
abbrev added : (p : Entry → Bool) → Entry → TaskRun → ℕ
added p e r = cond (is_submit_of e r) (one_where (p e)) 0

abbrev done : (TaskRun → ℕ) → Runs → ℕ
done d s = sum_by d s.settled + sum_by d s.active

done_now : (d : TaskRun → ℕ) (p : Entry → Bool) → IsToldBy d p → (at : ℕ) (e : Entry) (rs : List TaskRun)
    → sum_by d (map (after at e) rs) ≡ sum_by d rs + sum_by (added p e) rs
done_now d p told at e [] = omega arith
done_now d p told at e (r ∷ rs) =
    let whole = sum_by-cons d (after at e r) (map (after at e) rs) in
    let was = sum_by-cons d r rs in
    let adds = sum_by-cons (added p e) r rs in
    let first = told.more at e r in
    let rest = done_now d p told at e rs in
    omega (arith, whole, was, adds, first, rest)

nothing_added : (e : Entry) (rs : List TaskRun) → sum_by (λ r. cond (is_submit_of e r) 0 0) rs ≡ 0
nothing_added e [] = refl
nothing_added e (r ∷ rs) =
    let whole = sum_by-cons (λ r. cond (is_submit_of e r) 0 0) r rs in
    let first = by (is_submit_of e r) in
    let rest = nothing_added e rs in
    omega (arith, whole, first, rest)
  where
    none_of : Bool → ℕ
    none_of b = cond b 0 0

    by : (b : Bool) → none_of b ≡ 0
    by true = refl
    by false = refl

added_by_one : (b : Bool) (e : Entry) (rs : List TaskRun) → (b ≡ true → count_by (is_submit_of e) rs ≡ 1)
    → sum_by (λ r. cond (is_submit_of e r) (one_where b) 0) rs ≡ one_where b
added_by_one true e rs one = one refl
added_by_one false e rs one = nothing_added e rs

done_step : (d : TaskRun → ℕ) (p : Entry → Bool) → IsToldBy d p → (at : ℕ) (e : Entry) (s : Runs) → RunsOneTask e s
    → done d (step at e s) ≡ done d s + one_where (p e)
unfolding step
done_step d p told at e s alone =
    let now = map (after at e) s.active in
    let left = sum_by-append d s.settled (filter is_settled now) in
    let right = sum_by-append d (filter goes_on now) (begun e.kind at e s) in
    let none = told.none e.kind at e s in
    let both = sum_by-filter_both goes_on is_settled (λ r. refl) d now in
    let more = done_now d p told at e s.active in
    let one = added_by_one (p e) e s.active (told.one e s alone) in
    omega (arith, left, right, none, both, more, one)

done_from : (d : TaskRun → ℕ) (p : Entry → Bool) → IsToldBy d p → (s : Runs) (at : ℕ) (es : List Entry) → EachRunsOne s at es
    → done d (runs_from s at es) ≡ done d s + count_by p es
unfolding runs_from EachRunsOne
done_from d p told s at [] each = omega arith
done_from d p told s at (e ∷ es) each =
    let first = done_step d p told at e s each.0 in
    let rest = done_from d p told (step at e s) (suc at) es each.1 in
    let all = sum_by-cons (λ e. one_where (p e)) e es in
    omega (arith, first, rest, all)

done_in_all : (d : TaskRun → ℕ) (p : Entry → Bool) → IsToldBy d p → (es : List Entry) → EachIsOfOneTask es → sum_by d (tasks_of es) ≡ count_by p es
done_in_all d p told es each =
    let both = sum_by-append d (runs_from no_runs 0 es).settled (runs_from no_runs 0 es).active in
    let all = done_from d p told no_runs 0 es each in
    omega (arith, both, all)

loads_more : (at : ℕ) (e : Entry) (r : TaskRun) → (after at e r).loads ≡ r.loads + cond (is_submit_of e r) (one_where (is_load e.reply)) 0
unfolding after
loads_more at e r = by (is_submit_of e r)
  where
    by : (b : Bool)
        → (cond b (record r { turns = r.turns + turns_in e; loads = r.loads + one_where (is_load e.reply); stores = r.stores + one_where (is_store e.reply) }) r).loads
        ≡ r.loads + cond b (one_where (is_load e.reply)) 0
    by true = refl
    by false = omega arith

stores_more : (at : ℕ) (e : Entry) (r : TaskRun) → (after at e r).stores ≡ r.stores + cond (is_submit_of e r) (one_where (is_store e.reply)) 0
unfolding after
stores_more at e r = by (is_submit_of e r)
  where
    by : (b : Bool)
        → (cond b (record r { turns = r.turns + turns_in e; loads = r.loads + one_where (is_load e.reply); stores = r.stores + one_where (is_store e.reply) }) r).stores
        ≡ r.stores + cond b (one_where (is_store e.reply)) 0
    by true = refl
    by false = omega arith

no_loads_yet : (k : Kind) (at : ℕ) (e : Entry) (s : Runs) → sum_by (λ r. r.loads) (begun k at e s) ≡ 0
no_loads_yet Assign at e s = refl
no_loads_yet Submit at e s = refl
no_loads_yet Replace at e s = refl
no_loads_yet Cancel at e s = refl
no_loads_yet Commit at e s = refl

no_stores_yet : (k : Kind) (at : ℕ) (e : Entry) (s : Runs) → sum_by (λ r. r.stores) (begun k at e s) ≡ 0
no_stores_yet Assign at e s = refl
no_stores_yet Submit at e s = refl
no_stores_yet Replace at e s = refl
no_stores_yet Cancel at e s = refl
no_stores_yet Commit at e s = refl

pub loads_done : (es : List Entry) → EachIsOfOneTask es → total (tasks_of es) (total_of measure.Loads group.Begun) ≡ count_by (λ e. is_load e.reply) es
loads_done es each =
    done_in_all (λ r. r.loads) (λ e. is_load e.reply) (record { more = loads_more; none = no_loads_yet; one = λ e s alone. alone.loads }) es each

pub stores_done : (es : List Entry) → EachIsOfOneTask es → total (tasks_of es) (total_of measure.Stores group.Begun) ≡ count_by (λ e. is_store e.reply) es
stores_done es each =
    done_in_all (λ r. r.stores) (λ e. is_store e.reply) (record { more = stores_more; none = no_stores_yet; one = λ e s alone. alone.stores }) es each
