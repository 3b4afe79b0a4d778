-- Each task is run by the unit of an entry.
use Rattle.std.proofs.Common.{◌≡◌, ◌+◌, ◌<◌, ◌∷◌, [], ℕ, suc, List, Bool, true, false, cond, map, refl, arith}
use Rattle.std.specs.List.{AllByRecursion, filter}
use Rattle.svc_history_laws.specs.declared.entry.Entry.{Entry}
use Rattle.svc_history_laws.specs.declared.entry.Kind.{Kind}
use Rattle.svc_history_laws.specs.declared.entry.Kind.TheVariants.{Assign, Submit, Replace, Cancel, Commit}
use Rattle.svc_report.specs.Counting.{one_where}
use Rattle.svc_task_runs.specs.declared.task_run.TaskRun.{TaskRun}
use Rattle.svc_task_runs.specs.Runs.{Runs, after, begun, goes_on, is_load, is_settled, is_store, is_submit_of, no_runs, runs_from, step, tasks_of, turns_in}
use Rattle.svc_task_runs.proofs.Begun.{all_both, all_filter}

abbrev IsUnder : ℕ → TaskRun → Type 0
IsUnder n r = r.unit.0 < n

abbrev AreUnder : ℕ → Runs → Type 0
AreUnder n s = AllByRecursion (IsUnder n) s.settled × AllByRecursion (IsUnder n) s.active

same_unit : (at : ℕ) (e : Entry) (r : TaskRun) → (after at e r).unit.0 ≡ r.unit.0
unfolding after
same_unit at e r = by (is_submit_of e r)
  where
    by : (b : Bool)
        → (cond b (record r { turns = r.turns + turns_in e; loads = r.loads + one_where (is_load e.reply); stores = r.stores + one_where (is_store e.reply) }) r).unit.0 ≡ r.unit.0
    by true = refl
    by false = refl

under_after : (n at : ℕ) (e : Entry) (rs : List TaskRun) → AllByRecursion (IsUnder n) rs → AllByRecursion (IsUnder n) (map (after at e) rs)
under_after n at e [] all = tt
under_after n at e (r ∷ rs) all = (let same = same_unit at e r in let was = all.0 in omega (arith, same, was), under_after n at e rs all.1)

under_begun : (k : Kind) (n at : ℕ) (e : Entry) (s : Runs) → e.unit.0 < n → AllByRecursion (IsUnder n) (begun k at e s)
under_begun Assign n at e s under = (under, tt)
under_begun Submit n at e s under = tt
under_begun Replace n at e s under = tt
under_begun Cancel n at e s under = tt
under_begun Commit n at e s under = tt

under_step : (n at : ℕ) (e : Entry) (s : Runs) → e.unit.0 < n → AreUnder n s → AreUnder n (step at e s)
unfolding step
under_step n at e s one under =
    let now = map (after at e) s.active in
    let all : AllByRecursion (IsUnder n) now = under_after n at e s.active under.1 in (
      all_both (IsUnder n) s.settled (filter is_settled now) under.0 (all_filter (IsUnder n) is_settled now all),
      all_both (IsUnder n) (filter goes_on now) (begun e.kind at e s) (all_filter (IsUnder n) goes_on now all) (under_begun e.kind n at e s one),
    )

under_from : (n : ℕ) (s : Runs) (at : ℕ) (es : List Entry) → AllByRecursion (λ e. e.unit.0 < n) es → AreUnder n s → AreUnder n (runs_from s at es)
unfolding runs_from
under_from n s at [] all under = under
under_from n s at (e ∷ es) all under = under_from n (step at e s) (suc at) es all.1 (under_step n at e s all.0 under)

pub all_under : (n : ℕ) (es : List Entry) → AllByRecursion (λ e. e.unit.0 < n) es → AllByRecursion (λ r. r.unit.0 < n) (tasks_of es)
all_under n es all =
    let both = under_from n no_runs 0 es all (tt, tt) in
    all_both (IsUnder n) _ _ both.0 both.1
