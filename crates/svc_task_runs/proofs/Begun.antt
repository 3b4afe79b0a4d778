-- Each task begins at an entry of its history.
use Rattle.std.proofs.Common.{◌≡◌, ◌+◌, ◌<◌, ◌++◌, ◌∷◌, [], ℕ, suc, List, Bool, true, false, cond, map, length, refl, subst, arith}
use Rattle.std.specs.List.{AllByRecursion, filter}
use Rattle.svc_history_laws.specs.declared.entry.Entry.{Entry}
use Rattle.svc_history_laws.specs.declared.entry.Kind.{Kind}
use Rattle.svc_history_laws.specs.declared.entry.Kind.TheVariants.{Assign, Submit, Replace, Cancel, Commit}
use Rattle.svc_report.specs.Counting.{one_where}
use Rattle.svc_task_runs.specs.declared.task_run.TaskRun.{TaskRun}
use Rattle.svc_task_runs.specs.Runs.{Runs, after, begun, goes_on, is_load, is_settled, is_store, is_submit_of, no_runs, runs_from, step, tasks_of, turns_in}

abbrev IsBefore : ℕ → TaskRun → Type 0
IsBefore n r = r.first < n

pub all_both : {X : Type 0} (P : X → Type 0) (xs ys : List X) → AllByRecursion P xs → AllByRecursion P ys → AllByRecursion P (xs ++ ys)
all_both P [] ys all more = more
all_both P (x ∷ xs) ys all more = (all.0, all_both P xs ys all.1 more)

pub all_filter : {X : Type 0} (P : X → Type 0) (p : X → Bool) (xs : List X) → AllByRecursion P xs → AllByRecursion P (filter p xs)
all_filter P p [] all = tt
all_filter {X} P p (x ∷ xs) all = by (p x) (all_filter P p xs all.1)
  where
    by : (b : Bool) → AllByRecursion P (filter p xs) → AllByRecursion P (cond b (x ∷ filter p xs) (filter p xs))
    by true rest = (all.0, rest)
    by false rest = rest

-- an entry leaves where a task began, and which unit runs it
pub same_first : (at : ℕ) (e : Entry) (r : TaskRun) → (after at e r).first ≡ r.first
unfolding after
same_first at e r = by (is_submit_of e r)
  where
    by : (b : Bool)
        → (cond b (record r { turns = r.turns + turns_in e; loads = r.loads + one_where (is_load e.reply); stores = r.stores + one_where (is_store e.reply) }) r).first ≡ r.first
    by true = refl
    by false = refl

later : (n at : ℕ) (e : Entry) (rs : List TaskRun) → AllByRecursion (IsBefore n) rs → AllByRecursion (IsBefore (suc n)) (map (after at e) rs)
later n at e [] all = tt
later n at e (r ∷ rs) all = (let same = same_first at e r in let was = all.0 in omega (arith, same, was), later n at e rs all.1)

wider : (n : ℕ) (rs : List TaskRun) → AllByRecursion (IsBefore n) rs → AllByRecursion (IsBefore (suc n)) rs
wider n [] all = tt
wider n (r ∷ rs) all = (let was = all.0 in omega (arith, was), wider n rs all.1)

begins_now : (k : Kind) (at : ℕ) (e : Entry) (s : Runs) → AllByRecursion (IsBefore (suc at)) (begun k at e s)
begins_now Assign at e s = (omega arith, tt)
begins_now Submit at e s = tt
begins_now Replace at e s = tt
begins_now Cancel at e s = tt
begins_now Commit at e s = tt

abbrev AreBefore : ℕ → Runs → Type 0
AreBefore n s = AllByRecursion (IsBefore n) s.settled × AllByRecursion (IsBefore n) s.active

before_after : (at : ℕ) (e : Entry) (s : Runs) → AreBefore at s → AreBefore (suc at) (step at e s)
unfolding step
before_after at e s before =
    let now = map (after at e) s.active in
    let all : AllByRecursion (IsBefore (suc at)) now = later at at e s.active before.1 in (
      all_both (IsBefore (suc at)) s.settled (filter is_settled now) (wider at s.settled before.0) (all_filter (IsBefore (suc at)) is_settled now all),
      all_both (IsBefore (suc at)) (filter goes_on now) (begun e.kind at e s) (all_filter (IsBefore (suc at)) goes_on now all) (begins_now e.kind at e s),
    )

before_all : (s : Runs) (at : ℕ) (es : List Entry) → AreBefore at s → AreBefore (at + length es) (runs_from s at es)
unfolding runs_from
before_all s at [] before = let e : at ≡ at + 0 = omega arith in subst (λ (n : ℕ). AreBefore n s) e before
before_all s at (e ∷ es) before =
    let n : suc at + length es ≡ at + length (e ∷ es) = omega arith in
    subst (λ (n : ℕ). AreBefore n (runs_from (step at e s) (suc at) es)) n (before_all (step at e s) (suc at) es (before_after at e s before))

pub all_before : (es : List Entry) → AllByRecursion (λ r. r.first < length es) (tasks_of es)
all_before es =
    let n : 0 + length es ≡ length es = omega arith in
    let both = subst (λ (n : ℕ). AreBefore n (runs_from no_runs 0 es)) n (before_all no_runs 0 es (tt, tt)) in
    all_both (IsBefore (length es)) _ _ both.0 both.1
