-- How great the numbers of tasks become by one entry more.
use Rattle.std.proofs.Common.{◌≡◌, ◌+◌, ◌<◌, ◌≤◌, ◌++◌, ◌∷◌, [], ℕ, suc, List, Bool, true, false, cond, not, map, length, refl, ap, arith, length-append}
use Rattle.std.specs.List.{AllByRecursion, filter}
use Rattle.svc_history_laws.specs.declared.entry.Entry.{Entry}
use Rattle.svc_history_laws.specs.declared.entry.Kind.{Kind}
use Rattle.svc_history_laws.specs.declared.entry.Kind.TheVariants.{Assign, Submit, Replace, Cancel, Commit}
use Rattle.svc_history_laws.specs.Board.{commits}
use Rattle.svc_report.specs.Counting.{one_where}
use Rattle.svc_task_runs.specs.declared.task_run.TaskRun.{TaskRun}
use Rattle.svc_task_runs.specs.Bounds.{AreFew, IsLight, work}
use Rattle.svc_task_runs.specs.Runs.{Runs, after, begun, goes_on, is_load, is_settled, is_store, is_submit_of, step, turns_in}

one_at_most : (b : Bool) → one_where b ≤ 1
one_at_most true = omega arith
one_at_most false = omega arith

-- the work of a task after an entry that took over few turns
work_after : (at : ℕ) (e : Entry) (r : TaskRun) → turns_in e < 512 → work (after at e r) ≤ work r + 514
unfolding after
work_after at e r few = by (is_submit_of e r)
  where
    by : (b : Bool)
        → work (cond b (record r { turns = r.turns + turns_in e; loads = r.loads + one_where (is_load e.reply); stores = r.stores + one_where (is_store e.reply) }) r) ≤ work r + 514
    by true = let l = one_at_most (is_load e.reply) in let s = one_at_most (is_store e.reply) in omega (arith, few, l, s)
    by false = omega arith

light_after : (at : ℕ) (e : Entry) (rs : List TaskRun) → turns_in e < 512 → AllByRecursion (IsLight at) rs → AllByRecursion (IsLight (at + 1)) (map (after at e) rs)
light_after at e [] few all = tt
light_after at e (r ∷ rs) few all = (let more = work_after at e r few in let was = all.0 in omega (arith, more, was), light_after at e rs few all.1)

lighter : (n : ℕ) (rs : List TaskRun) → AllByRecursion (IsLight n) rs → AllByRecursion (IsLight (n + 1)) rs
lighter n [] all = tt
lighter n (r ∷ rs) all = (let was = all.0 in omega (arith, was), lighter n rs all.1)

light_some : (n : ℕ) (p : TaskRun → Bool) (rs : List TaskRun) → AllByRecursion (IsLight n) rs → AllByRecursion (IsLight n) (filter p rs)
light_some n p [] all = tt
light_some n p (r ∷ rs) all = by (p r) (light_some n p rs all.1)
  where
    by : (b : Bool) → AllByRecursion (IsLight n) (filter p rs) → AllByRecursion (IsLight n) (cond b (r ∷ filter p rs) (filter p rs))
    by true rest = (all.0, rest)
    by false rest = rest

pub light_both : (n : ℕ) (rs qs : List TaskRun) → AllByRecursion (IsLight n) rs → AllByRecursion (IsLight n) qs → AllByRecursion (IsLight n) (rs ++ qs)
light_both n [] qs all more = more
light_both n (r ∷ rs) qs all more = (all.0, light_both n rs qs all.1 more)

pub light_up_to : (n m : ℕ) (rs : List TaskRun) → n ≤ m → AllByRecursion (IsLight n) rs → AllByRecursion (IsLight m) rs
light_up_to n m [] le all = tt
light_up_to n m (r ∷ rs) le all = (let was = all.0 in omega (arith, was, le), light_up_to n m rs le all.1)

-- each of them goes on or is settled
parts : (rs : List TaskRun) → length (filter goes_on rs) + length (filter is_settled rs) ≡ length rs
parts [] = refl
parts (r ∷ rs) = by (goes_on r) (parts rs)
  where
    by : (b : Bool) → length (filter goes_on rs) + length (filter is_settled rs) ≡ length rs
        → length (cond b (r ∷ filter goes_on rs) (filter goes_on rs)) + length (cond (not b) (r ∷ filter is_settled rs) (filter is_settled rs)) ≡ length (r ∷ rs)
    by true rest = omega (arith, rest)
    by false rest = omega (arith, rest)

mapped : (f : TaskRun → TaskRun) (rs : List TaskRun) → length (map f rs) ≡ length rs
mapped f [] = refl
mapped f (r ∷ rs) = ap suc (mapped f rs)

one_begun : (k : Kind) (at : ℕ) (e : Entry) (s : Runs) → length (begun k at e s) ≤ 1
one_begun Assign at e s = omega arith
one_begun Submit at e s = omega arith
one_begun Replace at e s = omega arith
one_begun Cancel at e s = omega arith
one_begun Commit at e s = omega arith

light_begun : (k : Kind) (n at : ℕ) (e : Entry) (s : Runs) → AllByRecursion (IsLight n) (begun k at e s)
light_begun Assign n at e s = (omega arith, tt)
light_begun Submit n at e s = tt
light_begun Replace n at e s = tt
light_begun Cancel n at e s = tt
light_begun Commit n at e s = tt

one_commit : (k : Kind) → commits k ≤ 1
one_commit Assign = omega arith
one_commit Submit = omega arith
one_commit Replace = omega arith
one_commit Cancel = omega arith
one_commit Commit = omega arith

pub few_after : (at : ℕ) (e : Entry) (s : Runs) → turns_in e < 512 → AreFew at s → AreFew (at + 1) (step at e s)
unfolding step
few_after at e s turns few =
    let now = map (after at e) s.active in
    let light : AllByRecursion (IsLight (at + 1)) now = light_after at e s.active turns few.active in
    record {
      commits = let one = one_commit e.kind in let was = few.commits in omega (arith, one, was);
      settled = light_both (at + 1) s.settled (filter is_settled now) (lighter at s.settled few.settled) (light_some (at + 1) is_settled now light);
      active = light_both (at + 1) (filter goes_on now) (begun e.kind at e s) (light_some (at + 1) goes_on now light) (light_begun e.kind (at + 1) at e s);
      count =
          let whole = parts now in
          let same = mapped (after at e) s.active in
          let was = few.count in
          let one = one_begun e.kind at e s in
          let left : length (s.settled ++ filter is_settled now) ≡ length s.settled + length (filter is_settled now) = length-append s.settled (filter is_settled now) in
          let right : length (filter goes_on now ++ begun e.kind at e s) ≡ length (filter goes_on now) + length (begun e.kind at e s) = length-append (filter goes_on now) (begun e.kind at e s) in
          omega (arith, whole, same, was, one, left, right);
    }

-- the tasks of few entries, in one list
pub few_tasks : (n : ℕ) (s : Runs) → n ≤ 1000000 → AreFew n s → length (s.settled ++ s.active) ≤ 1000000
few_tasks n s le few =
    let both : length (s.settled ++ s.active) ≡ length s.settled + length s.active = length-append s.settled s.active in
    let was = few.count in
    omega (arith, both, was, le)

pub light_tasks : (n : ℕ) (s : Runs) → n ≤ 1000000 → AreFew n s → AllByRecursion (IsLight 1000000) (s.settled ++ s.active)
light_tasks n s le few = light_up_to n 1000000 (s.settled ++ s.active) le (light_both n s.settled s.active few.settled few.active)
