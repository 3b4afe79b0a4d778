-- A total over few tasks is small.
use Rattle.std.proofs.Common.{◌≡◌, ◌+◌, ◌*◌, ◌<◌, ◌≤◌, ◌^◌, ◌∷◌, [], ℕ, List, Bool, true, false, cond, length, take, get_or, arith}
use Rattle.std.specs.List.{AllByRecursion}
use Rattle.std.proofs.lemmas.List.Sums.{sum_by-cons, sum_by_more, sum_by-take-le}
use Rattle.svc_task_runs.specs.declared.task_run.TaskRun.{TaskRun}
use Rattle.svc_profile.specs.declared.totals.Measure.{Measure}
use Rattle.svc_profile.specs.declared.totals.Measure.TheVariants as measure
use Rattle.svc_profile.specs.declared.totals.Total.{Total}
use Rattle.svc_task_runs.specs.Bounds.{IsLight}
use Rattle.svc_profile.specs.Profile.{is_of, measured, part_of, total}

measured_few : (m : Measure) (r : TaskRun) → IsLight 1000000 r → measured m r ≤ 514000000
measured_few measure.Tasks r light = omega arith
measured_few measure.Turns r light = omega (arith, light)
measured_few measure.Loads r light = omega (arith, light)
measured_few measure.Stores r light = omega (arith, light)

part_few : (t : Total) (r : TaskRun) → IsLight 1000000 r → part_of t r ≤ 514000000
part_few t r light = by (is_of t.group r.fate) (measured_few t.measure r light)
  where
    by : (b : Bool) → measured t.measure r ≤ 514000000 → cond b (measured t.measure r) 0 ≤ 514000000
    by true few = few
    by false few = omega arith

pub total_few : (t : Total) (rs : List TaskRun) → AllByRecursion (IsLight 1000000) rs → total rs t ≤ 514000000 * length rs
total_few t [] all = omega arith
total_few t (r ∷ rs) all =
    let first = part_few t r all.0 in
    let rest = total_few t rs all.1 in
    let both : total (r ∷ rs) t ≡ part_of t r + total rs t = sum_by-cons (part_of t) r rs in
    omega (arith, first, rest, both)

pub fits : (t : Total) (rs : List TaskRun) (i : ℕ) (d : TaskRun) → i < length rs → length rs ≤ 1000000 → AllByRecursion (IsLight 1000000) rs
    → total (take i rs) t + part_of t (get_or rs i d) < 2 ^ 64
fits t rs i d inside few all =
    let more : total (take (i + 1) rs) t ≡ total (take i rs) t + part_of t (get_or rs i d) = sum_by_more (part_of t) rs i d inside in
    let part : total (take (i + 1) rs) t ≤ total rs t = sum_by-take-le (part_of t) rs (i + 1) in
    let whole = total_few t rs all in
    omega (arith, more, part, whole, few)
