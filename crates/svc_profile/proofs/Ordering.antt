-- What a stable sort by the entries at which tasks begin gives: entry by entry, the tasks that begin there.
use Rattle.std.proofs.Common.{◌≡◌, ◌∙◌, ◌<◌, ◌==◌, ◌&&◌, ◌⊎◌, inl, inr, ℕ, List, not, refl, sym, arith, eq-eqb, ne_eqb, lt-ltb, le-ltb}
use Rattle.std.specs.List.{AllByRecursion, range_with_len}
use Rattle.std.specs.List.Sorted.{IsNonDecreasingBy, IsStableByKey, ties}
use Rattle.std.specs.Ordering.{is_lt, nat_cmp}
use Rattle.std.proofs.lemmas.Bool.{cases_order}
use Rattle.std.proofs.lemmas.List.Elements.{filter_agree}
use Rattle.svc_task_runs.specs.declared.task_run.TaskRun.{TaskRun}
use Rattle.svc_profile.specs.Tasks.{begins_at, begun_at, in_order}
use Rattle.svc_profile.proofs.Buckets.{by_number, same_buckets}
use Rattle.svc_task_runs.proofs.Nobody.{nobody}

-- numbers tie where they are one
tie : (m n : ℕ) → (not (is_lt (nat_cmp m n)) && not (is_lt (nat_cmp n m))) ≡ (n == m)
tie m n = by (cases_order m n)
  where
    by : (m ≡ n) ⊎ ((m < n) ⊎ (n < m)) → (not (is_lt (nat_cmp m n)) && not (is_lt (nat_cmp n m))) ≡ (n == m)
    by (inl e) = rw (le-ltb m n (omega (arith, e)), le-ltb n m (omega (arith, e)), eq-eqb m n e, eq-eqb n m (sym e)) refl
    by (inr (inl lt)) = rw (lt-ltb m n lt, ne_eqb n m (λ e. omega (arith, e, lt))) refl
    by (inr (inr lt)) = rw (le-ltb m n (omega (arith, lt)), lt-ltb n m lt, ne_eqb m n (λ e. omega (arith, e, lt)), ne_eqb n m (λ e. omega (arith, e, lt))) refl

-- a stable sort keeps those that begin at an entry
same_begun : (old new : List TaskRun) → IsStableByKey (λ r. r.first) nat_cmp old new → (at : ℕ) → begun_at new at ≡ begun_at old at
same_begun old new stable at =
    let one = record nobody { first = at } in
    let lt = λ (x y : TaskRun). is_lt (nat_cmp x.first y.first) in
    let agree = filter_agree (ties lt one) (begins_at at) (λ r. tie at r.first) in
    sym (agree new) ∙ stable one ∙ agree old

pub is_in_order : (n : ℕ) (old new : List TaskRun) → IsNonDecreasingBy (λ r. r.first) new → IsStableByKey (λ r. r.first) nat_cmp old new
    → AllByRecursion (λ r. r.first < n) new → new ≡ in_order n old
is_in_order n old new up stable all =
    sym (by_number (λ (r : TaskRun). r.first) new n up all) ∙ same_buckets (begun_at new) (begun_at old) (range_with_len 0 n) (same_begun old new stable)
