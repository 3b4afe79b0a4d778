-- The rows of units, one unit more.
use Rattle.std.proofs.Common.{◌≡◌, ◌∙◌, ◌+◌, ◌≤◌, ◌++◌, ◌∷◌, [], ℕ, zero, suc, List, length, ap, arith}
use Rattle.std.specs.Prelude.{flat_map}
use Rattle.std.specs.List.{AllByRecursion, range_with_len}
use Rattle.std.proofs.lemmas.List.{append-nil}
use Rattle.std.proofs.lemmas.List.Concat.{flat_map-append}
use Rattle.std.proofs.lemmas.List.Sums.{count_by-le-length, length-filter}
use Rattle.svc_task_runs.specs.declared.task_run.TaskRun.{TaskRun}
use Rattle.svc_task_runs.specs.Bounds.{IsLight}
use Rattle.svc_profile.specs.Units.{is_on, tasks_on}
use Rattle.svc_task_runs.proofs.Begun.{all_filter}

-- a range with one number more
pub range_more : (a n : ℕ) → range_with_len a (suc n) ≡ range_with_len a n ++ (a + n) ∷ []
range_more a zero = let e : a ≡ a + 0 = omega arith in ap (λ (x : ℕ). x ∷ []) e
range_more a (suc n) =
    let e : (a + 1) + n ≡ a + suc n = omega arith in
    ap (λ (l : List ℕ). a ∷ l) (range_more (a + 1) n ∙ ap (λ (x : ℕ). range_with_len (a + 1) n ++ x ∷ []) e)

-- what a function gives over one number more
pub flat_more : {A : Type 0} (f : ℕ → List A) (n : ℕ) → flat_map f (range_with_len 0 (n + 1)) ≡ flat_map f (range_with_len 0 n) ++ f n
flat_more f n =
    let e : n + 1 ≡ suc n = omega arith in
    let last : 0 + n ≡ n = omega arith in
    ap (λ (m : ℕ). flat_map f (range_with_len 0 m)) e ∙ ap (flat_map f) (range_more 0 n)
    ∙ ap (λ (m : ℕ). flat_map f (range_with_len 0 n ++ m ∷ [])) last ∙ flat_map-append f (range_with_len 0 n) (n ∷ [])
    ∙ ap (λ l. flat_map f (range_with_len 0 n) ++ l) (append-nil (f n))

-- a unit ran no more tasks than there are, and none that did more
pub few_on : (rs : List TaskRun) (unit : ℕ) → length rs ≤ 1000000 → length (tasks_on rs unit) ≤ 1000000
few_on rs unit few =
    let some : length (tasks_on rs unit) ≡ _ = length-filter (is_on unit) rs in
    let most = count_by-le-length (is_on unit) rs in
    omega (arith, some, most, few)

pub light_on : (rs : List TaskRun) (unit : ℕ) → AllByRecursion (IsLight 1000000) rs → AllByRecursion (IsLight 1000000) (tasks_on rs unit)
light_on rs unit light = all_filter (IsLight 1000000) (is_on unit) rs light
