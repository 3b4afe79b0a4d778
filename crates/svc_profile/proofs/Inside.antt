-- Each share is of a word that an entry names, and all together are few.
use Rattle.std.proofs.Common.{◌≡◌, ◌+◌, ◌*◌, ◌<◌, ◌≤◌, ◌^◌, ◌++◌, ◌∷◌, [], ℕ, zero, suc, max, List, Bool, true, false, Option, None, Some, length, arith}
use Rattle.std.specs.Prelude.{flat_map}
use Rattle.std.specs.List.{AllByRecursion, sum_by}
use Rattle.std.proofs.lemmas.List.Sums.{sum_by-append}
use Rattle.svc_base.specs.declared.ids.WordAddr.{WordAddr}
use Rattle.svc_history_laws.specs.declared.entry.Entry.{Entry}
use Rattle.svc_report.specs.Counting.{one_where}
use Rattle.svc_profile.specs.Column.{Column}
use Rattle.svc_profile.specs.Column as column
use Rattle.svc_profile.specs.Column.{Share}
use Rattle.svc_task_runs.specs.declared.task_run.Fate.{Fate}
use Rattle.svc_task_runs.specs.declared.task_run.Fate.TheVariants as fate
use Rattle.svc_task_runs.specs.declared.task_run.TaskRun.{TaskRun}
use Rattle.svc_task_runs.specs.Bounds.{IsLight}
use Rattle.svc_profile.specs.Words.{cut_word, end_of, entry_amount, entry_share, share_of, shares_of, task_amount, task_share, word_at, words_end}
use Rattle.svc_task_runs.specs.Runs.{tasks_of}
use Rattle.svc_task_runs.proofs.Begun.{all_both}

abbrev IsInside : ℕ → Share → Type 0
IsInside n s = s.word < n

left_max : (a b n : ℕ) → max a b ≤ n → a ≤ n
left_max a b n le = omega (arith, le)

right_max : (a b n : ℕ) → max a b ≤ n → b ≤ n
right_max a b n le = omega (arith, le)

share_inside : (w : Option WordAddr) (amount n : ℕ) → end_of w ≤ n → AllByRecursion (IsInside n) (share_of w amount)
share_inside None amount n le = tt
share_inside (Some a) amount n le = (omega (arith, le), tt)

entries_inside : (c : Column) (es : List Entry) (n : ℕ) → words_end es ≤ n → AllByRecursion (IsInside n) (flat_map (entry_share c) es)
entries_inside c [] n le = tt
entries_inside c (e ∷ es) n le =
    all_both (IsInside n) (entry_share c e) (flat_map (entry_share c) es) (share_inside e.addr (entry_amount c e) n (left_max (end_of e.addr) (words_end es) n le))
    (entries_inside c es n (right_max (end_of e.addr) (words_end es) n le))

at_inside : (es : List Entry) (at : ℕ) (n : ℕ) → words_end es ≤ n → end_of (word_at es (Some at)) ≤ n
at_inside [] at n le = omega arith
at_inside (e ∷ es) zero n le = left_max (end_of e.addr) (words_end es) n le
at_inside (e ∷ es) (suc at) n le = at_inside es at n (right_max (end_of e.addr) (words_end es) n le)

last_inside : (es : List Entry) (at : Option ℕ) (n : ℕ) → words_end es ≤ n → end_of (word_at es at) ≤ n
last_inside es None n le = omega arith
last_inside es (Some at) n le = at_inside es at n le

cut_inside : (es : List Entry) (f : Fate) (at : Option ℕ) (n : ℕ) → words_end es ≤ n → end_of (cut_word es f at) ≤ n
cut_inside es fate.Violation at n le = last_inside es at n le
cut_inside es fate.Active at n le = omega arith
cut_inside es fate.Committed at n le = omega arith
cut_inside es fate.Guess at n le = omega arith
cut_inside es fate.Cancel at n le = omega arith

tasks_inside : (c : Column) (es : List Entry) (rs : List TaskRun) (n : ℕ) → words_end es ≤ n → AllByRecursion (IsInside n) (flat_map (task_share c es) rs)
tasks_inside c es [] n le = tt
tasks_inside c es (r ∷ rs) n le =
    all_both (IsInside n) (task_share c es r) (flat_map (task_share c es) rs) (share_inside (cut_word es r.fate r.last) (task_amount c r) n (cut_inside es r.fate r.last n le))
    (tasks_inside c es rs n le)

pub all_inside : (c : Column) (es : List Entry) → AllByRecursion (λ (s : Share). s.word < words_end es) (shares_of c es)
all_inside c es =
    let n = words_end es in
    all_both (IsInside n) (flat_map (entry_share c) es) (flat_map (task_share c es) (tasks_of es)) (entries_inside c es n (omega arith)) (tasks_inside c es (tasks_of es) n (omega arith))

-- ---- how much they come to

abbrev amounts : List Share → ℕ
amounts ss = sum_by (λ (s : Share). s.amount) ss

one_at_most : (b : Bool) → one_where b ≤ 1
one_at_most true = omega arith
one_at_most false = omega arith

share_few : (w : Option WordAddr) (amount : ℕ) → sum_by (λ (s : Share). s.amount) (share_of w amount) ≤ amount
share_few None amount = omega arith
share_few (Some a) amount = omega arith

entry_few : (c : Column) (e : Entry) → entry_amount c e ≤ 1
entry_few column.Named e = omega arith
entry_few column.Loads e = one_at_most _
entry_few column.Stores e = one_at_most _
entry_few column.Versions e = one_at_most _
entry_few column.Violations e = one_at_most _
entry_few column.Squashed e = omega arith
entry_few column.Turns e = omega arith

task_few : (c : Column) (r : TaskRun) → IsLight 1000000 r → task_amount c r ≤ 514000000
task_few column.Named r light = omega arith
task_few column.Loads r light = omega arith
task_few column.Stores r light = omega arith
task_few column.Versions r light = omega arith
task_few column.Violations r light = omega arith
task_few column.Squashed r light = omega arith
task_few column.Turns r light = omega (arith, light)

entries_few : (c : Column) (es : List Entry) → amounts (flat_map (entry_share c) es) ≤ length es
entries_few c [] = omega arith
entries_few c (e ∷ es) =
    let both : amounts (entry_share c e ++ flat_map (entry_share c) es) ≡ amounts (entry_share c e) + amounts (flat_map (entry_share c) es) =
    sum_by-append (λ (s : Share). s.amount) (entry_share c e) (flat_map (entry_share c) es) in
    let one : amounts (entry_share c e) ≤ entry_amount c e = share_few e.addr (entry_amount c e) in
    let few = entry_few c e in
    let rest = entries_few c es in
    omega (arith, both, one, few, rest)

tasks_few : (c : Column) (es : List Entry) (rs : List TaskRun) → AllByRecursion (IsLight 1000000) rs → amounts (flat_map (task_share c es) rs) ≤ 514000000 * length rs
tasks_few c es [] light = omega arith
tasks_few c es (r ∷ rs) light =
    let both : amounts (task_share c es r ++ flat_map (task_share c es) rs) ≡ amounts (task_share c es r) + amounts (flat_map (task_share c es) rs) =
    sum_by-append (λ (s : Share). s.amount) (task_share c es r) (flat_map (task_share c es) rs) in
    let one : amounts (task_share c es r) ≤ task_amount c r = share_few (cut_word es r.fate r.last) (task_amount c r) in
    let few = task_few c r light.0 in
    let rest = tasks_few c es rs light.1 in
    omega (arith, both, one, few, rest)

pub all_few : (c : Column) (es : List Entry) → length es ≤ 1000000 → length (tasks_of es) ≤ 1000000 → AllByRecursion (IsLight 1000000) (tasks_of es)
    → sum_by (λ (s : Share). s.amount) (shares_of c es) < 2 ^ 64
all_few c es few some light =
    let both : amounts (shares_of c es) ≡ amounts (flat_map (entry_share c) es) + amounts (flat_map (task_share c es) (tasks_of es)) =
    sum_by-append (λ (s : Share). s.amount) (flat_map (entry_share c) es) (flat_map (task_share c es) (tasks_of es)) in
    let left = entries_few c es in
    let right = tasks_few c es (tasks_of es) light in
    omega (arith, both, left, right, few, some)
