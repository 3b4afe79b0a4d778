-- The sums over the table of words are those of the profile.
use Rattle.std.proofs.Common.{◌≡◌, ◌∙◌, ◌+◌, ◌∷◌, [], ℕ, List, Bool, true, false, Option, None, Some, cond, refl, ap, ap₂, sym, arith}
use Rattle.std.specs.Prelude.{count_by, flat_map}
use Rattle.std.specs.List.{AllByRecursion, sum_by}
use Rattle.std.specs.Option.{IsSome}
use Rattle.std.proofs.lemmas.List.Sums.{sum_by-append, sum_by-cons}
use Rattle.svc_base.specs.declared.ids.WordAddr.{WordAddr}
use Rattle.svc_history_laws.specs.declared.entry.CutKind.TheVariants as cause
use Rattle.svc_history_laws.specs.declared.entry.Entry.{Entry}
use Rattle.svc_history_laws.specs.declared.entry.ServedKind.TheVariants as served
use Rattle.svc_report.specs.Counting.{one_where}
use Rattle.svc_report.specs.Summary.{counts_of, is_cause, is_supplier}
use Rattle.svc_task_runs.specs.declared.task_run.Fate.{Fate}
use Rattle.svc_task_runs.specs.declared.task_run.Fate.TheVariants as fate
use Rattle.svc_task_runs.specs.declared.task_run.TaskRun.{TaskRun}
use Rattle.svc_profile.specs.declared.totals.Group.TheVariants as group
use Rattle.svc_profile.specs.declared.totals.Measure.TheVariants as measure
use Rattle.svc_profile.specs.declared.totals.Total.{Total}
use Rattle.svc_profile.specs.Profile.{is_of, part_of, total, total_of}
use Rattle.svc_task_runs.specs.Runs.{is_load, is_store, tasks_of}
use Rattle.svc_profile.proofs.Buckets.{sum_flat}
use Rattle.svc_profile.specs.Column.{Column}
use Rattle.svc_profile.specs.Column as column
use Rattle.svc_profile.specs.Column.{Share}
use Rattle.svc_profile.specs.Named.{NamesItsWord}
use Rattle.svc_profile.specs.Words.{count_of, cut_word, entry_amount, entry_share, share_of, shares_of, task_amount, task_share, word_at, words_named}
use Rattle.svc_profile.proofs.Blamed.{HasCause, IsBlamed, all_blamed}
use Rattle.svc_profile.proofs.Unnamed.{rows_come}

abbrev amounts : List Share → ℕ
amounts ss = sum_by (λ (s : Share). s.amount) ss

-- ---- one share

nothing_told : (w : Option WordAddr) → amounts (share_of w 0) ≡ 0
nothing_told None = refl
nothing_told (Some a) = refl

all_told : (w : Option WordAddr) (n : ℕ) → IsSome w → amounts (share_of w n) ≡ n
all_told None n there = let never : false ≡ true = there in grind (arith, never)
all_told (Some a) n there = omega arith

one_told : (b : Bool) (w : Option WordAddr) → (b ≡ true → IsSome w) → amounts (share_of w (one_where b)) ≡ one_where b
one_told true w names = all_told w 1 (names refl)
one_told false w names = nothing_told w

-- ---- sums of equal parts

same_sum : {X : Type 0} (f g : X → ℕ) (xs : List X) → AllByRecursion (λ x. f x ≡ g x) xs → sum_by f xs ≡ sum_by g xs
same_sum f g [] same = refl
same_sum f g (x ∷ xs) same = sum_by-cons f x xs ∙ ap₂ (λ (m n : ℕ). m + n) same.0 (same_sum f g xs same.1) ∙ sym (sum_by-cons g x xs)

no_sum : {X : Type 0} (f : X → ℕ) (xs : List X) → ((x : X) → f x ≡ 0) → sum_by f xs ≡ 0
no_sum f [] none = refl
no_sum f (x ∷ xs) none =
    let both = sum_by-cons f x xs in
    let first = none x in
    let rest = no_sum f xs none in
    omega (arith, both, first, rest)

all_of : {X : Type 0} (P Q : X → Type 0) (xs : List X) → ((x : X) → P x → Q x) → AllByRecursion P xs → AllByRecursion Q xs
all_of P Q [] then all = tt
all_of P Q (x ∷ xs) then all = (then x all.0, all_of P Q xs then all.1)

-- ---- the columns of entries

-- the tasks add nothing to it, and each entry has its part there
entries_come : (c : Column) (p : Entry → Bool) (es : List Entry) → ((r : TaskRun) → task_amount c r ≡ 0)
    → ((e : Entry) → NamesItsWord e → amounts (entry_share c e) ≡ one_where (p e)) → AllByRecursion NamesItsWord es
    → sum_by (count_of c es) (words_named es) ≡ count_by p es
entries_come c p es none one named =
    let amount = λ (s : Share). s.amount in
    let rows = rows_come c es in
    let both : amounts (shares_of c es) ≡ amounts (flat_map (entry_share c) es) + amounts (flat_map (task_share c es) (tasks_of es)) =
    sum_by-append amount (flat_map (entry_share c) es) (flat_map (task_share c es) (tasks_of es)) in
    let left : amounts (flat_map (entry_share c) es) ≡ count_by p es =
    sum_flat amount (entry_share c) es
    ∙ same_sum (λ e. amounts (entry_share c e)) (λ e. one_where (p e)) es (all_of NamesItsWord (λ e. amounts (entry_share c e) ≡ one_where (p e)) es one named) in
    let right : amounts (flat_map (task_share c es) (tasks_of es)) ≡ 0 =
    sum_flat amount (task_share c es) (tasks_of es)
    ∙ no_sum (λ r. amounts (task_share c es r)) (tasks_of es) (λ r. ap (λ (n : ℕ). amounts (share_of (cut_word es r.fate r.last) n)) (none r) ∙ nothing_told (cut_word es r.fate r.last)) in
    rows ∙ omega (arith, both, left, right)

pub loads_come : (es : List Entry) → AllByRecursion NamesItsWord es → sum_by (count_of column.Loads es) (words_named es) ≡ count_by (λ e. is_load e.reply) es
loads_come es named = entries_come column.Loads (λ e. is_load e.reply) es (λ r. refl) (λ e names. one_told (is_load e.reply) e.addr names.loads) named

pub stores_come : (es : List Entry) → AllByRecursion NamesItsWord es → sum_by (count_of column.Stores es) (words_named es) ≡ count_by (λ e. is_store e.reply) es
stores_come es named = entries_come column.Stores (λ e. is_store e.reply) es (λ r. refl) (λ e names. one_told (is_store e.reply) e.addr names.stores) named

pub versions_come : (es : List Entry) → AllByRecursion NamesItsWord es → sum_by (count_of column.Versions es) (words_named es) ≡ (counts_of es).version
versions_come es named =
    entries_come column.Versions (λ e. is_supplier served.Version e.served) es (λ r. refl) (λ e names. one_told (is_supplier served.Version e.served) e.addr names.version) named

pub violations_come : (es : List Entry) → AllByRecursion NamesItsWord es → sum_by (count_of column.Violations es) (words_named es) ≡ (counts_of es).violation
violations_come es named =
    entries_come column.Violations (λ e. is_cause cause.Violation e.cause) es (λ r. refl) (λ e names. one_told (is_cause cause.Violation e.cause) e.addr names.violation) named

-- ---- the columns of tasks

-- the entries add nothing to it, and each task that a violation squashed has its part there
tasks_come : (c : Column) (t : Total) (es : List Entry) → ((e : Entry) → entry_amount c e ≡ 0)
    → ((r : TaskRun) → IsBlamed es r → amounts (task_share c es r) ≡ part_of t r) → AllByRecursion NamesItsWord es
    → sum_by (count_of c es) (words_named es) ≡ total (tasks_of es) t
tasks_come c t es none one named =
    let amount = λ (s : Share). s.amount in
    let rows = rows_come c es in
    let both : amounts (shares_of c es) ≡ amounts (flat_map (entry_share c) es) + amounts (flat_map (task_share c es) (tasks_of es)) =
    sum_by-append amount (flat_map (entry_share c) es) (flat_map (task_share c es) (tasks_of es)) in
    let left : amounts (flat_map (entry_share c) es) ≡ 0 =
    sum_flat amount (entry_share c) es
    ∙ no_sum (λ e. amounts (entry_share c e)) es (λ e. ap (λ (n : ℕ). amounts (share_of e.addr n)) (none e) ∙ nothing_told e.addr) in
    let right : amounts (flat_map (task_share c es) (tasks_of es)) ≡ total (tasks_of es) t =
    sum_flat amount (task_share c es) (tasks_of es)
    ∙ same_sum (λ r. amounts (task_share c es r)) (part_of t) (tasks_of es)
    (all_of (IsBlamed es) (λ r. amounts (task_share c es r) ≡ part_of t r) (tasks_of es) one (all_blamed es named)) in
    rows ∙ omega (arith, both, left, right)

-- by the fate of a task, the word for which it was squashed, and what it adds
cut_one : (es : List Entry) (f : Fate) (last : Option ℕ) (n : ℕ) → HasCause es f last → amounts (share_of (cut_word es f last) n) ≡ cond (is_of group.Violation f) n 0
cut_one es fate.Violation last n there = all_told (word_at es last) n there
cut_one es fate.Active last n there = refl
cut_one es fate.Committed last n there = refl
cut_one es fate.Guess last n there = refl
cut_one es fate.Cancel last n there = refl

pub squashed_come : (es : List Entry) → AllByRecursion NamesItsWord es
    → sum_by (count_of column.Squashed es) (words_named es) ≡ total (tasks_of es) (total_of measure.Tasks group.Violation)
squashed_come es named = tasks_come column.Squashed (total_of measure.Tasks group.Violation) es (λ e. refl) (λ r blamed. cut_one es r.fate r.last 1 blamed) named

pub turns_come : (es : List Entry) → AllByRecursion NamesItsWord es
    → sum_by (count_of column.Turns es) (words_named es) ≡ total (tasks_of es) (total_of measure.Turns group.Violation)
turns_come es named = tasks_come column.Turns (total_of measure.Turns group.Violation) es (λ e. refl) (λ r blamed. cut_one es r.fate r.last r.turns blamed) named
