-- A word that no entry names counts nothing, so the rows of the words that are named have all shares.
use Rattle.std.proofs.Common.{◌≡◌, ◌∙◌, ◌+◌, ◌≤◌, ◌++◌, ◌∷◌, ◌⊎◌, inl, inr, [], ℕ, zero, suc, List, Bool, true, false, Option, None, Some, cond, refl, ap, sym, arith, eq-eqb, ne_eqb}
use Rattle.std.specs.Prelude.{◌==◌, flat_map}
use Rattle.std.specs.List.{AllByRecursion, filter, range_with_len, sum_by}
use Rattle.std.proofs.lemmas.Bool.{cases_eq, ltb-false}
use Rattle.std.proofs.lemmas.List.Elements.{filter-append}
use Rattle.std.proofs.lemmas.List.Sums.{sum_by-append, sum_by-cons}
use Rattle.svc_base.specs.declared.ids.WordAddr.{WordAddr}
use Rattle.svc_history_laws.specs.declared.entry.Entry.{Entry}
use Rattle.svc_task_runs.specs.declared.task_run.Fate.{Fate}
use Rattle.svc_task_runs.specs.declared.task_run.Fate.TheVariants as fate
use Rattle.svc_task_runs.specs.declared.task_run.TaskRun.{TaskRun}
use Rattle.svc_task_runs.specs.Runs.{tasks_of}
use Rattle.svc_profile.proofs.Buckets.{sum_by_number}
use Rattle.svc_profile.specs.Column.{Column}
use Rattle.svc_profile.specs.Column as column
use Rattle.svc_profile.specs.Column.{Share}
use Rattle.svc_profile.specs.Words.{count_in, count_of, cut_word, entry_amount, entry_share, is_named, share_of, shares_of, task_amount, task_share, word_at, words_end, words_named}
use Rattle.svc_profile.proofs.Inside.{all_inside}

-- the word isn't this one
abbrev Misses : ℕ → Option WordAddr → Type 0
Misses w a = count_in (share_of a 1) w ≡ 0

abbrev AllMiss : ℕ → List Entry → Type 0
AllMiss w es = AllByRecursion (λ e. Misses w e.addr) es

missed : (a : Option WordAddr) (amount w : ℕ) → Misses w a → count_in (share_of a amount) w ≡ 0
missed None amount w miss = refl
missed (Some a) amount w miss = by (cases_eq a.0 w)
  where
    by : (a.0 ≡ w) ⊎ (a.0 ≡ w → ⊥) → count_in (share_of (Some a) amount) w ≡ 0
    by (inl e) =
        let one : count_in (share_of (Some a) 1) w ≡ 1 = rw (eq-eqb a.0 w e) refl in
        let never : ⊥ = omega (arith, one, miss) in
        absurd never
    by (inr ne) = rw (ne_eqb a.0 w ne) refl

pub count_both : (xs ys : List Share) (w : ℕ) → count_in (xs ++ ys) w ≡ count_in xs w + count_in ys w
count_both xs ys w =
    let p = λ (s : Share). s.word == w in
    let amount = λ (s : Share). s.amount in
    ap (sum_by amount) (filter-append p xs ys) ∙ sum_by-append amount (filter p xs) (filter p ys)

all_miss : (es : List Entry) (w : ℕ) → count_in (flat_map (entry_share column.Named) es) w ≡ 0 → AllMiss w es
all_miss [] w none = tt
all_miss (e ∷ es) w none =
    let both = count_both (entry_share column.Named e) (flat_map (entry_share column.Named) es) w in
    (omega (arith, both, none), all_miss es w (omega (arith, both, none)))

entries_miss : (c : Column) (es : List Entry) (w : ℕ) → AllMiss w es → count_in (flat_map (entry_share c) es) w ≡ 0
entries_miss c [] w all = refl
entries_miss c (e ∷ es) w all =
    let both = count_both (entry_share c e) (flat_map (entry_share c) es) w in
    let first = missed e.addr (entry_amount c e) w all.0 in
    let rest = entries_miss c es w all.1 in
    omega (arith, both, first, rest)

at_misses : (es : List Entry) (at w : ℕ) → AllMiss w es → Misses w (word_at es (Some at))
at_misses [] at w all = refl
at_misses (e ∷ es) zero w all = all.0
at_misses (e ∷ es) (suc at) w all = at_misses es at w all.1

cut_misses : (es : List Entry) (f : Fate) (at : Option ℕ) (w : ℕ) → AllMiss w es → Misses w (cut_word es f at)
cut_misses es fate.Violation None w all = refl
cut_misses es fate.Violation (Some at) w all = at_misses es at w all
cut_misses es fate.Active at w all = refl
cut_misses es fate.Committed at w all = refl
cut_misses es fate.Guess at w all = refl
cut_misses es fate.Cancel at w all = refl

tasks_miss : (c : Column) (es : List Entry) (rs : List TaskRun) (w : ℕ) → AllMiss w es → count_in (flat_map (task_share c es) rs) w ≡ 0
tasks_miss c es [] w all = refl
tasks_miss c es (r ∷ rs) w all =
    let both = count_both (task_share c es r) (flat_map (task_share c es) rs) w in
    let first = missed (cut_word es r.fate r.last) (task_amount c r) w (cut_misses es r.fate r.last w all) in
    let rest = tasks_miss c es rs w all in
    omega (arith, both, first, rest)

unnamed : (c : Column) (es : List Entry) (w : ℕ) → is_named es w ≡ false → count_of c es w ≡ 0
unnamed c es w missing =
    let none : count_of column.Named es w ≤ 0 = ltb-false 0 (count_of column.Named es w) missing in
    let named = count_both (flat_map (entry_share column.Named) es) (flat_map (task_share column.Named es) (tasks_of es)) w in
    let all : AllMiss w es = all_miss es w (omega (arith, none, named)) in
    let both = count_both (flat_map (entry_share c) es) (flat_map (task_share c es) (tasks_of es)) w in
    let left = entries_miss c es w all in
    let right = tasks_miss c es (tasks_of es) w all in
    omega (arith, both, left, right)

-- a sum over those that pass is the sum over all where the others have nothing
sum_kept : (p : ℕ → Bool) (f : ℕ → ℕ) (ws : List ℕ) → ((w : ℕ) → p w ≡ false → f w ≡ 0) → sum_by f (filter p ws) ≡ sum_by f ws
sum_kept p f [] none = refl
sum_kept p f (w ∷ ws) none = by (p w) (none w) (sum_kept p f ws none) ∙ sym (sum_by-cons f w ws)
  where
    by : (b : Bool) → (b ≡ false → f w ≡ 0) → sum_by f (filter p ws) ≡ sum_by f ws → sum_by f (cond b (w ∷ filter p ws) (filter p ws)) ≡ f w + sum_by f ws
    by true zero_at rest = sum_by-cons f w (filter p ws) ∙ ap (λ (n : ℕ). f w + n) rest
    by false zero_at rest = let nothing = zero_at refl in omega (arith, nothing, rest)

-- what the rows have in a column is what all shares of it come to
pub rows_come : (c : Column) (es : List Entry) → sum_by (count_of c es) (words_named es) ≡ sum_by (λ (s : Share). s.amount) (shares_of c es)
rows_come c es =
    sum_kept (is_named es) (count_of c es) (range_with_len 0 (words_end es)) (unnamed c es)
    ∙ sum_by_number (λ (s : Share). s.word) (λ (s : Share). s.amount) (shares_of c es) (words_end es) (all_inside c es)
