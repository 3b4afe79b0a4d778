-- What is counted in all columns at once is, column by column, what the definition counts.
use Rattle.std.proofs.Common.{◌≡◌, ◌∙◌, ◌+◌, ◌++◌, ◌∷◌, [], ℕ, List, Option, None, Some, refl, ap, ap₂, sym}
use Rattle.std.specs.Prelude.{flat_map}
use Rattle.std.specs.List.{sum_by}
use Rattle.std.proofs.lemmas.List.{map-append}
use Rattle.std.proofs.lemmas.List.Sums.{sum_by-cons}
use Rattle.svc_base.specs.declared.ids.WordAddr.{WordAddr}
use Rattle.svc_history_laws.specs.declared.entry.Entry.{Entry}
use Rattle.svc_task_runs.specs.declared.task_run.TaskRun.{TaskRun}
use Rattle.svc_task_runs.specs.Runs.{tasks_of}
use Rattle.svc_profile.specs.Column.{Column, Share}
use Rattle.svc_profile.specs.Column as column
use Rattle.svc_profile.specs.declared.counts.Counts.{Counts}
use Rattle.svc_profile.specs.declared.shares.WordShare.{WordShare}
use Rattle.svc_profile.specs.Counts.{all_shares, amount, entry_counted, entry_counts, in_column, no_counts, share_in, task_counted, task_counts, word_counted}
use Rattle.svc_profile.specs.Words.{cut_word, entry_amount, entry_share, share_of, shares_of, task_amount, task_share}

of_entry : (c : Column) (e : Entry) → amount c (entry_counts e) ≡ entry_amount c e
of_entry column.Named e = refl
of_entry column.Loads e = refl
of_entry column.Stores e = refl
of_entry column.Versions e = refl
of_entry column.Violations e = refl
of_entry column.Squashed e = refl
of_entry column.Turns e = refl

of_task : (c : Column) (r : TaskRun) → amount c (task_counts r) ≡ task_amount c r
of_task column.Named r = refl
of_task column.Loads r = refl
of_task column.Stores r = refl
of_task column.Versions r = refl
of_task column.Violations r = refl
of_task column.Squashed r = refl
of_task column.Turns r = refl

pub of_none : (c : Column) → amount c no_counts ≡ 0
of_none column.Named = refl
of_none column.Loads = refl
of_none column.Stores = refl
of_none column.Versions = refl
of_none column.Violations = refl
of_none column.Squashed = refl
of_none column.Turns = refl

of_word : (c : Column) (a : Option WordAddr) (k : Counts) (n : ℕ) → amount c k ≡ n → in_column c (word_counted a k) ≡ share_of a n
of_word c None k n is = refl
of_word c (Some a) k n is = ap (λ (m : ℕ). share_of (Some a) m) is

of_all : {X : Type 0} (c : Column) (f : X → List WordShare) (g : X → List Share) → ((x : X) → in_column c (f x) ≡ g x) → (xs : List X)
    → in_column c (flat_map f xs) ≡ flat_map g xs
of_all c f g same [] = refl
of_all c f g same (x ∷ xs) =
    map-append (share_in c) (f x) (flat_map f xs) ∙ ap₂ (λ (l m : List Share). l ++ m) (same x) (of_all c f g same xs)

pub all_in_column : (c : Column) (es : List Entry) → in_column c (all_shares es) ≡ shares_of c es
all_in_column c es =
    map-append (share_in c) (flat_map entry_counted es) (flat_map (task_counted es) (tasks_of es))
    ∙ ap₂ (λ (l m : List Share). l ++ m)
    (of_all c entry_counted (entry_share c) (λ e. of_word c e.addr (entry_counts e) (entry_amount c e) (of_entry c e)) es)
    (of_all c (task_counted es) (task_share c es) (λ r. of_word c (cut_word es r.fate r.last) (task_counts r) (task_amount c r) (of_task c r)) (tasks_of es))

pub sum_in_column : (c : Column) (ss : List WordShare) → sum_by (λ (s : Share). s.amount) (in_column c ss) ≡ sum_by (λ (s : WordShare). amount c s.counts) ss
sum_in_column c [] = refl
sum_in_column c (s ∷ ss) =
    sum_by-cons (λ (s : Share). s.amount) (share_in c s) (in_column c ss) ∙ ap (λ (n : ℕ). amount c s.counts + n) (sum_in_column c ss)
    ∙ sym (sum_by-cons (λ (s : WordShare). amount c s.counts) s ss)
