-- What is counted of a word in all columns at once, as it is gathered, and the rows made from it.
use Rattle.std.specs.Prelude.{◌≡◌, ◌==◌, ◌+◌, ℕ, false, cond, nat_lt, List, [], ◌∷◌, ◌++◌, Option, Some, None, decimal}
use Rattle.std.specs.Prelude.{flat_map, map, unwrap_or}
use Rattle.std.specs.BTreeMap.{BTreeMap, get}
use Rattle.std.specs.List.{list_any}
use Rattle.std.specs.Ordering.{nat_cmp}
use Rattle.svc_base.specs.declared.ids.WordAddr.{WordAddr}
use Rattle.svc_history_laws.specs.declared.entry.CutKind.TheVariants as cause
use Rattle.svc_history_laws.specs.declared.entry.Entry.{Entry}
use Rattle.svc_history_laws.specs.declared.entry.ServedKind.TheVariants as served
use Rattle.svc_report.specs.Counting.{one_where}
use Rattle.svc_report.specs.Summary.{is_cause, is_supplier}
use Rattle.svc_text.specs.Rows.{row}
use Rattle.svc_task_runs.specs.declared.task_run.TaskRun.{TaskRun}
use Rattle.svc_task_runs.specs.Runs.{is_load, is_store, tasks_of}
use Rattle.svc_profile.specs.Column.{Column, Share}
use Rattle.svc_profile.specs.Column as column
use Rattle.svc_profile.specs.declared.counts.Counts.{Counts}
use Rattle.svc_profile.specs.declared.shares.WordShare.{WordShare}
use Rattle.svc_profile.specs.Words.{count_in, cut_word}

-- the count of a column
abbrev pub amount : Column → Counts → ℕ
amount column.Named k = k.named
amount column.Loads k = k.loads
amount column.Stores k = k.stores
amount column.Versions k = k.versions
amount column.Violations k = k.violations
amount column.Squashed k = k.squashed
amount column.Turns k = k.turns

abbrev pub no_counts : Counts
no_counts = record { named = 0; loads = 0; stores = 0; versions = 0; violations = 0; squashed = 0; turns = 0 }

-- what an entry counts, and what a squashed task does
abbrev pub entry_counts : Entry → Counts
entry_counts e = record {
  named = 1;
  loads = one_where (is_load e.reply);
  stores = one_where (is_store e.reply);
  versions = one_where (is_supplier served.Version e.served);
  violations = one_where (is_cause cause.Violation e.cause);
  squashed = 0;
  turns = 0;
}

abbrev pub task_counts : TaskRun → Counts
task_counts r = record no_counts { squashed = 1; turns = r.turns }

-- what entries and tasks count, each for its word
abbrev pub word_counted : Option WordAddr → Counts → List WordShare
word_counted None k = []
word_counted (Some a) k = record { word = a.0; counts = k } ∷ []

abbrev pub entry_counted : Entry → List WordShare
entry_counted e = word_counted e.addr (entry_counts e)

abbrev pub task_counted : List Entry → TaskRun → List WordShare
task_counted es r = word_counted (cut_word es r.fate r.last) (task_counts r)

-- what all entries and tasks of a history count
abbrev pub all_shares : List Entry → List WordShare
all_shares es = flat_map entry_counted es ++ flat_map (task_counted es) (tasks_of es)

-- the same in one column
abbrev pub share_in : Column → WordShare → Share
share_in c s = record { word = s.word; amount = amount c s.counts }

abbrev pub in_column : Column → List WordShare → List Share
in_column c ss = map (share_in c) ss

-- what a table has for a word
abbrev pub counts_at : BTreeMap ℕ Counts → ℕ → Counts
counts_at m word = unwrap_or (get nat_cmp m word) no_counts

-- a table with one more share
pub record Adds (s : WordShare) (m n : BTreeMap ℕ Counts) : Type 0 where
  pub counts : (c : Column) → amount c (counts_at n s.word) ≡ amount c (counts_at m s.word) + amount c s.counts
  pub others : (word : ℕ) → (s.word == word) ≡ false → get nat_cmp n word ≡ get nat_cmp m word

-- the same for what is counted for a word, if there is one
abbrev pub AddsFor : Option WordAddr → Counts → BTreeMap ℕ Counts → BTreeMap ℕ Counts → Type 0
AddsFor None k m n = n ≡ m
AddsFor (Some a) k m n = Adds (record { word = a.0; counts = k }) m n

-- a table of what shares count together for each word; the rows are written from it
pub record IsTally (ss : List WordShare) (m : BTreeMap ℕ Counts) : Type 0 where
  pub counts : (word : ℕ) (c : Column) → amount c (counts_at m word) ≡ count_in (in_column c ss) word
  pub absent : (word : ℕ) → list_any (λ s. s.word == word) ss ≡ false → get nat_cmp m word ≡ None

-- ---- the text

-- the counts that are reported for a word, in their order
abbrev pub told_of : Counts → List ℕ
told_of k = k.loads ∷ k.stores ∷ k.versions ∷ k.violations ∷ k.squashed ∷ k.turns ∷ []

abbrev pub counted_row : ℕ → Counts → List ℕ
counted_row word k = row (decimal word) (told_of k)

-- the row of a word, if an entry names it
abbrev pub named_row : ℕ × Counts → List ℕ
named_row e = cond (nat_lt 0 e.1.named) (counted_row e.0 e.1) []
