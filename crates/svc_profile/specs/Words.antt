-- The table of words: a row for each word that an entry names, with its cost.
use Rattle.std.specs.Prelude.{ℕ, suc, ◌==◌, nat_lt, max, Bool, List, [], ◌∷◌, ◌++◌, Option, Some, None, codes, decimal}
use Rattle.std.specs.Prelude.{flat_map, slice_get}
use Rattle.std.specs.List.{filter, range_with_len, sum_by}
use Rattle.std.specs.Option.{option_and_then}
use Rattle.svc_base.specs.declared.ids.WordAddr.{WordAddr}
use Rattle.svc_history_laws.specs.declared.entry.CutKind.TheVariants as cause
use Rattle.svc_history_laws.specs.declared.entry.Entry.{Entry}
use Rattle.svc_history_laws.specs.declared.entry.ServedKind.TheVariants as served
use Rattle.svc_report.specs.Counting.{one_where}
use Rattle.svc_report.specs.Summary.{is_cause, is_supplier}
use Rattle.svc_text.specs.Rows.{row}
use Rattle.svc_profile.specs.Column.{Column}
use Rattle.svc_profile.specs.Column as column
use Rattle.svc_profile.specs.Column.{Share}
use Rattle.svc_task_runs.specs.declared.task_run.Fate.{Fate}
use Rattle.svc_task_runs.specs.declared.task_run.Fate.TheVariants as fate
use Rattle.svc_task_runs.specs.declared.task_run.TaskRun.{TaskRun}
use Rattle.svc_task_runs.specs.Runs.{is_load, is_store, tasks_of}

-- ---- what is counted of a word

-- what an entry counts for the word that it names
abbrev pub entry_amount : Column → Entry → ℕ
entry_amount column.Named e = 1
entry_amount column.Loads e = one_where (is_load e.reply)
entry_amount column.Stores e = one_where (is_store e.reply)
entry_amount column.Versions e = one_where (is_supplier served.Version e.served)
entry_amount column.Violations e = one_where (is_cause cause.Violation e.cause)
entry_amount column.Squashed e = 0
entry_amount column.Turns e = 0

-- what a task counts for the word for which it was squashed
abbrev pub task_amount : Column → TaskRun → ℕ
task_amount column.Named r = 0
task_amount column.Loads r = 0
task_amount column.Stores r = 0
task_amount column.Versions r = 0
task_amount column.Violations r = 0
task_amount column.Squashed r = 1
task_amount column.Turns r = r.turns

abbrev pub share_of : Option WordAddr → ℕ → List Share
share_of None n = []
share_of (Some a) n = record { word = a.0; amount = n } ∷ []

-- what an entry, or a task, counts in a column, for its word
abbrev pub entry_share : Column → Entry → List Share
entry_share c e = share_of e.addr (entry_amount c e)

-- the word that the entry at this index names
abbrev pub word_at : List Entry → Option ℕ → Option WordAddr
word_at es None = None
word_at es (Some at) = option_and_then (λ e. e.addr) (slice_get es at)

-- the word for which a task was squashed: for a violation, the one stored by the entry that decided its fate
abbrev pub cut_word : List Entry → Fate → Option ℕ → Option WordAddr
cut_word es fate.Violation last = word_at es last
cut_word es _ last = None

abbrev pub task_share : Column → List Entry → TaskRun → List Share
task_share c es r = share_of (cut_word es r.fate r.last) (task_amount c r)

-- what the entries and the tasks of a history count, each for its word
abbrev pub shares_of : Column → List Entry → List Share
shares_of c es = flat_map (entry_share c) es ++ flat_map (task_share c es) (tasks_of es)

-- what they count together for one word
abbrev pub count_in : List Share → ℕ → ℕ
count_in ss word = sum_by (λ s. s.amount) (filter (λ s. s.word == word) ss)

-- the count of a word in a column
abbrev pub count_of : Column → List Entry → ℕ → ℕ
count_of c es word = count_in (shares_of c es) word

-- ---- the words that are named

-- the number after that of a word
abbrev pub end_of : Option WordAddr → ℕ
end_of None = 0
end_of (Some a) = suc a.0

-- all words that entries name are below this one
abbrev pub words_end : List Entry → ℕ
words_end [] = 0
words_end (e ∷ es) = max (end_of e.addr) (words_end es)

-- an entry names the word
abbrev pub is_named : List Entry → ℕ → Bool
is_named es word = nat_lt 0 (count_of column.Named es word)

-- the words that entries name, in their order
abbrev pub words_named : List Entry → List ℕ
words_named es = filter (is_named es) (range_with_len 0 (words_end es))

-- ---- the text

-- the counts that are reported for a word, in their order
abbrev pub counts_told : List Entry → ℕ → List ℕ
counts_told es word =
    count_of column.Loads es word ∷ count_of column.Stores es word ∷ count_of column.Versions es word
    ∷ count_of column.Violations es word ∷ count_of column.Squashed es word ∷ count_of column.Turns es word ∷ []

-- the row of a word
abbrev pub word_row : List Entry → ℕ → List ℕ
word_row es word = row (decimal word) (counts_told es word)

abbrev pub word_header : List ℕ
word_header = codes "word,loads,stores,versions,violations,squashed,turns-squashed\n"

-- the table of words
abbrev pub word_table : List Entry → List ℕ
word_table es = word_header ++ flat_map (word_row es) (words_named es)
