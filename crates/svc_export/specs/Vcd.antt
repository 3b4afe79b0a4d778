-- A history as a dump of value changes: which task each unit has, and the committed values of some words. What an entry
-- changes stands at the time of its number.
use Rattle.std.specs.Prelude.{ℕ, suc, ◌+◌, ◌==◌, Bool, false, cond, ◌&&◌, List, [], ◌∷◌, ◌++◌, Option, Some, None}
use Rattle.std.specs.Prelude.{codes, flat_map, length, map, slice_range, unwrap_or}
use Rattle.std.specs.List.{filter, range_with_len}
use Rattle.svc_base.specs.declared.ids.UnitId.{UnitId}
use Rattle.svc_base.specs.declared.ids.WordAddr.{WordAddr}
use Rattle.svc_history_laws.specs.declared.entry.Entry.{Entry}
use Rattle.svc_history_laws.specs.declared.entry.Kind.{Kind}
use Rattle.svc_history_laws.specs.declared.entry.Kind.TheVariants as kind
use Rattle.svc_task_runs.specs.declared.task_run.Fate.{Fate}
use Rattle.svc_task_runs.specs.declared.task_run.Fate.TheVariants as fate
use Rattle.svc_task_runs.specs.declared.task_run.TaskRun.{TaskRun}
use Rattle.svc_task_runs.specs.Runs.{Runs, after, is_settled, is_store, no_runs, step}
use Rattle.svc_export.specs.Changes.{busy, dump_opening, dump_start, idle, time, unit_variables, unknown, value_line}
use Rattle.svc_export.specs.Changes.{word_variable}

-- ---- the committed values of words

-- there is a word, and it is this one
abbrev pub is_word : Option WordAddr → ℕ → Bool
is_word None word = false
is_word (Some addr) word = addr.0 == word

-- the entry is a store of the word by the unit
abbrev pub is_store_of : UnitId → (word : ℕ) → Entry → Bool
is_store_of unit word e = is_store e.reply && ((e.unit.0 == unit.0) && is_word e.addr word)

-- the value that these entries' last such store left, or the one before
unfoldable pub stored_in : UnitId → (word : ℕ) → (before : Option ℕ) → List Entry → Option ℕ
stored_in unit word before [] = before
stored_in unit word before (e ∷ es) = stored_in unit word (cond (is_store_of unit word e) e.word before) es

-- the value that a task left in a word up to an entry
abbrev pub left_by : List Entry → (at : ℕ) → TaskRun → (word : ℕ) → Option ℕ
left_by es at r word = stored_in r.unit word None (slice_range es r.first at)

abbrev pub value_change : (word : ℕ) → Option ℕ → List ℕ
value_change word None = []
value_change word (Some v) = value_line (codes "w") word v

-- a committed task's words, of these
abbrev pub word_change : List Entry → (at : ℕ) → TaskRun → (word : ℕ) → List ℕ
word_change es at r word = value_change word (left_by es at r word)

abbrev pub words_after : List Entry → (words : List ℕ) → (at : ℕ) → TaskRun → Fate → List ℕ
words_after es words at r fate.Committed = flat_map (word_change es at r) words
words_after es words at r _ = []

-- ---- what an entry changes

-- the tasks whose fate the entry at this index decides
abbrev pub decided : (at : ℕ) → Entry → Runs → List TaskRun
decided at e s = filter is_settled (map (after at e) s.active)

-- their units are idle, and what a committed one left in the words is committed
unfoldable pub decision : List Entry → (words : List ℕ) → (at : ℕ) → TaskRun → List ℕ
decision es words at r = idle r.unit.0 ++ words_after es words at r r.fate

-- the unit of an assignment has a task, whose number is how many before it are committed or active
abbrev pub beginning : Entry → Runs → Kind → List ℕ
beginning e s kind.Assign = busy e.unit.0 (s.commits + length s.active) (unwrap_or e.word 0)
beginning e s _ = []

-- the changes of the entry at this index, and then the next time
unfoldable pub entry_changes : List Entry → (words : List ℕ) → (at : ℕ) → Entry → Runs → List ℕ
entry_changes es words at e s =
    beginning e s e.kind ++ flat_map (decision es words at) (decided at e s) ++ time (at + 1)

-- those of the entries from this index on, after which there are these tasks
unfoldable pub changes_from : List Entry → (words : List ℕ) → Runs → (at : ℕ) → List Entry → List ℕ
changes_from es words s at [] = []
changes_from es words s at (e ∷ rest) =
    entry_changes es words at e s ++ changes_from es words (step at e s) (suc at) rest

-- ---- the file

-- the variables of so many units and of these words
unfoldable pub declarations : (units : ℕ) → (words : List ℕ) → List ℕ
declarations units words =
    dump_opening ++ flat_map unit_variables (range_with_len 0 units) ++ flat_map word_variable words ++ dump_start

-- their values before any entry
unfoldable pub first_values : (units : ℕ) → (words : List ℕ) → List ℕ
first_values units words = flat_map idle (range_with_len 0 units) ++ flat_map unknown words ++ codes "$end\n"

-- the dump of a history
unfoldable pub vcd_of : List Entry → (units : ℕ) → (words : List ℕ) → List ℕ
vcd_of es units words = declarations units words ++ first_values units words ++ changes_from es words no_runs 0 es
