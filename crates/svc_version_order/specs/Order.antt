-- The lines of a word in the order of their versions: first the clean lines of committed tasks, by unit, then the
-- versions of committed tasks, the oldest first, and then the lines of the active tasks, the oldest first.
use Rattle.std.specs.Prelude.{ℕ, Bool, ◌&&◌, ◌==◌, cond, not, List, [], ◌∷◌, ◌++◌, Option, codes, count_by, flat_map}
use Rattle.std.specs.List.{range_with_len}
use Rattle.svc_core_laws.specs.State.{State}
use Rattle.svc_bus.specs.Versions.{is_older_version}
use Rattle.svc_bus_laws.specs.BusLine.{BusLine, is_active_line, is_committed_dirty_line, is_committed_line}
use Rattle.svc_bus_laws.specs.BusLine.{is_dirty_line}
use Rattle.svc_bus_laws.specs.BusState.{BusState}
use Rattle.svc_machine_laws.specs.PlainMachine.{Running}
use Rattle.svc_text.specs.Rows.{fields}
use Rattle.svc_held.specs.declared.named.Named.{Named}
use Rattle.svc_held.specs.Held.{is_cached}
use Rattle.svc_held.specs.Tasks.{each_task}
use Rattle.svc_version_order.specs.Fields.{active_field, committed_field}

-- a committed task's line that it never stored to
abbrev pub is_clean_line : Option BusLine → Bool
is_clean_line l = is_committed_line l && not (is_dirty_line l)

-- the field of a unit's line, if it is such a one
abbrev pub clean_field : (unit : ℕ) → Option BusLine → List ℕ
clean_field unit line = cond (is_clean_line line) (committed_field unit) []

-- the clean lines of committed tasks, by unit
abbrev pub clean_fields : (units : ℕ) → BusState → (word : ℕ) → List ℕ
clean_fields units b word = flat_map (λ unit. clean_field unit (b.lines unit word)) (range_with_len 0 units)

-- how many of the committed versions of the word are older than the unit's
abbrev pub older_count : (units : ℕ) → BusState → (word unit : ℕ) → ℕ
older_count units b word unit = count_by (λ other. is_older_version b word other unit) (range_with_len 0 units)

-- the field of a unit's line, if it is a committed version and that many are older
abbrev pub version_field : (units : ℕ) → BusState → (word older unit : ℕ) → Option BusLine → List ℕ
version_field units b word older unit line =
    cond (is_committed_dirty_line line && (older_count units b word unit == older)) (committed_field unit) []

-- the committed versions than which that many are older: there is one at most
abbrev pub versions_at : (units : ℕ) → BusState → (word older : ℕ) → List ℕ
versions_at units b word older =
    flat_map (λ unit. version_field units b word older unit (b.lines unit word)) (range_with_len 0 units)

-- the committed versions, oldest first: that with no older one, that with one older one, and so on
abbrev pub version_fields : (units : ℕ) → BusState → (word : ℕ) → List ℕ
version_fields units b word = flat_map (versions_at units b word) (range_with_len 0 units)

-- the field of a unit's line, if it is that of its active task, which has this number
abbrev pub unit_field : (number unit : ℕ) → Option BusLine → List ℕ
unit_field number unit line = cond (is_active_line line) (active_field unit number) []

abbrev pub task_field : BusState → (word number : ℕ) → Running State → List ℕ
task_field b word number x = unit_field number x.task.unit (b.lines x.task.unit word)

-- the fields of all lines of a word, and the end of its row
abbrev pub line_fields : (units : ℕ) → BusState → (commits : ℕ) → List (Running State) → (word : ℕ) → List ℕ
line_fields units b commits runs word =
    clean_fields units b word
    ++ (version_fields units b word ++ (each_task (task_field b word) commits runs ++ codes "\n"))

-- the row of a word
abbrev pub word_fields : (units : ℕ) → BusState → (commits : ℕ) → List (Running State) → (word : ℕ) → List ℕ
word_fields units b commits runs word = fields (codes "order") (word ∷ []) ++ line_fields units b commits runs word

-- the row of a word, if there is a valid line of it
abbrev pub order_row : (units : ℕ) → BusState → (commits : ℕ) → List (Running State) → (word : ℕ) → List ℕ
order_row units b commits runs word =
    cond (is_cached b units word) (word_fields units b commits runs word) []

abbrev pub named_row : (units : ℕ) → BusState → (commits : ℕ) → List (Running State) → Named → List ℕ
named_row units b commits runs n = order_row units b commits runs n.word.0

-- a row for each of n words
abbrev pub order_rows : (units words : ℕ) → BusState → (commits : ℕ) → List (Running State) → List ℕ
order_rows units words b commits runs = flat_map (order_row units b commits runs) (range_with_len 0 words)

-- the field of the only valid line of a word: that of a committed task, or of an active one among these
abbrev pub lone_field : (committed : Bool) → (unit : ℕ) → (tasks : List ℕ) → List ℕ
lone_field committed unit tasks = cond committed (committed_field unit) tasks
