-- The rows by which a machine is shown.
use Rattle.std.specs.Prelude.{ℕ, Bool, cond, List, [], ◌∷◌, ◌++◌, Option, Some, None, codes, decimal}
use Rattle.svc_core_laws.specs.declared.end.End.{End}
use Rattle.svc_core_laws.specs.declared.end.End.TheVariants as end
use Rattle.svc_bus_laws.specs.BusLine.{BusLine}
use Rattle.svc_machine.specs.declared.shown.ActiveTask.{ActiveTask}
use Rattle.svc_report.specs.Fields.{optional}
use Rattle.svc_text.specs.Rows.{fields, row}

-- a row of a name and a text
abbrev pub told_row : (name text : List ℕ) → List ℕ
told_row name text = name ++ (codes "," ++ (text ++ codes "\n"))

-- a row of a name and an entry, which is empty if there is none
abbrev pub entry_row : List ℕ → Option ℕ → List ℕ
entry_row name entry = told_row name (optional decimal entry)

-- how a task stands: it runs, or how it has ended
abbrev pub state_word : Option End → List ℕ
state_word None = codes "running"
state_word (Some (end.Next entry)) = codes "next"
state_word (Some (end.Exit code)) = codes "exit"
state_word (Some (end.Trap number)) = codes "trap"

-- the last column of a task
abbrev pub state_end : (state : List ℕ) → List ℕ
state_end state = codes "," ++ (state ++ codes "\n")

-- the row of the active task of this number
abbrev pub task_row : (number : ℕ) → ActiveTask → List ℕ
task_row number task =
    fields (codes "task") (number ∷ task.unit.0 ∷ task.task_entry ∷ task.turns ∷ []) ++ state_end (state_word task.done)

-- the letter of a bit that is set, or a dash
abbrev pub letter : Bool → List ℕ → List ℕ
letter set name = cond set name (codes "-")

-- the last column of a line: V, which every line has, and S, L, C and T
abbrev pub line_bits : BusLine → List ℕ
line_bits l =
    codes ",V" ++ (letter l.store (codes "S") ++ (letter l.load (codes "L") ++ (letter l.commit (codes "C")
    ++ (letter l.stale (codes "T") ++ codes "\n"))))

-- the row of a unit's line of a word
abbrev pub line_row : (unit word : ℕ) → BusLine → List ℕ
line_row unit word l = fields (codes "line") (unit ∷ word ∷ l.value ∷ []) ++ line_bits l

-- the row of the head's version of a word whose line was replaced
abbrev pub spill_row : (word value : ℕ) → List ℕ
spill_row word value = row (codes "spill") (word ∷ value ∷ [])

-- the row of a word's committed and backing values
abbrev pub memory_row : (word committed backing : ℕ) → List ℕ
memory_row word committed backing = row (codes "memory") (word ∷ committed ∷ backing ∷ [])
