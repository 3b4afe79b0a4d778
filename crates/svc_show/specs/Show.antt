-- The text that shows the machine to which a history leads.
use Rattle.std.specs.Prelude.{ℕ, ◌||◌, Bool, cond, List, [], ◌++◌, Option, codes, flat_map, is_some, length, nat_le}
use Rattle.std.specs.List.{range_with_len}
use Rattle.svc_base.specs.declared.config.Config.{Config}
use Rattle.svc_image.specs.Image.{Image}
use Rattle.svc_core_laws.specs.Bytes.{word_at}
use Rattle.svc_core_laws.specs.Sequence.{ending_of, plain_seq}
use Rattle.svc_core_laws.specs.State.{State}
use Rattle.svc_core_laws.specs.Turns.{data_words}
use Rattle.svc_core_laws.specs.Words.{program}
use Rattle.svc_bus_laws.specs.BusState.{BusState, state_of}
use Rattle.svc_machine_laws.specs.Guess.{guess}
use Rattle.svc_machine_laws.specs.PlainMachine.{Plain, Running, running}
use Rattle.svc_machine_laws.specs.Standing.{Standing}
use Rattle.svc_machine.specs.Cores.{core_in}
use Rattle.svc_machine.specs.Reads.{task_shown}
use Rattle.svc_history_laws.specs.declared.entry.Entry.{Entry}
use Rattle.svc_history_laws.specs.Legal.{led_to}
use Rattle.svc_report.specs.Fields.{optional}
use Rattle.svc_report.specs.Summary.{ending_row, number_row}
use Rattle.svc_span.specs.declared.span.Span.{Span}
use Rattle.svc_held.specs.Held.{is_cached}
use Rattle.svc_span.specs.Span.{is_asked}
use Rattle.svc_held.specs.Tasks.{each_task}
use Rattle.svc_version_order.specs.Order.{order_rows}
use Rattle.svc_moves.specs.Moves.{move_rows}
use Rattle.svc_show.specs.declared.extras.Extras.{Extras}
use Rattle.svc_show.specs.Cores.{core_rows}
use Rattle.svc_show.specs.Rows.{entry_row, line_row, memory_row, spill_row, task_row}

-- how far the run has come, where it goes on, and how it has ended
abbrev pub progress_rows : Image → Config → Plain → List ℕ
progress_rows img config s =
    let done = plain_seq img s.commits in
    number_row (codes "tasks") s.commits ++ (entry_row (codes "due") done.due
    ++ (entry_row (codes "guess") (guess (program img) img.entries s)
    ++ ending_row (ending_of (nat_le config.events s.accepted) done.stopped done.due)))

-- the rows of an active task, and of its core if that is asked for
abbrev pub task_rows : (detail : Bool) → Image → (number : ℕ) → Running State → List ℕ
task_rows detail img number x =
    task_row number (task_shown x) ++ cond detail (core_rows img.registers x.task.unit (core_in x)) []

-- those of the active tasks, oldest first
abbrev pub all_task_rows : (detail : Bool) → Image → Plain → List ℕ
all_task_rows detail img s = each_task (task_rows detail img) s.commits (running (program img) s)

-- a row for each valid line of a unit, by word
abbrev pub unit_rows : (words : ℕ) → BusState → (unit : ℕ) → List ℕ
unit_rows words b unit = flat_map (λ word. optional (line_row unit word) (b.lines unit word)) (range_with_len 0 words)

-- a row for each valid line, by unit and then word
abbrev pub line_rows : (units words : ℕ) → BusState → List ℕ
line_rows units words b = flat_map (unit_rows words b) (range_with_len 0 units)

-- a row for each spilled word
abbrev pub spill_rows : (words : ℕ) → BusState → List ℕ
spill_rows words b = flat_map (λ word. optional (spill_row word) (b.spill word)) (range_with_len 0 words)

-- a row for each word of which there is a valid line, with its lines in the order of their versions, if that is asked
-- for
abbrev pub asked_order : (detail : Bool) → Image → Config → Plain → BusState → List ℕ
asked_order detail img config s b =
    cond detail (order_rows config.units (data_words img) b s.commits (running (program img) s)) []

-- the row of a word that has a valid line, is spilled or is asked for; its committed value is what the committed tasks
-- leave, run one after another
abbrev pub word_row : Image → Config → Plain → BusState → Option Span → (word : ℕ) → List ℕ
word_row img config s b asked word =
    cond ((is_some (b.spill word) || is_cached b config.units word) || is_asked asked word)
    (memory_row word (word_at (plain_seq img s.commits).memory word) (b.backing word)) []

-- a row for each such word
abbrev pub memory_rows : Image → Config → Plain → BusState → Option Span → (words : ℕ) → List ℕ
memory_rows img config s b asked words = flat_map (word_row img config s b asked) (range_with_len 0 words)

-- the rows of a machine: the plain machine, and what callers see of its bus
abbrev pub machine_rows : Extras → Image → Config → Plain → BusState → List ℕ
machine_rows extras img config s b =
    progress_rows img config s ++ (all_task_rows extras.detail img s
    ++ (line_rows config.units (data_words img) b ++ (spill_rows (data_words img) b
    ++ (asked_order extras.detail img config s b ++ memory_rows img config s b extras.memory (data_words img)))))

-- what may come next, if that is asked for
abbrev pub asked_moves : (moves : Bool) → Image → Config → Standing → List ℕ
asked_moves moves img config s = cond moves (move_rows img config s) []

-- the rows of a standing: the plain machine and the line table
abbrev pub standing_rows : Extras → Image → Config → Standing → List ℕ
standing_rows extras img config s =
    machine_rows extras img config s.plain (state_of 0 s.lines) ++ asked_moves extras.moves img config s

-- the text that shows the machine to which a history leads: how many entries it has, and the rows of that machine
abbrev pub show_of : Extras → Image → Config → List Entry → List ℕ
show_of extras img config es =
    number_row (codes "at") (length es) ++ standing_rows extras img config (led_to img config es)
