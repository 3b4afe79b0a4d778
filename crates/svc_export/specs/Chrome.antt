-- A history as a trace of events: tracks of units, slices of tasks, instants of entries, flows between these.
use Rattle.std.specs.Prelude.{ℕ, suc, ◌+◌, ◌-◌, min, List, [], ◌∷◌, ◌++◌, Option, Some, None, codes, flat_map, length}
use Rattle.std.specs.List.{range_with_len}
use Rattle.svc_history_laws.specs.declared.entry.Entry.{Entry}
use Rattle.svc_history_laws.specs.declared.entry.ReplyKind.{ReplyKind}
use Rattle.svc_history_laws.specs.declared.entry.ReplyKind.TheVariants as reply
use Rattle.svc_task_runs.specs.Runs.{fate_word}
use Rattle.svc_marks.specs.declared.bars.Bar.{Bar}
use Rattle.svc_marks.specs.declared.bars.Window.{Window}
use Rattle.svc_marks.specs.declared.marks.Mark.{Mark}
use Rattle.svc_marks.specs.declared.marks.MarkKind.{MarkKind}
use Rattle.svc_marks.specs.declared.marks.MarkKind.TheVariants as mark
use Rattle.svc_marks.specs.declared.marks.Spot.{Spot}
use Rattle.svc_marks.specs.Bars.{bars_of}
use Rattle.svc_marks.specs.Marks.{marks_of}
use Rattle.svc_export.specs.declared.flows.Flow.{Flow}
use Rattle.svc_export.specs.declared.flows.Way.TheVariants as way
use Rattle.svc_export.specs.Events.{closing, event_end, flow_text, instant, number_field, opening, slice}
use Rattle.svc_export.specs.Events.{supplier_field, task_field, track, word_field}

-- ---- tasks

-- how many entries a bar spans, of so many, with the one that decides its task's fate
abbrev pub count_of : (total : ℕ) → Bar → ℕ
count_of total b = min (b.end + 1) total - b.start

unfoldable pub bar_slice : (total : ℕ) → Bar → List ℕ
bar_slice total b = slice b.task.number b.task.entry (fate_word b.task.fate) b.task.unit.0 b.start (count_of total b)

-- ---- marks

-- what an entry's mark says of its task and its word
unfoldable pub mark_fields : Mark → List ℕ
mark_fields m =
    task_field m.task ++ word_field m.entry.addr ++ number_field (codes "value") m.entry.word
    ++ supplier_field m.entry.served

-- a load, a store or an output word
unfoldable pub mark_instant : (name : List ℕ) → Mark → List ℕ
mark_instant name m = instant name m.place m.entry.unit.0 ++ mark_fields m ++ event_end

-- a commit, with the number of its task
unfoldable pub commit_instant : Mark → List ℕ
commit_instant m =
    instant (codes "commit") m.place m.entry.unit.0 ++ number_field (codes "task") m.entry.word ++ event_end

-- a version's way to its reader from the entry that stored it, if that is known
abbrev pub version_from : Mark → Spot → Option ℕ → Option Flow
version_from m spot None = None
version_from m spot (Some place) =
    Some (record {
      way = way.Version;
      number = m.place;
      store = place;
      storer = spot.lane;
      reader = m.entry.unit;
      read = Some m.place;
      word = m.entry.addr;
    })

abbrev pub version_flow : Mark → Option Spot → Option Flow
version_flow m None = None
version_flow m (Some spot) = version_from m spot spot.place

-- from a store to the first task that it squashed, which had read the word too early
abbrev pub violation_flow : Mark → Option Spot → Option Flow
violation_flow m None = None
violation_flow m (Some spot) =
    Some (record {
      way = way.Violation;
      number = m.place;
      store = m.place;
      storer = m.entry.unit;
      reader = spot.lane;
      read = spot.place;
      word = m.entry.addr;
    })

abbrev pub some_flow : Option Flow → List ℕ
some_flow None = []
some_flow (Some f) = flow_text f

-- the event of a mark of a kind
abbrev pub event_of : Mark → MarkKind → List ℕ
event_of m mark.Load = mark_instant (codes "load") m
event_of m mark.Store = mark_instant (codes "store") m
event_of m mark.PutOut = mark_instant (codes "output") m
event_of m mark.Commit = commit_instant m
event_of m mark.Replace = []
event_of m mark.Handed = some_flow (version_flow m m.other)
event_of m mark.Squash = some_flow (violation_flow m m.other)

abbrev pub mark_event : Mark → List ℕ
mark_event m = event_of m m.kind

-- ---- replacements, which come after all marks

unfoldable pub replacement : (at : ℕ) → Entry → List ℕ
replacement at e = instant (codes "replacement") at e.unit.0 ++ word_field e.addr ++ event_end

abbrev pub replaced_by : (at : ℕ) → Entry → ReplyKind → List ℕ
replaced_by at e reply.Replaced = replacement at e
replaced_by at e _ = []

-- those of the entries from an index on
unfoldable pub replacements : (at : ℕ) → List Entry → List ℕ
replacements at [] = []
replacements at (e ∷ es) = replaced_by at e e.reply ++ replacements (suc at) es

-- ---- the file

-- all entries
abbrev pub whole : List Entry → Window
whole es = record { from = 0; to = length es }

unfoldable pub tracks : (units : ℕ) → List ℕ
tracks units = flat_map track (range_with_len 0 units)

-- the events of a history with these bars and marks
unfoldable pub events : List Entry → List Bar → List Mark → List ℕ
events es bs ms = flat_map (bar_slice (length es)) bs ++ flat_map mark_event ms ++ replacements 0 es

unfoldable pub chrome_text : List Entry → (units : ℕ) → List Bar → List Mark → List ℕ
chrome_text es units bs ms = opening ++ tracks units ++ events es bs ms ++ closing

-- of a history on so many units
unfoldable pub chrome_of : List Entry → (units : ℕ) → List ℕ
chrome_of es units = chrome_text es units (bars_of es (whole es)) (marks_of es (whole es) (bars_of es (whole es)))
