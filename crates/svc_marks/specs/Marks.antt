-- The marks of a picture: what each entry that is shown did.
use Rattle.std.specs.Prelude.{ℕ, suc, ◌==◌, nat_lt, Bool, true, false, cond, ◌&&◌, List, [], ◌∷◌, ◌++◌, Option, Some}
use Rattle.std.specs.Prelude.{None, slice_range}
use Rattle.svc_base.specs.declared.ids.UnitId.{UnitId}
use Rattle.svc_base.specs.declared.ids.WordAddr.{WordAddr}
use Rattle.svc_history_laws.specs.declared.entry.Entry.{Entry}
use Rattle.svc_history_laws.specs.declared.entry.CutKind.{CutKind}
use Rattle.svc_history_laws.specs.declared.entry.CutKind.TheVariants as cause
use Rattle.svc_history_laws.specs.declared.entry.ReplyKind.{ReplyKind}
use Rattle.svc_history_laws.specs.declared.entry.ReplyKind.TheVariants as reply
use Rattle.svc_history_laws.specs.declared.entry.ServedKind.{ServedKind}
use Rattle.svc_history_laws.specs.declared.entry.ServedKind.TheVariants as by
use Rattle.svc_task_runs.specs.declared.task_run.TaskRun.{TaskRun}
use Rattle.svc_task_runs.specs.Runs.{is_number, is_store}
use Rattle.svc_marks.specs.declared.bars.Bar.{Bar}
use Rattle.svc_marks.specs.declared.bars.Window.{Window}
use Rattle.svc_marks.specs.declared.marks.Mark.{Mark}
use Rattle.svc_marks.specs.declared.marks.Spot.{Spot}
use Rattle.svc_marks.specs.declared.marks.MarkKind.{MarkKind}
use Rattle.svc_marks.specs.declared.marks.MarkKind.TheVariants as mark
use Rattle.svc_marks.specs.Bars.{runs}

-- the kind of mark that a reply makes, if any
abbrev pub kind_of : ReplyKind → Option MarkKind
kind_of reply.Loaded = Some mark.Load
kind_of reply.Stored = Some mark.Store
kind_of reply.Emitted = Some mark.PutOut
kind_of reply.Replaced = Some mark.Replace
kind_of reply.Committed = Some mark.Commit
kind_of _ = None

-- the read was given another unit's version
abbrev pub is_given : Option ServedKind → Bool
is_given (Some by.Version) = true
is_given (Some by.Spill) = true
is_given (Some by.Committed) = true
is_given _ = false

-- the read was served, and not by the task's own version
abbrev pub is_taken : Option ServedKind → Bool
is_taken None = false
is_taken (Some by.Hit) = false
is_taken _ = true

-- both words are there, and are the same
abbrev pub is_same_word : Option WordAddr → Option WordAddr → Bool
is_same_word (Some a) (Some b) = a.0 == b.0
is_same_word _ _ = false

-- the entry is a store of that word by the unit; and a read of it by the unit that another supplier than its own
-- version served
abbrev pub stores : UnitId → Option WordAddr → Entry → Bool
stores unit word e = is_store e.reply && ((e.unit.0 == unit.0) && is_same_word e.addr word)

-- the entry is a read of that word by the unit that another supplier than its own version served
abbrev pub takes : UnitId → Option WordAddr → Entry → Bool
takes unit word e = is_taken e.served && ((e.unit.0 == unit.0) && is_same_word e.addr word)

-- the index of the first such entry, and of the last, if these begin at an index
unfoldable pub first_where : (Entry → Bool) → (at : ℕ) → List Entry → Option ℕ
first_where p at [] = None
first_where p at (e ∷ es) = cond (p e) (Some at) (first_where p (suc at) es)

-- the last one found so far
unfoldable pub last_where : (Entry → Bool) → (found : Option ℕ) → (at : ℕ) → List Entry → Option ℕ
last_where p found at [] = found
last_where p found at (e ∷ es) = last_where p (cond (p e) (Some at) found) (suc at) es

-- the entries from one index on and before another
abbrev pub between : (from : ℕ) → (to : ℕ) → List Entry → List Entry
between from to es = slice_range es from to

-- the first such bar
unfoldable pub first_bar : (Bar → Bool) → List Bar → Option Bar
first_bar p [] = None
first_bar p (b ∷ bs) = cond (p b) (Some b) (first_bar p bs)

-- the entry is before this one, if there is one
abbrev pub is_before : Option ℕ → (at : ℕ) → Bool
is_before None at = false
is_before (Some m) at = nat_lt m at

-- the bar's task was decided before an index, and the bar ended before it
abbrev pub is_over : (at : ℕ) → Bar → Bool
is_over at b = is_before b.task.last at && nat_lt b.end at

-- the bars without the first ones that are over
unfoldable pub left_at : (at : ℕ) → List Bar → List Bar
left_at at [] = []
left_at at (b ∷ bs) = cond (is_over at b) (left_at at bs) (b ∷ bs)

-- the task of a bar
abbrev pub task_of : Option Bar → Option TaskRun
task_of None = None
task_of (Some b) = Some b.task

-- the task that runs on the unit then
abbrev pub task_at : List Bar → (unit : ℕ) → (at : ℕ) → Option TaskRun
task_at bs unit at = task_of (first_bar (runs unit at) bs)

-- the first task that the entry squashes: the entry gives its number, and ended it
abbrev pub is_victim : Entry → (at : ℕ) → Bar → Bool
is_victim e at b = is_number e.first b.task.number && is_number b.task.last at

-- the last entry shown before an index by which a unit stored a word, if any
abbrev pub last_shown : List Entry → Window → (at : ℕ) → UnitId → Option WordAddr → Option ℕ
last_shown es w at unit word = last_where (stores unit word) None w.from (between w.from at es)

-- where a given version was last stored, given what is known of that
abbrev pub handed_by : (UnitId → Option WordAddr → Option ℕ) → Entry → Option UnitId → Option Spot
handed_by place e None = None
handed_by place e (Some unit) = cond (is_given e.served) (Some (record { lane = unit; place = place unit e.addr })) None

-- the same by the entries that are shown
abbrev pub handed : List Entry → Window → (at : ℕ) → Entry → Option UnitId → Option Spot
handed es w at e from = handed_by (last_shown es w at) e from

-- where a task first took the word from elsewhere, if that is shown
abbrev pub taken : List Entry → (at : ℕ) → Entry → Option Bar → Option Spot
taken es at e None = None
taken es at e (Some b) =
    Some (record { lane = b.task.unit; place = first_where (takes b.task.unit e.addr) b.start (between b.start at es) })

-- where the first task squashed by a violation had read the word too early
abbrev pub squashed : List Entry → List Bar → (at : ℕ) → Entry → Option CutKind → Option Spot
squashed es bs at e (Some cause.Violation) = taken es at e (first_bar (is_victim e at) bs)
squashed es bs at e _ = None

-- a mark of the entry, of a kind if there is one; an arrow, if it has another end
abbrev pub shape : List Bar → (at : ℕ) → Entry → Option MarkKind → List Mark
shape bs at e None = []
shape bs at e (Some kind) =
    record { kind = kind; entry = e; place = at; task = task_at bs e.unit.0 at; other = None } ∷ []

-- an arrow, if it has another end
abbrev pub arrow : MarkKind → List Bar → (at : ℕ) → Entry → Option Spot → List Mark
arrow kind bs at e None = []
arrow kind bs at e (Some spot) =
    record { kind = kind; entry = e; place = at; task = task_at bs e.unit.0 at; other = Some spot } ∷ []

-- the marks of an entry, given what is known of the stores before it, and the entries shown
abbrev pub marks_by : (UnitId → Option WordAddr → Option ℕ) → List Entry → List Bar → (at : ℕ) → Entry → List Mark
marks_by place es bs at e =
    shape bs at e (kind_of e.reply)
    ++ (arrow mark.Handed bs at e (handed_by place e e.from)
    ++ arrow mark.Squash bs at e (squashed es bs at e e.cause))

-- the marks of the entry at an index
abbrev pub marks_at : List Entry → Window → List Bar → (at : ℕ) → Entry → List Mark
marks_at es w bs at e = marks_by (last_shown es w at) es bs at e

-- those of the entries from an index on
unfoldable pub marks_from : List Entry → Window → List Bar → (at : ℕ) → List Entry → List Mark
marks_from es w bs at [] = []
marks_from es w bs at (e ∷ rest) = marks_at es w bs at e ++ marks_from es w bs (suc at) rest

-- the marks of the entries that are shown
abbrev pub marks_of : List Entry → Window → List Bar → List Mark
marks_of es w bs = marks_from es w bs w.from (between w.from w.to es)
