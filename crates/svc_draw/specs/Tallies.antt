-- What stands in each cell of a picture's grid, of one kind of things.
use Rattle.std.specs.Prelude.{ℕ, ◌+◌, ◌==◌, ◌&&◌, min, cond, List, [], ◌∷◌, None, get_or, set, replicate}
use Rattle.svc_marks.specs.declared.bars.Bar.{Bar}
use Rattle.svc_marks.specs.declared.marks.Mark.{Mark}
use Rattle.svc_marks.specs.declared.marks.MarkKind.{MarkKind}
use Rattle.svc_marks.specs.declared.marks.MarkKind.TheVariants as mark
use Rattle.svc_task_runs.specs.declared.task_run.Fate.{Fate}
use Rattle.svc_task_runs.specs.declared.task_run.Fate.TheVariants as fate
use Rattle.svc_sheet.specs.declared.sheet.Sheet.{Sheet}
use Rattle.svc_draw.specs.declared.tallies.Tally.{Tally}
use Rattle.svc_draw.specs.declared.tallies.TheConstants.{MOST}
use Rattle.svc_sheet.specs.Grid.{cell, is_short}

-- nothing
abbrev pub none : Tally
none = record { count = 0; lane = 0; first = 0; last = 0; other = None }

-- a mark, and a bar
abbrev pub one_mark : Mark → Tally
one_mark m = record { count = 1; lane = m.entry.unit.0; first = m.place; last = m.place; other = m.other }

abbrev pub one_bar : Bar → Tally
one_bar b = record { count = 1; lane = b.task.unit.0; first = b.start; last = b.end; other = None }

-- with one more thing, which comes after these
abbrev pub and_one : Tally → Tally → Tally
and_one t one =
    cond (t.count == 0) one
    (record { count = min (t.count + 1) MOST; lane = t.lane; first = t.first; last = one.last; other = t.other })

-- the tallies with one more thing in a cell
abbrev pub with_one : (cell : ℕ) → Tally → List Tally → List Tally
with_one cell one ts = set ts cell (and_one (get_or ts cell none) one)

-- ---- marks of a kind

-- the kinds by number
abbrev pub number_of : MarkKind → ℕ
number_of mark.Commit = 0
number_of mark.Handed = 1
number_of mark.Squash = 2
number_of mark.Load = 3
number_of mark.Store = 4
number_of mark.PutOut = 5
number_of mark.Replace = 6

-- the cell of a mark: a commit's line goes across all lanes
unfoldable pub mark_cell : Sheet → Mark → ℕ
mark_cell s m = cell s (cond (number_of m.kind == 0) 0 m.entry.unit.0) m.place

-- the tallies of a kind, with a mark if it is of this kind
abbrev pub with_mark : Sheet → MarkKind → Mark → List Tally → List Tally
with_mark s kind m ts =
    cond (number_of m.kind == number_of kind) (with_one (mark_cell s m) (one_mark m) ts) ts

-- with all these
unfoldable pub with_marks : Sheet → MarkKind → List Tally → List Mark → List Tally
with_marks s kind ts [] = ts
with_marks s kind ts (m ∷ ms) = with_marks s kind (with_mark s kind m ts) ms

-- those of marks
abbrev pub marks_tallied : Sheet → MarkKind → List Mark → List Tally
marks_tallied s kind ms = with_marks s kind (replicate 512 none) ms

-- ---- short bars of a fate

-- the fates by number: that of a fate's stripe, and above these the one that no short bar has
abbrev pub stripe_of : Fate → ℕ
stripe_of fate.Committed = 0
stripe_of fate.Violation = 1
stripe_of fate.Guess = 2
stripe_of fate.Cancel = 3
stripe_of fate.Active = 4

-- the tallies of a fate, with a bar if it is short and of this fate
abbrev pub with_bar : Sheet → Fate → Bar → List Tally → List Tally
with_bar s f b ts =
    cond (is_short s b && (stripe_of b.task.fate == stripe_of f))
    (with_one (cell s b.task.unit.0 b.start) (one_bar b) ts) ts

-- with all these
unfoldable pub with_bars : Sheet → Fate → List Tally → List Bar → List Tally
with_bars s f ts [] = ts
with_bars s f ts (b ∷ bs) = with_bars s f (with_bar s f b ts) bs

-- those of bars
abbrev pub bars_tallied : Sheet → Fate → List Bar → List Tally
bars_tallied s f bs = with_bars s f (replicate 512 none) bs
