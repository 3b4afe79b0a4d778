-- The bars and marks of a picture of many entries: those of a kind in a cell of its grid are drawn as one.
use Rattle.std.specs.Prelude.{ℕ, ◌+◌, ◌-◌, ◌*◌, ◌/◌, ◌==◌, max, cond, List, [], ◌++◌, Option, Some, None}
use Rattle.std.specs.Prelude.{codes, flat_map}
use Rattle.svc_task_runs.specs.declared.task_run.Fate.{Fate}
use Rattle.svc_task_runs.specs.declared.task_run.Fate.TheVariants as fate
use Rattle.svc_marks.specs.declared.bars.Bar.{Bar}
use Rattle.svc_marks.specs.declared.marks.Mark.{Mark}
use Rattle.svc_marks.specs.declared.marks.MarkKind.{MarkKind}
use Rattle.svc_marks.specs.declared.marks.MarkKind.TheVariants as mark
use Rattle.svc_marks.specs.declared.marks.Spot.{Spot}
use Rattle.svc_sheet.specs.declared.sheet.Sheet.{Sheet}
use Rattle.svc_draw.specs.declared.tallies.Tally.{Tally}
use Rattle.svc_sheet.specs.Drawing.{bar_name, bar_text, element_of}
use Rattle.svc_sheet.specs.Frame.{bar_height, bottom, x_of}
use Rattle.svc_sheet.specs.Grid.{column_x, is_short, place_column_x, row_y, stripe_y}
use Rattle.svc_draw.specs.Tallies.{bars_tallied, marks_tallied, stripe_of}
use Rattle.svc_shapes.specs.declared.sheet.TheConstants.{TOP}
use Rattle.svc_shapes.specs.Shapes.{close, group_close, group_open, joined_title, mark_at, plain_box, plain_line}

-- ---- bars

-- what the stripes of a fate have in common; an active task's bar goes on to the edge, and so is never short
abbrev pub stripe_style : Fate → List ℕ
stripe_style fate.Active = codes " fill='url(#active)'"
stripe_style fate.Committed = codes " fill='#d3ead0' stroke='#333'"
stripe_style fate.Violation = codes " fill='url(#violation)'"
stripe_style fate.Guess = codes " fill='url(#guess)'"
stripe_style fate.Cancel = codes " fill='url(#cancel)'"

-- what such tasks are called
abbrev pub tasks_called : Fate → List ℕ
tasks_called fate.Active = codes "active"
tasks_called fate.Committed = codes "committed"
tasks_called fate.Violation = codes "read too early"
tasks_called fate.Guess = codes "wrong guess"
tasks_called fate.Cancel = codes "cancelled"

-- the box of a cell's bars of a fate, from the first one's start to the last one's end
unfoldable pub stripe_box : Sheet → Fate → Tally → List ℕ
stripe_box s f t =
    plain_box (x_of s t.first) (stripe_y s t.lane (stripe_of f)) (max (x_of s t.last - x_of s t.first) 2)
    (bar_height s / 4)

-- with its title, if there are any
unfoldable pub stripe_text : Sheet → Fate → Tally → List ℕ
stripe_text s f t = stripe_box s f t ++ joined_title t.count (tasks_called f) t.first t.last ++ close (codes "rect")

abbrev pub stripe : Sheet → Fate → Tally → List ℕ
stripe s f t = cond (t.count == 0) [] (stripe_text s f t)

-- those of a fate
unfoldable pub stripes : Sheet → Fate → List Bar → List ℕ
stripes s f bs = group_open (stripe_style f) ++ flat_map (stripe s f) (bars_tallied s f bs) ++ group_close

-- a bar and its words, if it lies in more than one cell
abbrev pub long_bar : Sheet → Bar → List ℕ
long_bar s b = cond (is_short s b) [] (bar_text s b)

abbrev pub long_name : Sheet → Bar → List ℕ
long_name s b = cond (is_short s b) [] (bar_name s b)

unfoldable pub joined_bars : Sheet → List Bar → List ℕ
joined_bars s bs =
    flat_map (long_bar s) bs ++ stripes s fate.Committed bs ++ stripes s fate.Violation bs ++ stripes s fate.Guess bs
    ++ stripes s fate.Cancel bs

-- ---- marks

-- what the marks of a kind have in common
abbrev pub style_of : MarkKind → List ℕ
style_of mark.Commit = codes " stroke='#2e7d32' stroke-width='2' stroke-dasharray='6 4'"
style_of mark.Handed = codes " stroke='#14508c' stroke-width='2' marker-end='url(#thin)'"
style_of mark.Squash = codes " stroke='#b01010' stroke-width='4' marker-end='url(#bold)'"
style_of _ = []

-- what they are called
abbrev pub marks_called : MarkKind → List ℕ
marks_called mark.Load = codes "loads"
marks_called mark.Store = codes "stores"
marks_called mark.PutOut = codes "words put out"
marks_called mark.Replace = codes "lines replaced"
marks_called mark.Commit = codes "commits"
marks_called mark.Handed = codes "versions read"
marks_called mark.Squash = codes "reads too early"

-- where the other end of the first one's arrow stands; on its lane, in a row
abbrev pub other_x : Sheet → Tally → Option Spot → ℕ
other_x s t None = column_x s t.first
other_x s t (Some spot) = place_column_x s spot.place

abbrev pub other_y : Sheet → (row : ℕ) → Tally → Option Spot → ℕ
other_y s row t None = row_y s t.lane row
other_y s row t (Some spot) = row_y s spot.lane.0 row

-- a mark in the middle of its column, in a row of its kind; lines and arrows go from and to such marks
unfoldable pub use_at : Sheet → Tally → (row : ℕ) → (name : List ℕ) → List ℕ
use_at s t row name = mark_at (column_x s t.first) (row_y s t.lane row) name []

abbrev pub joined_shape : Sheet → Tally → MarkKind → List ℕ
joined_shape s t mark.Load = use_at s t 0 (codes "load")
joined_shape s t mark.Store = use_at s t 1 (codes "store")
joined_shape s t mark.PutOut = use_at s t 2 (codes "output")
joined_shape s t mark.Replace = use_at s t 3 (codes "replace")
joined_shape s t mark.Commit = plain_line (column_x s t.first) TOP (column_x s t.first) (bottom s)
joined_shape s t mark.Handed =
    plain_line (other_x s t t.other) (other_y s 1 t t.other) (column_x s t.first) (row_y s t.lane 0)
joined_shape s t mark.Squash =
    plain_line (column_x s t.first) (row_y s t.lane 1) (other_x s t t.other) (other_y s 0 t t.other)

-- with its title, if there are any
unfoldable pub joined_text : Sheet → MarkKind → Tally → List ℕ
joined_text s kind t =
    joined_shape s t kind ++ joined_title t.count (marks_called kind) t.first t.last ++ close (element_of kind)

abbrev pub joined_mark : Sheet → MarkKind → Tally → List ℕ
joined_mark s kind t = cond (t.count == 0) [] (joined_text s kind t)

-- those of a kind
unfoldable pub joined_kind : Sheet → MarkKind → List Mark → List ℕ
joined_kind s kind ms =
    group_open (style_of kind) ++ flat_map (joined_mark s kind) (marks_tallied s kind ms) ++ group_close

-- of all kinds: lines below, then arrows, then shapes
unfoldable pub joined_lines : Sheet → List Mark → List ℕ
joined_lines s ms = joined_kind s mark.Commit ms ++ joined_kind s mark.Handed ms ++ joined_kind s mark.Squash ms

unfoldable pub joined_shapes : Sheet → List Mark → List ℕ
joined_shapes s ms =
    joined_kind s mark.Load ms ++ joined_kind s mark.Store ms ++ joined_kind s mark.PutOut ms
    ++ joined_kind s mark.Replace ms
