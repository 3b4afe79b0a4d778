-- The grid of a picture of many entries: its rows are the lanes. Things of a kind in a cell are joined.
use Rattle.std.specs.Prelude.{ℕ, ◌+◌, ◌-◌, ◌*◌, ◌/◌, ◌==◌, max, min, nat_le, Bool, Option, Some, None}
use Rattle.svc_marks.specs.declared.bars.Bar.{Bar}
use Rattle.svc_sheet.specs.declared.sheet.Sheet.{Sheet}
use Rattle.svc_sheet.specs.Frame.{bar_height, bar_top, shown}
use Rattle.svc_shapes.specs.declared.sheet.TheConstants.{LEFT, WIDTH}

-- so many entries are shown that things are joined
unfoldable pub is_joined : Sheet → Bool
is_joined s = nat_le 1000 (shown s)

-- how many columns there are: a grid has at most 360 cells
unfoldable pub columns : Sheet → ℕ
columns s = max (min (360 / s.units) 149) 1

-- the column of an entry
unfoldable pub column : Sheet → (place : ℕ) → ℕ
column s place = (min place s.window.to - s.window.from) * columns s / shown s

-- the number of a cell
unfoldable pub cell : Sheet → (lane place : ℕ) → ℕ
cell s lane place = min (lane * columns s + column s place) 511

-- the middle of an entry's column
unfoldable pub column_x : Sheet → (place : ℕ) → ℕ
column_x s place = LEFT + min ((2 * column s place + 1) * WIDTH / (2 * columns s)) WIDTH

-- that of a place: the left edge if it comes before what is shown
abbrev pub place_column_x : Sheet → (place : Option ℕ) → ℕ
place_column_x s None = LEFT
place_column_x s (Some place) = column_x s place

-- the middle of the nth of a lane's four rows of marks
unfoldable pub row_y : Sheet → (lane row : ℕ) → ℕ
row_y s lane row = bar_top s lane + bar_height s * (2 * row + 1) / 8

-- the top of the nth of four stripes of bars
unfoldable pub stripe_y : Sheet → (lane row : ℕ) → ℕ
stripe_y s lane row = bar_top s lane + bar_height s * row / 4

-- the bar lies in one cell
unfoldable pub is_short : Sheet → Bar → Bool
is_short s b = column s b.start == column s b.end
