-- Where things stand in a picture, in its units of length.
use Rattle.std.specs.Prelude.{ℕ, ◌+◌, ◌-◌, ◌*◌, ◌/◌, min, max, nat_lt, nat_le, Bool, ◌&&◌, cond, Option, Some, None}
use Rattle.svc_marks.specs.declared.bars.Bar.{Bar}
use Rattle.svc_marks.specs.declared.marks.Mark.{Mark}
use Rattle.svc_marks.specs.declared.marks.Spot.{Spot}
use Rattle.svc_sheet.specs.declared.sheet.Sheet.{Sheet}
use Rattle.svc_shapes.specs.declared.sheet.TheConstants.{HEIGHT, LEFT, RIGHT, TOP, WIDTH}

-- how many entries are shown; 1 if there are none
unfoldable pub shown : Sheet → ℕ
shown s = max (s.window.to - s.window.from) 1

-- how wide an entry is
unfoldable pub slot : Sheet → ℕ
slot s = WIDTH / shown s

-- the middle of an entry; an edge if it isn't shown
unfoldable pub x_of : Sheet → (place : ℕ) → ℕ
x_of s place = LEFT + min ((2 * (min place s.window.to - s.window.from) + 1) * WIDTH / (2 * shown s)) WIDTH

-- how high the lanes are together, and where they end
unfoldable pub height : Sheet → ℕ
height s = cond s.style.is_compact (HEIGHT / 3) HEIGHT

unfoldable pub bottom : Sheet → ℕ
bottom s = TOP + height s

-- how high a lane is, and where it begins
unfoldable pub lane_height : Sheet → ℕ
lane_height s = height s / s.units

unfoldable pub lane_top : Sheet → (lane : ℕ) → ℕ
lane_top s lane = TOP + min (lane * height s / s.units) (height s)

-- how high a bar is, and where a lane's bars begin
unfoldable pub bar_height : Sheet → ℕ
bar_height s = min (lane_height s * 4 / 5) 130

unfoldable pub bar_top : Sheet → (lane : ℕ) → ℕ
bar_top s lane = lane_top s lane + (lane_height s - bar_height s) / 2

-- where a bar begins, and how wide it is
unfoldable pub bar_left : Sheet → Bar → ℕ
bar_left s b = cond (nat_lt b.task.first s.window.from) LEFT (x_of s b.start)

unfoldable pub bar_right : Sheet → Bar → ℕ
bar_right s b = cond (nat_le s.window.to b.end) RIGHT (x_of s b.end)

unfoldable pub bar_width : Sheet → Bar → ℕ
bar_width s b = max (bar_right s b - bar_left s b) 2

-- half the size of a mark
unfoldable pub radius : Sheet → ℕ
radius s = min (min (max (slot s / 3) 4) 10) (bar_height s / 4)

-- a mark has room for its value beside it
unfoldable pub is_wide : Sheet → Bool
is_wide s = nat_le 100 (slot s) && nat_le 60 (bar_height s)

-- where a place stands: the left edge if it comes before what is shown
abbrev pub place_x : Sheet → (place : Option ℕ) → ℕ
place_x s None = LEFT
place_x s (Some place) = x_of s place

unfoldable pub place_y : Sheet → (lane : ℕ) → ℕ
place_y s lane = bar_top s lane + bar_height s * 18 / 25

-- where a mark stands
abbrev pub mark_x : Sheet → Mark → ℕ
mark_x s m = x_of s m.place

abbrev pub mark_y : Sheet → Mark → ℕ
mark_y s m = place_y s m.entry.unit.0

-- the other end of a mark's arrow; the mark itself if there is none
abbrev pub end_x : Sheet → Mark → Option Spot → ℕ
end_x s m None = mark_x s m
end_x s m (Some spot) = place_x s spot.place

abbrev pub end_y : Sheet → Mark → Option Spot → ℕ
end_y s m None = mark_y s m
end_y s m (Some spot) = place_y s spot.lane.0
