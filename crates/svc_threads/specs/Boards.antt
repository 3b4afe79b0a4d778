-- The rule of the board: what its rows are, and what each pass knows.
use Rattle.std.specs.Prelude.{◌≡◌, ℕ, ◌≤◌, List, Bool, true, false}
use mathlib.Core.Option.{some}
use lib.ListN.{get_elem?}
use Rattle.atomic_table.specs.Seated.{TableId}
use Rattle.svc_history_laws.specs.Board.{Tally, IsInOrder}
use Rattle.svc_threads.specs.declared.board.BoardRow.{BoardRow}
use Rattle.svc_threads.specs.declared.board.View.{View}

-- the board that a pass belongs to, whether it publishes, and the last row that it published or read
pub record Knower : Type 0 where
  pub board : TableId
  pub publishes : Bool
  pub row : BoardRow

-- what a pass knows
abbrev pub knower : TableId → Bool → BoardRow → Knower
knower board publishes row = record { board = board; publishes = publishes; row = row }

-- the row that shows these numbers, and the numbers that a row shows
abbrev pub row_of : Tally → BoardRow
row_of t = record { events = t.events; assigned = t.assigned; committed = t.committed; squashed = t.squashed }

abbrev pub tally_of : BoardRow → Tally
tally_of r = record { events = r.events; assigned = r.assigned; committed = r.committed; squashed = r.squashed }

abbrev pub zeros : BoardRow
zeros = record { events = 0; assigned = 0; committed = 0; squashed = 0 }

abbrev pub view_of : Bool → BoardRow → View
view_of publishes row = record { publishes = publishes; row = row }

-- the order in which every row has its four numbers
abbrev pub InOrder : BoardRow → Type 0
InOrder r = IsInOrder (tally_of r)

-- no number of the first row is above the second's
abbrev pub AtMost : BoardRow → BoardRow → Type 0
AtMost r s = (r.events ≤ s.events) × (r.assigned ≤ s.assigned) × (r.committed ≤ s.committed) × (r.squashed ≤ s.squashed)

-- a pass has seen no more than the row; if it publishes, it is the only one that does, and knows the row
abbrev pub Fits : ℕ → BoardRow → ℕ → View → Type 0
Fits seat row by v = AtMost v.row row × (v.publishes ≡ true → (by ≡ seat) × (v.row ≡ row))

-- the row is in order, and each pass fits it
abbrev pub Ruled : BoardRow → List View → Type 0
Ruled row views = InOrder row × ((seat : ℕ) × ((by : ℕ) (v : View) → get_elem? views by ≡ some v → Fits seat row by v))

-- after a publish the pass knows the new row
abbrev pub Published : View → BoardRow → BoardRow → View → Type 0
Published v before after w = w ≡ view_of v.publishes after

-- after a read the pass knows the row, which is in order and not below what the pass had seen
abbrev pub HasRead : View → BoardRow → BoardRow → View → Type 0
HasRead v before after w = (w ≡ view_of v.publishes after) × InOrder after × AtMost v.row after

-- a pass that has seen as much, and doesn't publish
abbrev pub reader : View → View
reader v = view_of false v.row
