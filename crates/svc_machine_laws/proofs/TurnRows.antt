-- A turn's row and seat, and the steps of the versioned map that it takes.
use Rattle.std.proofs.Common.{ℕ, zero, suc, ◌≡◌, false, List, [], ◌∷◌, None, refl, sym, ap, ◌∙◌}
use Rattle.svc_core_laws.specs.Program.{Memory, Want, Local, Load, Store, Narrow, Emit}
use Rattle.svc_bus_laws.specs.Versioned.{Row, Versioned, with_head, written_row}
use Rattle.svc_bus_laws.specs.ByRows.{view_of, victim_after, edit, exposed_row}
use Rattle.svc_machine_laws.specs.PlainMachine.{Running, row_of, cut_by}
use Rattle.svc_machine_laws.specs.WholeMachine.{seat_of, seat_turn, map_turn}
use Rattle.svc_machine_laws.proofs.EditedLists.{edit_same, edit_edit, victim_edit}
use Rattle.svc_machine_laws.proofs.Runs.{turned}

-- a row's turn that wants this, where memory is seen so
abbrev pub row_turn : {C : Type 0} → Want C → Memory → Row → Row
row_turn (Local c) look row = row
row_turn (Load a value go) look row = exposed_row a row
row_turn (Store a v c) look row = written_row row a v
row_turn (Narrow a f c) look row = written_row (exposed_row a row) a (f (look a))
row_turn (Emit v c) look row = row

pub row_turned : {C : Type 0} (w : Want C) (look : Memory) (x : Running C) → row_of (turned w look x) ≡ row_turn w look (row_of x)
row_turned (Local c) look x = refl
row_turned (Load a value go) look x = refl
row_turned (Store a v c) look x = refl
row_turned (Narrow a f c) look x = refl
row_turned (Emit v c) look x = refl

pub seat_turned : {C : Type 0} (w : Want C) (look : Memory) (x : Running C) → seat_of (turned w look x) ≡ seat_turn w look (seat_of x)
seat_turned (Local c) look x = refl
seat_turned (Load a value go) look x = refl
seat_turned (Store a v c) look x = refl
seat_turned (Narrow a f c) look x = refl
seat_turned (Emit v c) look x = refl

-- a read and a write at one place are one edit
narrow_rows : (place a v : ℕ) (rows : List Row)
    → edit place (λ row. written_row row a v) (victim_after (edit place (exposed_row a) None rows) place a) (edit place (exposed_row a) None rows)
    ≡ edit place (λ row. written_row (exposed_row a row) a v) (victim_after rows place a) rows
narrow_rows place a v rows =
    ap (λ c. edit place (λ row. written_row row a v) c (edit place (exposed_row a) None rows)) (victim_edit place a (exposed_row a) rows)
    ∙ edit_edit place (exposed_row a) (λ row. written_row row a v) (victim_after rows place a) rows

-- the steps of the versioned map change the rows as a turn does
pub map_turn_rows : {C : Type 0} (w : Want C) (k : ℕ) (m : Memory) (rows : List Row) (place : ℕ)
    → map_turn w (record { commits = k; committed = m; rows = with_head rows }) place
    ≡ record { commits = k; committed = m; rows = with_head (edit place (row_turn w (view_of (with_head rows) m place)) (cut_by w rows place) rows) }
map_turn_rows {C} w k m rows place = made w rows place
  where
    of : List Row → Versioned
    of q = record { commits = k; committed = m; rows = q }

    made : (w : Want C) (rows : List Row) (place : ℕ) → map_turn w (of (with_head rows)) place ≡ of (with_head (edit place (row_turn w (view_of (with_head rows) m place)) (cut_by w rows place) rows))
    made (Local c) rows place = ap (λ q. of (with_head q)) (sym (edit_same place rows))
    made (Load a value go) [] zero = refl
    made (Load a value go) [] (suc place) = refl
    made (Load a value go) (row ∷ rows) zero = refl
    made (Load a value go) (row ∷ rows) (suc place) = refl
    made (Store a v c) [] place = refl
    made (Store a v c) (row ∷ rows) zero = refl
    made (Store a v c) (row ∷ rows) (suc place) = refl
    made (Narrow a f c) [] zero = refl
    made (Narrow a f c) [] (suc place) = refl
    made (Narrow a f c) (row ∷ rows) zero = refl
    made (Narrow a f c) (row ∷ rows) (suc place) =
        let first : Row = record { versions = row.versions; exposed = λ b. false } in
        ap {B = Versioned} (λ q. of (first ∷ q)) (narrow_rows place a (f (view_of (first ∷ rows) m (suc place) a)) rows)
    made (Emit v c) rows place = ap (λ q. of (with_head q)) (sym (edit_same place rows))
