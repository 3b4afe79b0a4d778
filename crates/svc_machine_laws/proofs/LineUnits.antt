-- What the line table's steps leave of its units, and what they leave as it was.
use Rattle.std.proofs.Common.{ℕ, zero, suc, ◌≡◌, ◌<◌, List, take, length, refl, sym, ap, ◌∙◌, arith, unwrap_or}
use Rattle.svc_core_laws.specs.Program.{Want, Local, Load, Store, Narrow, Emit}
use Rattle.svc_bus_laws.specs.Versioned.{Row, Versioned, view, victim}
use Rattle.svc_bus_laws.specs.ByRows.{victim_after, edit, read_rows, exposed_row}
use Rattle.svc_bus_laws.specs.LineTable.{LineTable, versioned_map}
use Rattle.svc_bus_laws.specs.Steps.{read, write, reuse, fill}
use Rattle.svc_bus_laws.specs.Sound.{IsSound}
use Rattle.svc_bus_laws.proofs.ByRowsLaws.{victim_by_rows}
use Rattle.svc_machine_laws.specs.PlainMachine.{cut_by}
use Rattle.svc_machine_laws.specs.LineEvents.{line_turn}
use Rattle.svc_machine_laws.specs.MachineLaws.{IsWithin}
use Rattle.svc_machine_laws.proofs.EditedLists.{edit_same, victim_edit}
use Rattle.svc_machine_laws.proofs.Places.{take_edit}
use Rattle.svc_machine_laws.proofs.Lines.{rows_units, read_keeps, read_step}

-- a read of one task has no part in the victims of its writes
read_victim : (p a b : ℕ) (rows : List Row) → victim_after (read_rows p a rows) p b ≡ victim_after rows p b
read_victim zero a b rows = refl
read_victim (suc p) a b rows = victim_edit (suc p) b (exposed_row a) rows

-- the units after a write
write_units : (t : LineTable) (p a w : ℕ) → p < length t.units → (write t p a w).units ≡ edit p (λ u. u) (victim_after (versioned_map t).rows p a) t.units
write_units t p a w within =
    ap (λ n. take (unwrap_or (victim (versioned_map t) p a) n) t.units) (rows_units t)
    ∙ ap (λ o. take (unwrap_or o (length t.units)) t.units) (victim_by_rows (versioned_map t) p a)
    ∙ take_edit p (victim_after (versioned_map t).rows p a) t.units within

read_units : (t : LineTable) (p a : ℕ) → (read t p a).units ≡ t.units
read_units t p a = read_keeps (λ u. u.units) t p a refl refl

-- the units after a turn that wants this
pub turn_units : {C : Type 0} (w : Want C) (t : LineTable) (p : ℕ) → IsSound t → p < length t.units → IsWithin t.words w → (line_turn w t p).units ≡ edit p (λ u. u) (cut_by w (versioned_map t).rows p) t.units
turn_units (Local c) t p sound within known = sym (edit_same p t.units)
turn_units (Load a value go) t p sound within known = read_units t p a ∙ sym (edit_same p t.units)
turn_units (Store a w c) t p sound within known = write_units t p a w within
turn_units (Narrow a f c) t p sound within known =
    let units : (read t p a).units ≡ t.units = read_units t p a in
    let one = read_step t p a sound within known in
    write_units (read t p a) p a (f (view (versioned_map t) p a)) (let e = ap length units in omega (arith, e, within))
    ∙ ap (edit p (λ u. u) (victim_after (versioned_map (read t p a)).rows p a)) units
    ∙ ap (λ (v : Versioned). edit p (λ u. u) (victim_after v.rows p a) t.units) one.same_map
    ∙ ap (λ c. edit p (λ u. u) c t.units) (read_victim p a a (versioned_map t).rows)
turn_units (Emit w c) t p sound within known = sym (edit_same p t.units)

-- what no step of a line changes, no turn does
pub turn_keeps : {C X : Type 0} (f : LineTable → X) (w : Want C) (t : LineTable) (p : ℕ)
    → ((u : LineTable) (a : ℕ) → f (reuse u p a) ≡ f u) → ((u : LineTable) (a : ℕ) → f (fill u p a) ≡ f u) → ((u : LineTable) (a v : ℕ) → f (write u p a v) ≡ f u)
    → f (line_turn w t p) ≡ f t
turn_keeps f (Local c) t p own asked wrote = refl
turn_keeps f (Load a value go) t p own asked wrote = read_keeps f t p a (own t a) (asked t a)
turn_keeps f (Store a w c) t p own asked wrote = wrote t a w
turn_keeps f (Narrow a g c) t p own asked wrote = wrote (read t p a) a (g (view (versioned_map t) p a)) ∙ read_keeps f t p a (own t a) (asked t a)
turn_keeps f (Emit w c) t p own asked wrote = refl
