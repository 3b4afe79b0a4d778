-- The line table's steps are the versioned map's, by the recursion on rows, and keep it sound.
use Rattle.std.proofs.Common.{ℕ, zero, suc, ◌≡◌, ◌<◌, Bool, true, false, cond, length, refl, ap, ◌∙◌, arith}
use Rattle.std.proofs.Common.{length-take}
use Rattle.svc_core_laws.specs.Program.{Want, Local, Load, Store, Narrow, Emit}
use Rattle.svc_bus_laws.specs.Versioned.{Row, Versioned, view}
use Rattle.svc_bus_laws.specs.ByRows as rows
use Rattle.svc_bus_laws.specs.ByRows.{view_of}
use Rattle.svc_bus_laws.specs.Search.{tabulate}
use Rattle.svc_bus_laws.specs.LineTable.{LineTable, versioned_map, row_of, is_active, is_reusable, line_at}
use Rattle.svc_bus_laws.specs.Steps.{read, write, squash, commit, reuse, fill}
use Rattle.svc_bus_laws.specs.Sound.{IsSound}
use Rattle.svc_bus_laws.proofs.ByRowsLaws.{view_by_rows, read_by_rows, write_by_rows, commit_by_rows}
use Rattle.svc_bus_laws.proofs.ReadLaws.{read_sound, read_map}
use Rattle.svc_bus_laws.proofs.WriteLaws.{write_law}
use Rattle.svc_bus_laws.proofs.CommitLaws.{commit_sound, commit_map}
use Rattle.svc_bus_laws.proofs.SquashLaws.{squash_law}
use Rattle.svc_machine_laws.specs.WholeMachine.{map_turn, settle}
use Rattle.svc_machine_laws.specs.LineEvents.{line_turn, line_settle}
use Rattle.svc_machine_laws.specs.MachineLaws.{IsWithin}

-- one step of the lines: sound, and of the map's meaning
pub record IsStep (t : LineTable) (v : Versioned) : Type 0 where
  pub sound : IsSound t
  pub same_map : versioned_map t ≡ v

pub count_rows : (n : ℕ) (f : ℕ → Row) → length (tabulate n f) ≡ n
count_rows zero f = refl
count_rows (suc n) f = ap suc (count_rows n (λ p. f (suc p)))

-- as many rows as units
pub rows_units : (t : LineTable) → length (versioned_map t).rows ≡ length t.units
rows_units t = count_rows (length t.units) (row_of t)

pub read_step : (t : LineTable) (place a : ℕ) → IsSound t → place < length t.units → a < t.words → IsStep (read t place a) (rows.read (versioned_map t) place a)
read_step t place a sound within known = record {
  sound = read_sound t place a sound within known;
  same_map = read_map t place a sound within known ∙ read_by_rows (versioned_map t) place a (let e = rows_units t in omega (arith, e, within));
}

pub write_step : (t : LineTable) (place a w : ℕ) → IsSound t → place < length t.units → a < t.words → IsStep (write t place a w) (rows.write (versioned_map t) place a w)
write_step t place a w sound within known =
    let law = write_law t place a w sound within known in
    record { sound = law.0; same_map = law.1 ∙ write_by_rows (versioned_map t) place a w (let e = rows_units t in omega (arith, e, within)) }

-- what neither a fill nor a reuse changes, no read does
pub read_keeps : {X : Type 0} (f : LineTable → X) (t : LineTable) (place a : ℕ) → f (reuse t place a) ≡ f t → f (fill t place a) ≡ f t → f (read t place a) ≡ f t
read_keeps f t place a own asked = split (is_active (line_at t place a)) (is_reusable (line_at t place a))
  where
    split : (x y : Bool) → f (cond x t (cond y (reuse t place a) (fill t place a))) ≡ f t
    split true y = refl
    split false true = own
    split false false = asked

-- a turn that wants this
pub line_turn_step : {C : Type 0} (w : Want C) (t : LineTable) (place : ℕ) → IsSound t → place < length t.units → IsWithin t.words w → IsStep (line_turn w t place) (map_turn w (versioned_map t) place)
line_turn_step (Local c) t place sound within known = record { sound = sound; same_map = refl }
line_turn_step (Load a value go) t place sound within known = read_step t place a sound within known
line_turn_step (Store a w c) t place sound within known = write_step t place a w sound within known
line_turn_step (Narrow a f c) t place sound within known =
    let first = read_step t place a sound within known in
    let units : (read t place a).units ≡ t.units = read_keeps (λ u. u.units) t place a refl refl in
    let second = write_step (read t place a) place a (f (view (versioned_map t) place a)) first.sound (let e = ap length units in omega (arith, e, within)) (let e : (read t place a).words ≡ t.words = read_keeps (λ u. u.words) t place a refl refl in omega (arith, e, known)) in
    record {
      sound = second.sound;
      same_map = second.same_map
          ∙ ap (λ v. rows.write v place a (f (view (versioned_map t) place a))) first.same_map
          ∙ ap (λ m. rows.write (rows.read (versioned_map t) place a) place a (f (m a))) (view_by_rows (versioned_map t) place);
    }
line_turn_step (Emit w c) t place sound within known = record { sound = sound; same_map = refl }

-- the tasks after the head are cut, or not, and the head is committed
pub line_commit_step : (t : LineTable) (keep : Bool) → IsSound t → 0 < length t.units → IsStep (commit (line_settle t keep)) (rows.commit (settle (versioned_map t) keep))
line_commit_step t true sound some = record {
  sound = commit_sound t sound some;
  same_map = commit_map t sound some ∙ commit_by_rows (versioned_map t) (let e = rows_units t in omega (arith, e, some));
}
line_commit_step t false sound some =
    let cut = squash_law t 1 sound (omega arith) (omega (arith, some)) in
    let one : 0 < length (squash t 1).units = let e = length-take 1 t.units in omega (arith, e, some) in
    record {
      sound = commit_sound (squash t 1) cut.0 one;
      same_map = commit_map (squash t 1) cut.0 one ∙ commit_by_rows (versioned_map (squash t 1)) (let e = rows_units (squash t 1) in omega (arith, e, one)) ∙ ap rows.commit cut.1;
    }
