-- What the whole machine holds of each task is its part, run anew on the memory of its place.
use Rattle.std.proofs.Common.{ℕ, zero, suc, ◌≡◌, ◌==◌, false, not, ◌&&◌, List, [], ◌∷◌, map, Some, refl, sym, ap, ◌∙◌, subst, option_map, slice_get, get_or, arith}
use Rattle.std.proofs.lemmas.Option.{slice_get-map, same_Some, none-some}
use Rattle.std.proofs.lemmas.Bool.{ne_eqb}
use Rattle.svc_core_laws.specs.Program.{Memory, Program, wrote, over, part, seq}
use Rattle.svc_bus_laws.specs.Versioned.{Row, fresh_row, with_head}
use Rattle.svc_bus_laws.specs.ByRows.{view_of}
use Rattle.svc_bus_laws.proofs.ByRowsLaws.{view_by_rows}
use Rattle.svc_machine_laws.specs.PlainMachine.{Task, Plain, Running, runs_of, running, run_of, row_of, memory_at}
use Rattle.svc_machine_laws.specs.WholeMachine.{machine_of, seat_of}
use Rattle.svc_machine_laws.specs.MachineLaws.{IsAnew}
use Rattle.svc_machine_laws.proofs.EditedLists.{view_hide}

-- each task's run is its part on the memory of its place
pub runs_at : {C : Type 0} (p : Program C) (m : Memory) (ts : List Task) (place : ℕ) → slice_get (runs_of p m ts) place ≡ option_map (run_of p (memory_at p m ts place)) (slice_get ts place)
runs_at p m [] place = refl
runs_at p m (t ∷ ts) zero = refl
runs_at p m (t ∷ ts) (suc place) = runs_at p (over (wrote (part p t.entry t.turns m).log) m) ts place

-- the view of a place is the memory of that place, under what the task itself wrote
pub view_at : {C : Type 0} (p : Program C) (m : Memory) (ts : List Task) (place : ℕ) (t : Task) → slice_get ts place ≡ Some t
    → view_of (map row_of (runs_of p m ts)) m place ≡ over (wrote (part p t.entry t.turns (memory_at p m ts place)).log) (memory_at p m ts place)
view_at p m [] place t h = absurd (none-some t h)
view_at p m (u ∷ ts) zero t h =
    let e : u ≡ t = same_Some u t h in
    subst (λ x. over (wrote (part p u.entry u.turns m).log) m ≡ over (wrote (part p x.entry x.turns m).log) m) e refl
view_at p m (u ∷ ts) (suc place) t h = view_at p (over (wrote (part p u.entry u.turns m).log) m) ts place t h

-- the rows by place
row_found : (rows : List Row) (place : ℕ) (row : Row) → slice_get rows place ≡ Some row → get_or rows place fresh_row ≡ row
row_found [] place row h = absurd (none-some row h)
row_found (r ∷ rows) zero row h = same_Some r row h
row_found (r ∷ rows) (suc place) row h = row_found rows place row h

hidden_versions : (rows : List Row) (place a : ℕ) → (get_or (with_head rows) place fresh_row).versions a ≡ (get_or rows place fresh_row).versions a
hidden_versions [] place a = refl
hidden_versions (row ∷ rows) zero a = refl
hidden_versions (row ∷ rows) (suc place) a = refl

later : (place : ℕ) → (suc place == 0) ≡ false
later place = ne_eqb (suc place) 0 (λ e. absurd (omega (arith, e)))

hidden_exposed : (rows : List Row) (place a : ℕ) → (get_or (with_head rows) place fresh_row).exposed a ≡ (not (place == 0) && (get_or rows place fresh_row).exposed a)
hidden_exposed [] zero a = refl
hidden_exposed [] (suc place) a = sym (ap (λ b. not b && false) (later place))
hidden_exposed (row ∷ rows) zero a = refl
hidden_exposed (row ∷ rows) (suc place) a = sym (ap (λ b. not b && (get_or rows place fresh_row).exposed a) (later place))

pub task_anew : {C : Type 0} (p : Program C) (s : Plain) (place : ℕ) (t : Task) → slice_get s.tasks place ≡ Some t → IsAnew p s place t
task_anew {C} p s place t h =
    let m : Memory = (seq p s.commits).memory in
    let runs : List (Running C) = running p s in
    let rows : List Row = map row_of runs in
    let x : Running C = run_of p (memory_at p m s.tasks place) t in
    let at : slice_get runs place ≡ Some x = runs_at p m s.tasks place ∙ ap (option_map (run_of p (memory_at p m s.tasks place))) h in
    let row : get_or rows place fresh_row ≡ row_of x = row_found rows place (row_of x) (slice_get-map row_of runs place ∙ ap (option_map row_of) at) in
    record {
      seat = slice_get-map seat_of runs place ∙ ap (option_map seat_of) at;
      versions = λ a. hidden_versions rows place a ∙ ap (λ (r : Row). r.versions a) row;
      exposes = λ a. hidden_exposed rows place a ∙ ap (λ (r : Row). not (place == 0) && r.exposed a) row;
      reads = λ a. ap (λ f. f a) (view_by_rows (machine_of p s).versioned place ∙ view_hide rows m place ∙ view_at p m s.tasks place t h);
    }
