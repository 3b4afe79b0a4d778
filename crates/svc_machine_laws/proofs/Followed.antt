-- What a sequencer keeps follows the plain machine.
use Rattle.std.proofs.Common.{ℕ, zero, suc, ◌≡◌, ◌==◌, Bool, true, false, not, cond, List, [], ◌∷◌, map, take, drop, length, Option, Some, None, refl, sym, ap, ap₂, ◌∙◌, subst, slice_get, arith}
use Rattle.std.specs.Prelude.{unwrap_or, ◌||◌}
use Rattle.std.specs.List.{AllByRecursion, list_any}
use Rattle.std.proofs.lemmas.List.{take_all}
use Rattle.std.proofs.lemmas.Option.{same_Some, none-some}
use Rattle.std.proofs.lemmas.Bool.{eqb-true}
use borrow.Author.Tests.{both_ways}
use Rattle.svc_image.specs.Image.{Image, is_entry}
use Rattle.svc_core_laws.specs.declared.end.End.{End}
use Rattle.svc_core_laws.specs.Program.{Memory, Program, Run, part, seq, due_after, IsProgram}
use Rattle.svc_core_laws.specs.Words.{program}
use Rattle.svc_bus_laws.specs.ByRows.{cut_at, edit}
use Rattle.svc_machine_laws.specs.PlainMachine.{Task, Plain, Running, runs_of, running, entry_of, entry_for, stays, staying_tasks, more, one_more, cut_by, take_turn_by, tasks_after_submit, row_of, IsDue, cuts_next}
use Rattle.svc_machine_laws.specs.PlainMachine as plain
use Rattle.svc_machine_laws.specs.MachineLaws.{HasEnded}
use Rattle.svc_machine_laws.specs.Guess.{newer_successor, successor_at, guess, guess_after, youngest, entry_after, last_end}
use Rattle.svc_machine_laws.specs.Guide.{Guide, guide_of, successor_in, guess_of, guide_assigned, guide_cut, guide_committed, guide_settled, with_successor}
use Rattle.svc_machine_laws.specs.Reached.{BeganAtEntry}
use Rattle.svc_machine_laws.proofs.EditedLists.{map_append_one, map_take}
use Rattle.svc_machine_laws.proofs.Parts.{seq_commit}

-- ---- an assignment, a cancel and a submit

pub assign_guide : {C : Type 0} (p : Program C) (entries : List ℕ) (s : Plain) (unit guess : ℕ) → guide_of p entries (plain.assign p s unit guess) ≡ guide_assigned guess (guide_of p entries s)
assign_guide p entries s unit guess = ap {B = Guide} (λ l. record (guide_of p entries s) { active = l }) (map_append_one entry_of s.tasks _)

pub cancel_guide : {C : Type 0} (p : Program C) (entries : List ℕ) (s : Plain) (place : ℕ) → guide_of p entries (plain.cancel s place) ≡ guide_cut place (guide_of p entries s)
cancel_guide p entries s place = ap {B = Guide} (λ l. record (guide_of p entries s) { active = l }) (map_take entry_of place s.tasks)

take_taken : {A : Type 0} (n : ℕ) (xs : List A) → take n xs ≡ take (length (take n xs)) xs
take_taken zero xs = refl
take_taken (suc n) [] = refl
take_taken {A} (suc n) (x ∷ xs) = ap {B = List A} (λ q. x ∷ q) (take_taken n xs)

cut_front : {A : Type 0} (c : Option ℕ) (xs : List A) → cut_at c xs ≡ take (length (cut_at c xs)) xs
cut_front None xs = sym (take_all (length xs) xs (omega arith))
cut_front (Some n) xs = take_taken n xs

-- what is left of an edited list, by what no edit changes
edit_front : {A B : Type 0} (h : A → B) (place : ℕ) (f : A → A) (c : Option ℕ) (xs : List A) → ((x : A) → h (f x) ≡ h x) → map h (edit place f c xs) ≡ take (length (edit place f c xs)) (map h xs)
edit_front h place f c [] same = refl
edit_front {A} {B} h zero f c (x ∷ xs) same = ap₂ (λ (y : B) (ys : List B). y ∷ ys) (same x) (ap (map h) (cut_front c xs) ∙ map_take h (length (cut_at c xs)) xs)
edit_front {A} {B} h (suc place) f c (x ∷ xs) same = ap {B = List B} (λ q. h x ∷ q) (edit_front h place f c xs same)

edit_all : {A B : Type 0} (h : A → B) (place : ℕ) (f : A → A) (xs : List A) → ((x : A) → h (f x) ≡ h x) → map h (edit place f None xs) ≡ map h xs
edit_all h place f [] same = refl
edit_all {A} {B} h zero f (x ∷ xs) same = ap {B = List B} (λ y. y ∷ map h xs) (same x)
edit_all {A} {B} h (suc place) f (x ∷ xs) same = ap {B = List B} (λ q. h x ∷ q) (edit_all h place f xs same)

pub edit_count : {A : Type 0} (place : ℕ) (f : A → A) (xs : List A) → length (edit place f None xs) ≡ length xs
edit_count place f [] = refl
edit_count zero f (x ∷ xs) = refl
edit_count (suc place) f (x ∷ xs) = ap suc (edit_count place f xs)

pub map_count : {A B : Type 0} (f : A → B) (xs : List A) → length (map f xs) ≡ length xs
map_count f [] = refl
map_count f (x ∷ xs) = ap suc (map_count f xs)

asked_front : {C : Type 0} (p : Program C) (runs : List (Running C)) (ts : List Task) (place : ℕ) (o : Option (Running C)) → map entry_of (take_turn_by p runs ts place o) ≡ take (length (take_turn_by p runs ts place o)) (map entry_of ts)
asked_front p runs ts place None = sym (take_all (length ts) (map entry_of ts) (let e = map_count entry_of ts in omega (arith, e)))
asked_front p runs ts place (Some x) = edit_front entry_of place one_more (cut_by (p.want x.run.core) (map row_of runs) place) ts (λ t. refl)

submit_front : {C : Type 0} (p : Program C) (m : Memory) (ts : List Task) (place local : ℕ) (ask : Bool) → map entry_of (tasks_after_submit p m ts place local ask) ≡ take (length (tasks_after_submit p m ts place local ask)) (map entry_of ts)
submit_front p m ts place local false = edit_front entry_of place (more local) None ts (λ t. refl)
submit_front p m ts place local true =
    let now : List Task = edit place (more local) None ts in
    asked_front p (runs_of p m now) now place (slice_get (runs_of p m now) place)
    ∙ ap (take (length (tasks_after_submit p m ts place local true))) (edit_all entry_of place (more local) ts (λ t. refl))

pub submit_guide : {C : Type 0} (p : Program C) (entries : List ℕ) (s : Plain) (place local : ℕ) (ask : Bool)
    → guide_of p entries (plain.submit p s place local ask) ≡ guide_cut (length (plain.submit p s place local ask).tasks) (guide_of p entries s)
submit_guide p entries s place local ask = ap {B = Guide} (λ l. record (guide_of p entries s) { active = l }) (submit_front p (seq p s.commits).memory s.tasks place local ask)

pub check_guide : {C : Type 0} (p : Program C) (entries : List ℕ) (s : Plain) (place : ℕ)
    → guide_of p entries (plain.check p s place) ≡ guide_cut (length (plain.check p s place).tasks) (guide_of p entries s)
check_guide p entries s place = of (plain.is_misled p s place)
  where
    front : (n : ℕ) → map entry_of (take n s.tasks) ≡ take (length (take n s.tasks)) (map entry_of s.tasks)
    front n = ap (map entry_of) (take_taken n s.tasks) ∙ map_take entry_of (length (take n s.tasks)) s.tasks

    of : (b : Bool) → guide_of p entries (cond b (plain.keep (suc place) s) s) ≡ guide_cut (length (cond b (plain.keep (suc place) s) s).tasks) (guide_of p entries s)
    of true = ap {B = Guide} (λ l. record (guide_of p entries s) { active = l }) (front (suc place))
    of false = ap {B = Guide} (λ l. record (guide_of p entries s) { active = l }) (sym (take_all (length s.tasks) (map entry_of s.tasks) (let e = map_count entry_of s.tasks in omega (arith, e))))

-- ---- a commit

successors_step : {C : Type 0} (p : Program C) (k : ℕ) (entries : List ℕ) (began next : Option ℕ) → (seq p k).due ≡ began → (seq p (suc k)).due ≡ next
    → map (successor_at p (suc k)) entries ≡ with_successor entries began next (map (successor_at p k) entries)
successors_step p k [] began next e f = refl
successors_step p k (x ∷ entries) began next e f =
    ap₂ (λ (y : Option ℕ) (ys : List (Option ℕ)). y ∷ ys) (ap₂ (λ b n. newer_successor b x n (successor_at p k x)) e f) (successors_step p k entries began next e f)

-- the entries that stay
kept_entries : (ended : End) (e : ℕ) (ts : List Task) → map entry_of (staying_tasks (Some ended) ts) ≡ drop 1 (cond (cuts_next ended (map entry_of ts)) (take 1 (e ∷ map entry_of ts)) (e ∷ map entry_of ts))
kept_entries ended e [] = none (stays (Some ended) [])
  where
    none : (b : Bool) → let ts : List Task = [] in map entry_of (cond b ts []) ≡ drop 1 (e ∷ [])
    none true = refl
    none false = refl
kept_entries ended e (t ∷ ts) = split (stays (Some ended) (map entry_of (t ∷ ts)))
  where
    split : (b : Bool) → map entry_of (cond b (t ∷ ts) []) ≡ drop 1 (cond (not b) (take 1 (e ∷ map entry_of (t ∷ ts))) (e ∷ map entry_of (t ∷ ts)))
    split true = refl
    split false = refl

-- a cut leaves all but the active tasks
settled_parts : (ended : End) (b : Bool) (g : Guide) (began : ℕ) (rest : List ℕ) → g.active ≡ began ∷ rest
    → guide_committed ended (cond b (guide_cut 1 g) g)
    ≡ record { entries = g.entries; due = due_after (Some ended); successors = with_successor g.entries (Some began) (due_after (Some ended)) g.successors; active = drop 1 (cond b (take 1 (began ∷ rest)) (began ∷ rest)) }
settled_parts ended true g began rest e = ap {B = Guide} (λ l. record { entries = g.entries; due = due_after (Some ended); successors = with_successor g.entries (slice_get (take 1 l) 0) (due_after (Some ended)) g.successors; active = drop 1 (take 1 l) }) e
settled_parts ended false g began rest e = ap {B = Guide} (λ l. record { entries = g.entries; due = due_after (Some ended); successors = with_successor g.entries (slice_get l 0) (due_after (Some ended)) g.successors; active = drop 1 l }) e

commit_tasks_guide : {C : Type 0} (p : Program C) → IsProgram p → (entries : List ℕ) (k a e : ℕ) (ts : List Task) (x : Running C) (ended : End)
    → slice_get (runs_of p (seq p k).memory ts) 0 ≡ Some x
    → IsDue (seq p k).due ts → ((y : Running C) → slice_get (runs_of p (seq p k).memory ts) 0 ≡ Some y → p.done y.run.core ≡ Some ended)
    → let s : Plain = record { commits = k; accepted = a; epoch = e; tasks = ts } in guide_of p entries (plain.commit p s) ≡ guide_committed ended (guide_settled ended (guide_of p entries s))
commit_tasks_guide p good entries k a e [] x ended here due done = absurd (none-some x here)
commit_tasks_guide {C} p good entries k a e (t ∷ ts) x ended here due done =
    let s : Plain = record { commits = k; accepted = a; epoch = e; tasks = t ∷ ts } in
    let r : Run C = part p t.entry t.turns (seq p k).memory in
    let over : p.done r.core ≡ Some ended = done (record { task = t; run = r }) refl in
    let next : (seq p (suc k)).due ≡ due_after (Some ended) = ap (λ q. q.due) (seq_commit p good k t.entry t.turns ended due over) ∙ ap due_after over in
    let of : Option ℕ → List (Option ℕ) → List ℕ → Guide = λ d o l. record { entries = entries; due = d; successors = o; active = l } in
    ap (λ o. of (seq p (suc k)).due (map (successor_at p (suc k)) entries) (map entry_of (staying_tasks o ts))) over
    ∙ ap₂ (λ d o. of d o (map entry_of (staying_tasks (Some ended) ts))) next (successors_step p k entries (Some t.entry) (due_after (Some ended)) due next)
    ∙ ap (of (due_after (Some ended)) (with_successor entries (Some t.entry) (due_after (Some ended)) (map (successor_at p k) entries))) (kept_entries ended t.entry ts)
    ∙ sym (settled_parts ended (cuts_next ended (map entry_of ts)) (guide_of p entries s) t.entry (map entry_of ts) refl)

pub commit_guide : {C : Type 0} (p : Program C) → IsProgram p → (entries : List ℕ) (s : Plain) (x : Running C) → slice_get (running p s) 0 ≡ Some x
    → IsDue (seq p s.commits).due s.tasks → (done : HasEnded p s)
    → guide_of p entries (plain.commit p s) ≡ guide_committed done.end (guide_settled done.end (guide_of p entries s))
commit_guide p good entries s x here due done = commit_tasks_guide p good entries s.commits s.accepted s.epoch s.tasks x done.end here due done.is

-- ---- the guess

table_has : (f : ℕ → Option ℕ) (entries : List ℕ) (e : ℕ) → list_any (λ x. x == e) entries ≡ true → successor_in entries (map f entries) e ≡ f e
table_has f [] e h = absurd (both_ways false refl h)
table_has f (x ∷ entries) e h = split (table_has f entries e) (x == e) refl h
  where
    split : (list_any (λ y. y == e) entries ≡ true → successor_in entries (map f entries) e ≡ f e) → (b : Bool) → (x == e) ≡ b → (b || list_any (λ y. y == e) entries) ≡ true
        → cond b (f x) (successor_in entries (map f entries) e) ≡ f e
    split rest true same h = ap f (eqb-true x e same)
    split rest false same h = rest h

-- the youngest of tasks that began at entries did so
youngest_entry : (img : Image) (ts : List Task) (e : ℕ) → AllByRecursion (BeganAtEntry img) ts → youngest (map entry_of ts) ≡ Some e → is_entry img e ≡ true
youngest_entry img [] e all h = absurd (none-some e h)
youngest_entry img (t ∷ []) e all h = subst (λ x. is_entry img x ≡ true) (same_Some t.entry e h) all.0
youngest_entry img (t ∷ u ∷ ts) e all h = youngest_entry img (u ∷ ts) e all.1 h

pub guess_is : (img : Image) (s : Plain) → AllByRecursion (BeganAtEntry img) s.tasks → guess_of (last_end (plain.run_done (program img)) (running (program img) s)) (guide_of (program img) img.entries s) ≡ guess (program img) img.entries s
unfolding is_entry
guess_is img s all = of (youngest (map entry_of s.tasks)) refl
  where
    ended : Option End
    ended = last_end (plain.run_done (program img)) (running (program img) s)

    of : (o : Option ℕ) → youngest (map entry_of s.tasks) ≡ o
        → guess_after img.entries (seq (program img) s.commits).due (successor_in img.entries (map (successor_at (program img) s.commits) img.entries)) ended o
        ≡ guess_after img.entries (seq (program img) s.commits).due (successor_at (program img) s.commits) ended o
    of None h = refl
    of (Some e) h = ap (λ n. Some (unwrap_or (due_after ended) (unwrap_or n (entry_after img.entries e)))) (table_has (successor_at (program img) s.commits) img.entries e (youngest_entry img s.tasks e all h))
