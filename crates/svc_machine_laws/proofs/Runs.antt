-- How the runs of the active tasks change where one of them takes a turn.
use Rattle.std.proofs.Common.{ℕ, zero, suc, ◌≡◌, ◌==◌, Bool, true, false, cond, List, [], ◌∷◌, map, Option, Some, None, refl, sym, ap, ◌∙◌, subst}
use Rattle.std.proofs.Common.{unwrap_or, is_some, option_map, slice_get}
use Rattle.std.proofs.lemmas.Option.{same_Some}
use borrow.Author.Tests.{eqb-true, both_ways}
use mathlib.Core.Path.{fun_ext}
use Rattle.svc_core_laws.specs.Program.{Memory, Words, Want, Local, Load, Store, Narrow, Emit, Program, Run, Action, with_word, wrote, exposed_words, over, act, part}
use Rattle.svc_bus_laws.specs.Versioned.{Row}
use Rattle.svc_bus_laws.specs.ByRows.{view_of, first_exposed, cut_at, edit}
use Rattle.svc_machine_laws.specs.PlainMachine.{Task, Running, runs_of, row_of, one_more, cut_by}
use Rattle.svc_core_laws.proofs.Central.{part_agrees}

-- two memories that differ at a alone
abbrev pub DifferAt : ℕ → Memory → Memory → Type 0
DifferAt a m m' = (b : ℕ) → (a == b) ≡ false → m b ≡ m' b

-- a test that is false of one number is false of another only if they differ
apart : (reads : ℕ → Bool) (a b : ℕ) → reads a ≡ false → reads b ≡ true → (a == b) ≡ false
apart reads a b off on = go (a == b) refl
  where
    go : (t : Bool) → (a == b) ≡ t → t ≡ false
    go false e = refl
    go true e = let same : a ≡ b = eqb-true a b e in absurd (both_ways (reads b) (subst (λ x. reads x ≡ false) same off) on)

-- words over two memories that differ at a alone
over_differ : (words : Words) (a : ℕ) (m m' : Memory) → DifferAt a m m' → DifferAt a (over words m) (over words m')
over_differ words a m m' h b k = ap (unwrap_or (words b)) (h b k)

-- where the words have a, they hide the difference
over_hides : (words : Words) (a : ℕ) (m m' : Memory) → DifferAt a m m' → is_some (words a) ≡ true → over words m ≡ over words m'
over_hides words a m m' h has = fun_ext at
  where
    hidden : (o : Option ℕ) (x y : ℕ) → is_some o ≡ true → unwrap_or o x ≡ unwrap_or o y
    hidden (Some w) x y e = refl
    hidden None x y e = absurd (both_ways false refl e)

    split : (b : ℕ) (t : Bool) → (a == b) ≡ t → over words m b ≡ over words m' b
    split b true e = let same : a ≡ b = eqb-true a b e in hidden (words b) (m b) (m' b) (subst (λ x. is_some (words x) ≡ true) same has)
    split b false e = ap (unwrap_or (words b)) (h b e)

    at : (b : ℕ) → over words m b ≡ over words m' b
    at b = split b (a == b) refl

-- a word that is written over memory
with_word_differs : (words : Words) (a w : ℕ) (m : Memory) → DifferAt a (over words m) (over (with_word a w words) m)
with_word_differs words a w m b k = rw k refl

cut_suc : {A : Type 0} (c : Option ℕ) (x : A) (xs : List A) → cut_at (option_map suc c) (x ∷ xs) ≡ x ∷ cut_at c xs
cut_suc None x xs = refl
cut_suc (Some n) x xs = refl

abbrev rows_of : {C : Type 0} → Program C → Memory → List Task → List Row
rows_of p m ts = map row_of (runs_of p m ts)

-- THE LATER TASKS: where memory changes at a alone, the tasks before the first one that read a exposed run as before
pub later : {C : Type 0} (p : Program C) (a : ℕ) (m m' : Memory) (ts : List Task) → DifferAt a m m'
    → runs_of p m' (cut_at (first_exposed (rows_of p m ts) a) ts) ≡ cut_at (first_exposed (rows_of p m ts) a) (runs_of p m ts)
later p a m m' [] h = refl
later {C} p a m m' (t ∷ ts) h = split (later p a after after' ts (over_differ (wrote r.log) a m m' h)) (exposed_words r.log a) (is_some (wrote r.log a)) refl refl
  where
    r : Run C
    r = part p t.entry t.turns m

    x : Running C
    x = record { task = t; run = r }

    after : Memory
    after = over (wrote r.log) m

    after' : Memory
    after' = over (wrote r.log) m'

    c : Option ℕ
    c = first_exposed (rows_of p after ts) a

    -- the task itself runs as before
    same : exposed_words r.log a ≡ false → r ≡ part p t.entry t.turns m'
    same off = part_agrees p t.entry t.turns m m' (λ b on. h b (apart (exposed_words r.log) a b off on))

    front : exposed_words r.log a ≡ false → (us : List Task) → runs_of p m' (t ∷ us) ≡ x ∷ runs_of p after' us
    front off us = ap {B = List (Running C)} (λ q. record { task = t; run = q } ∷ runs_of p (over (wrote q.log) m') us) (sym (same off))

    split : runs_of p after' (cut_at c ts) ≡ cut_at c (runs_of p after ts) → (e s : Bool) → exposed_words r.log a ≡ e → is_some (wrote r.log a) ≡ s
        → runs_of p m' (cut_at (cond e (Some 0) (cond s None (option_map suc c))) (t ∷ ts)) ≡ cut_at (cond e (Some 0) (cond s None (option_map suc c))) (x ∷ runs_of p after ts)
    split rest true s on k = refl
    split rest false true off k =
        front off ts ∙ ap {B = List (Running C)} (λ q. x ∷ runs_of p q ts) (sym (over_hides (wrote r.log) a m m' h k))
    split rest false false off k =
        ap (runs_of p m') (cut_suc c t ts)
        ∙ front off (cut_at c ts)
        ∙ ap {B = List (Running C)} (λ q. x ∷ q) rest
        ∙ sym (cut_suc c x (runs_of p after ts))

-- what follows a turn on the log, where the turn wants this
after_turn : {C : Type 0} (p : Program C) (w : Want C) (m look : Memory) (log : List Action) (row : Row) (ts : List Task)
    → runs_of p (over (wrote (act w look log).log) m) (cut_at (cut_by w (row ∷ rows_of p (over (wrote log) m) ts) zero) ts)
    ≡ cut_at (cut_by w (row ∷ rows_of p (over (wrote log) m) ts) zero) (runs_of p (over (wrote log) m) ts)
after_turn p (Local c) m look log row ts = refl
after_turn p (Load a value go) m look log row ts = refl
after_turn p (Store a v c) m look log row ts = later p a (over (wrote log) m) (over (with_word a v (wrote log)) m) ts (with_word_differs (wrote log) a v m)
after_turn p (Narrow a f c) m look log row ts = later p a (over (wrote log) m) (over (with_word a (f (look a)) (wrote log)) m) ts (with_word_differs (wrote log) a (f (look a)) m)
after_turn p (Emit v c) m look log row ts = refl

cut_by_suc : {C : Type 0} (w : Want C) (row : Row) (rows : List Row) (place : ℕ) → cut_by w (row ∷ rows) (suc place) ≡ cut_by w rows place
cut_by_suc (Local c) row rows place = refl
cut_by_suc (Load a value go) row rows place = refl
cut_by_suc (Store a v c) row rows place = refl
cut_by_suc (Narrow a f c) row rows place = refl
cut_by_suc (Emit v c) row rows place = refl

-- a running task takes a turn that wants this, and sees this memory
abbrev pub turned : {C : Type 0} → Want C → Memory → Running C → Running C
turned w look x = record { task = one_more x.task; run = act w look x.run.log }

-- THE TURN: one turn more of the task at this place is one turn on its view, and cuts the runs where it cuts the tasks
pub turn_at : {C : Type 0} (p : Program C) (m : Memory) (ts : List Task) (place : ℕ) (x : Running C)
    → slice_get (runs_of p m ts) place ≡ Some x
    → runs_of p m (edit place one_more (cut_by (p.want x.run.core) (rows_of p m ts) place) ts)
    ≡ edit place (turned (p.want x.run.core) (view_of (rows_of p m ts) m place)) (cut_by (p.want x.run.core) (rows_of p m ts) place) (runs_of p m ts)
turn_at p m [] place x h = refl
turn_at {C} p m (t ∷ ts) zero x h =
    subst (λ y. runs_of p m (one_more t ∷ cut_at (cut_by (p.want y.run.core) (rows_of p m (t ∷ ts)) zero) ts)
    ≡ turned (p.want y.run.core) (over (wrote r.log) m) here ∷ cut_at (cut_by (p.want y.run.core) (rows_of p m (t ∷ ts)) zero) (runs_of p (over (wrote r.log) m) ts))
    (same_Some here x h)
    (ap {B = List (Running C)} (λ q. turned (p.want r.core) (over (wrote r.log) m) here ∷ q) (after_turn p (p.want r.core) m (over (wrote r.log) m) r.log (row_of here) ts))
  where
    r : Run C
    r = part p t.entry t.turns m

    here : Running C
    here = record { task = t; run = r }
turn_at {C} p m (t ∷ ts) (suc place) x h =
    subst (λ c. here ∷ runs_of p after (edit place one_more c ts) ≡ here ∷ edit place (turned (p.want x.run.core) (view_of (rows_of p after ts) after place)) c (runs_of p after ts))
    (sym (cut_by_suc (p.want x.run.core) (row_of here) (rows_of p after ts) place))
    (ap {B = List (Running C)} (λ q. here ∷ q) (turn_at p after ts place x h))
  where
    r : Run C
    r = part p t.entry t.turns m

    here : Running C
    here = record { task = t; run = r }

    after : Memory
    after = over (wrote r.log) m
