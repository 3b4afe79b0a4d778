-- The steps of the bus on the line table, pointwise. What is not named stays. A commit writes back nothing but spilled
-- values: versions go to memory when their word is next purged (lazy commit).
use Rattle.std.specs.Prelude.{ℕ, suc, ◌+◌, Bool, true, false, cond, not, ◌&&◌, ◌||◌, ◌==◌, ltb, leb, Option, Some, None}
use Rattle.std.specs.Prelude.{is_some, unwrap_or, [], ◌∷◌, ◌++◌, length, take, drop}
use Rattle.std.specs.Option.{option_or}
use Rattle.svc_bus_laws.specs.Search.{any_below}
use Rattle.svc_bus_laws.specs.Versioned.{Versioned, view}
use Rattle.svc_bus_laws.specs.Versioned as map
use Rattle.svc_bus_laws.specs.LineTable.{Line, LineTable, is_active, version_in, exposed_in, is_committed_dirty}
use Rattle.svc_bus_laws.specs.LineTable.{is_reusable, is_cut, place_of, unit_at, line_at, committed_value}
use Rattle.svc_bus_laws.specs.LineTable.{versioned_map}

-- a function changed at one argument
abbrev pub with_at : {A : Type 0} → (ℕ → A) → ℕ → A → ℕ → A
with_at f a x b = cond (b == a) x (f b)

-- one line of a word changed, and the word's other lines by a rule
abbrev pub with_line : (ℕ → ℕ → Option Line) → ℕ → ℕ → Option Line → (Option Line → Option Line) → ℕ → ℕ → Option Line
with_line lines u a line others v b = cond (b == a) (cond (v == u) line (others (lines v b))) (lines v b)

-- a committed dirty line becomes invalid
abbrev pub line_after_purging : Option Line → Option Line
line_after_purging line = cond (is_committed_dirty line) None line

-- an active line of a task numbered n or above becomes invalid
abbrev pub line_after_squashing : ℕ → Option Line → Option Line
line_after_squashing n None = None
line_after_squashing n (Some l) = cond (not l.commit && leb n l.task) None (Some l)

-- T is set on a line that is committed or of a task below n
abbrev pub line_after_marking : ℕ → Option Line → Option Line
line_after_marking n None = None
line_after_marking n (Some l) = Some (record l { stale = l.stale || (l.commit || ltb l.task n) })

-- C is set
abbrev pub line_after_commit : Option Line → Option Line
line_after_commit None = None
line_after_commit (Some l) = Some (record l { commit = true })

-- C is cleared, L is set, and the line is the task's
abbrev pub line_after_reuse : ℕ → Option Line → Option Line
line_after_reuse n None = None
line_after_reuse n (Some l) = Some (record l { commit = false; load = true; task = n })

-- among the first n active tasks, one above the place has an active dirty line of the word
abbrev pub is_overtaken : LineTable → ℕ → ℕ → ℕ → Bool
is_overtaken t n p a = any_below n (λ q. ltb p q && is_some (version_in (line_at t q a)))

-- the line that a read fills
abbrev pub filled_line : LineTable → ℕ → ℕ → Line
filled_line t p a = record {
  value = view (versioned_map t) p a;
  store = false;
  load = not ((p == 0) && is_some (t.spill a));
  commit = false;
  stale = is_overtaken t (length t.units) p a;
  task = t.commits + p;
}

-- a read that is a bus request
abbrev pub fill : LineTable → ℕ → ℕ → LineTable
fill t p a = record t {
  lines = with_line t.lines (unit_at t p) a (Some (filled_line t p a)) line_after_purging;
  backing = with_at t.backing a (committed_value t a);
}

-- a read that clears C of the unit's own line
abbrev pub reuse : LineTable → ℕ → ℕ → LineTable
reuse t p a = record t {
  lines = with_line t.lines (unit_at t p) a (line_after_reuse (t.commits + p) (line_at t p a)) (λ line. line);
}

-- a read of the word by the task at a place
abbrev pub read : LineTable → ℕ → ℕ → LineTable
read t p a =
    cond (is_active (line_at t p a)) t
    (cond (is_reusable (line_at t p a)) (reuse t p a) (fill t p a))

-- how many active tasks a write leaves
abbrev pub survivors : LineTable → ℕ → ℕ → ℕ
survivors t p a = map.survivors (versioned_map t) p a

-- the line that a write leaves
abbrev pub written_line : LineTable → ℕ → ℕ → ℕ → Line
written_line t p a w = record {
  value = w;
  store = true;
  load = exposed_in (line_at t p a);
  commit = false;
  stale = is_overtaken t (survivors t p a) p a;
  task = t.commits + p;
}

-- the tasks from a place on are squashed: all active lines of their units become invalid, and the units are idle
abbrev pub squash : LineTable → ℕ → LineTable
squash t n = record t {
  lines = λ v b. cond (is_cut t.units n v && is_active (t.lines v b)) None (t.lines v b);
  units = take n t.units;
}

-- the tasks from the unit's on are squashed
abbrev pub squash_from : LineTable → ℕ → LineTable
squash_from t u = squash t (unwrap_or (place_of t.units u) (length t.units))

-- a write of the word by the task at a place, without the squash that follows it
abbrev pub store : LineTable → ℕ → ℕ → ℕ → LineTable
store t p a w = record t {
  lines =
      with_line t.lines (unit_at t p) a (Some (written_line t p a w))
      (λ line. line_after_marking (t.commits + p) (line_after_purging line));
  backing = with_at t.backing a (committed_value t a);
  spill = with_at t.spill a (cond (p == 0) None (t.spill a));
}

-- a write of the word by the task at a place
abbrev pub write : LineTable → ℕ → ℕ → ℕ → LineTable
write t p a w = squash (store t p a w) (survivors t p a)

-- the unit's line of the word becomes invalid, and the head's version goes to the spill table
abbrev pub replace : LineTable → ℕ → ℕ → LineTable
replace t u a = record t {
  lines = with_line t.lines u a None line_after_purging;
  backing = with_at t.backing a (committed_value t a);
  spill = with_at t.spill a (option_or (version_in (t.lines u a)) (t.spill a));
}

-- the head's lines are committed, and its spilled values go to the backing memory
abbrev pub commit : LineTable → LineTable
commit t = record t {
  lines = λ v b. cond (v == unit_at t 0) (line_after_commit (t.lines v b)) (t.lines v b);
  spill = λ b. None;
  backing = λ b. unwrap_or (t.spill b) (t.backing b);
  commits = suc t.commits;
  units = drop 1 t.units;
}

-- the idle unit's new task joins as the youngest
abbrev pub begin : LineTable → ℕ → LineTable
begin t u = record t { units = t.units ++ u ∷ [] }

-- the word's newest committed dirty line goes to the backing memory, and all its committed dirty lines become invalid
abbrev pub purge : LineTable → ℕ → LineTable
purge t a = record t {
  lines = λ v b. cond (b == a) (line_after_purging (t.lines v b)) (t.lines v b);
  backing = with_at t.backing a (committed_value t a);
}
