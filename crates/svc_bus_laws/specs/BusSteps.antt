-- The steps of a bus without numbers: what its lines, its order and its queue become. A body has to show these.
use Rattle.std.specs.Prelude.{List, ℕ, suc, Bool, true, false, cond, not, ◌&&◌, ◌==◌, ltb, Option, Some, None, is_some}
use Rattle.std.specs.Prelude.{unwrap_or, [], ◌∷◌, ◌++◌, length, get_or, take, drop}
use Rattle.std.specs.Option.{option_or}
use Rattle.svc_bus_laws.specs.Search.{any_below}
use Rattle.svc_bus_laws.specs.Versioned.{view, survivors}
use Rattle.svc_bus_laws.specs.LineTable.{is_cut}
use Rattle.svc_bus_laws.specs.BusLine.{BusLine, is_active_line, is_dirty_line, is_reusable_line, is_exposed_line}
use Rattle.svc_bus_laws.specs.BusLine.{version_of_line, settled_line, reused_line, purged_line, marked_line}
use Rattle.svc_bus_laws.specs.BusState.{BusState}
use Rattle.svc_bus_laws.specs.BusView.{bus_line_at, bus_committed, bus_map}

-- the opened bus: no lines, no tasks
abbrev pub bus_opened : ℕ → ℕ → ℕ → List ℕ → BusState
bus_opened caches sets ways memory = record {
  caches = caches;
  sets = sets;
  ways = ways;
  words = length memory;
  lines = λ u a. None;
  is_older = λ a u v. false;
  spill = λ a. None;
  backing = λ a. get_or memory a 0;
  commits = 0;
  units = [];
  probes = 0;
}

-- the idle unit's new task joins as the youngest
abbrev pub bus_begin : BusState → ℕ → BusState
bus_begin b u = record b { units = b.units ++ u ∷ [] }

-- the head's lines are committed, and its spilled values go to the backing memory; the order stays
abbrev pub bus_commit : BusState → BusState
bus_commit b = record b {
  lines = λ v a. cond (v == get_or b.units 0 0) (settled_line (b.lines v a)) (b.lines v a);
  spill = λ a. None;
  backing = λ a. unwrap_or (b.spill a) (b.backing a);
  commits = suc b.commits;
  units = drop 1 b.units;
}

-- a cut unit's active lines become invalid
abbrev pub line_after_cut : BusState → ℕ → ℕ → ℕ → Option BusLine
line_after_cut b n v a = cond (is_cut b.units n v && is_active_line (b.lines v a)) None (b.lines v a)

-- the tasks from a place on are squashed
abbrev pub bus_squash : BusState → ℕ → BusState
bus_squash b n = record b {
  lines = line_after_cut b n;
  is_older =
      λ a u v. (is_dirty_line (line_after_cut b n u a) && is_dirty_line (line_after_cut b n v a)) && b.is_older a u v;
  units = take n b.units;
}

-- the unit runs a task below the place; and one above it, among the first n
abbrev pub is_below : BusState → ℕ → ℕ → Bool
is_below b p v = any_below p (λ q. get_or b.units q 0 == v)

abbrev pub is_above : BusState → ℕ → ℕ → ℕ → Bool
is_above b n p v = any_below n (λ q. ltb p q && (get_or b.units q 0 == v))

-- among the first n active tasks, one above the place has an active dirty line of the word
abbrev pub is_overtaken_line : BusState → ℕ → ℕ → ℕ → Bool
is_overtaken_line b n p a = any_below n (λ q. ltb p q && is_some (version_of_line (bus_line_at b q a)))

-- the line that a write leaves
abbrev pub written_bus_line : BusState → ℕ → ℕ → ℕ → ℕ → BusLine
written_bus_line b n p a w = record {
  value = w;
  store = true;
  load = is_exposed_line (bus_line_at b p a);
  commit = false;
  stale = is_overtaken_line b n p a;
}

-- the lines after a write of the word by the task at a place that leaves n tasks
abbrev pub line_after_write : BusState → ℕ → ℕ → ℕ → ℕ → ℕ → ℕ → Option BusLine
line_after_write b n p a w v x =
    cond (x == a)
    (cond (v == get_or b.units p 0) (Some (written_bus_line b n p a w))
    (marked_line (is_below b p v) (purged_line (line_after_cut b n v x))))
    (line_after_cut b n v x)

-- the order after the write: the written line stands between those of the tasks below and those of the tasks above
abbrev pub order_after_write : BusState → ℕ → ℕ → ℕ → ℕ → ℕ → ℕ → ℕ → Bool
order_after_write b n p a w x u v =
    (is_dirty_line (line_after_write b n p a w u x) && is_dirty_line (line_after_write b n p a w v x))
    && cond ((x == a) && (u == get_or b.units p 0)) (is_above b n p v)
    (cond ((x == a) && (v == get_or b.units p 0)) (is_below b p u) (b.is_older x u v))

-- a write of the word by the task at a place that leaves n tasks
abbrev pub bus_write_leaving : BusState → ℕ → ℕ → ℕ → ℕ → BusState
bus_write_leaving b n p a w = record b {
  lines = line_after_write b n p a w;
  is_older = order_after_write b n p a w;
  spill = λ x. cond (x == a) (cond (p == 0) None (b.spill a)) (b.spill x);
  backing = λ x. cond (x == a) (bus_committed b a) (b.backing x);
  units = take n b.units;
}

-- a write of the word by the task at a place
abbrev pub bus_write : BusState → ℕ → ℕ → ℕ → BusState
bus_write b p a w = bus_write_leaving b (survivors (bus_map b) p a) p a w

-- one unit's line of a word changes, and the word's other lines are purged: what a bus request and a replacement do to
-- the lines
abbrev pub line_after_request : BusState → ℕ → ℕ → Option BusLine → ℕ → ℕ → Option BusLine
line_after_request b u a line v x = cond (x == a) (cond (v == u) line (purged_line (b.lines v x))) (b.lines v x)

-- the order of the dirty lines that a request leaves
abbrev pub order_after_request : BusState → ℕ → ℕ → Option BusLine → ℕ → ℕ → ℕ → Bool
order_after_request b u a line x y z =
    (is_dirty_line (line_after_request b u a line y x) && is_dirty_line (line_after_request b u a line z x))
    && b.is_older x y z

-- the line that a read with this value fills
abbrev pub filled_bus_line : BusState → ℕ → ℕ → ℕ → BusLine
filled_bus_line b p a value = record {
  value = value;
  store = false;
  load = not ((p == 0) && is_some (b.spill a));
  commit = false;
  stale = is_overtaken_line b (length b.units) p a;
}

-- a read that is a bus request, answered with the value
abbrev pub bus_fill : BusState → ℕ → ℕ → ℕ → BusState
bus_fill b p a value = record b {
  lines = line_after_request b (get_or b.units p 0) a (Some (filled_bus_line b p a value));
  is_older = order_after_request b (get_or b.units p 0) a (Some (filled_bus_line b p a value));
  backing = λ x. cond (x == a) (bus_committed b a) (b.backing x);
}

-- a read that clears C of the unit's own line
abbrev pub bus_reuse : BusState → ℕ → ℕ → BusState
bus_reuse b p a = record b {
  lines = λ v x. cond (x == a) (cond (v == get_or b.units p 0) (reused_line (b.lines v x)) (b.lines v x)) (b.lines v x);
}

-- a read of the word by the task at a place
abbrev pub bus_read : BusState → ℕ → ℕ → BusState
bus_read b p a =
    cond (is_active_line (bus_line_at b p a)) b
    (cond (is_reusable_line (bus_line_at b p a)) (bus_reuse b p a) (bus_fill b p a (view (bus_map b) p a)))

-- a replacement of the word by the unit
abbrev pub bus_replace : BusState → ℕ → ℕ → BusState
bus_replace b u a = record b {
  lines = line_after_request b u a None;
  is_older = order_after_request b u a None;
  spill = λ x. cond (x == a) (option_or (version_of_line (b.lines u a)) (b.spill a)) (b.spill x);
  backing = λ x. cond (x == a) (bus_committed b a) (b.backing x);
}
