-- Worked rows of the bus, by computation alone. Steps are named by unit, as callers name them.
use Rattle.std.proofs.Common.{◌≡◌, refl, ℕ, Some, None, true, false, List, [], ◌∷◌, Option, unwrap_or}
use Rattle.svc_bus_laws.specs.Search.{tabulate}
use Rattle.svc_bus_laws.specs.Versioned.{Victim, view, victim_answer, is_exposed}
use Rattle.svc_bus_laws.specs.Versioned as map
use Rattle.svc_bus_laws.specs.LineTable.{LineTable, place_of, versioned_map, committed_value, opening_table}
use Rattle.svc_bus_laws.specs.Walk.{walk_lines}
use Rattle.svc_bus_laws.specs.Supplier.{Supplier, Hit, Reuse, Version, Spill, Committed, Memory, supplier}
use Rattle.svc_bus_laws.specs.Steps.{commit, replace, squash_from, begin}
use Rattle.svc_bus_laws.specs.Steps as step
use Rattle.svc_bus_laws.specs.BusLine.{bits_and_value}
use Rattle.svc_bus_laws.specs.BusState.{without_number}
use Rattle.svc_bus_laws.specs.Refusals.{table_cache, set_full, is_not_resident, is_pinned}

-- ---- steps and answers by unit

abbrev place : LineTable → ℕ → ℕ
place t u = unwrap_or (place_of t.units u) 0

abbrev read : LineTable → ℕ → ℕ → LineTable
read t u a = step.read t (place t u) a

abbrev write : LineTable → ℕ → ℕ → ℕ → LineTable
write t u a w = step.write t (place t u) a w

-- what a read answers
abbrev answer : LineTable → ℕ → ℕ → ℕ × Supplier
answer t u a = (view (versioned_map t) (place t u) a, supplier t (place t u) a)

-- the victim of a write
abbrev cut : LineTable → ℕ → ℕ → Option Victim
cut t u a = victim_answer (versioned_map t) (place t u) a

abbrev line : LineTable → ℕ → ℕ → Option (ℕ × ℕ)
line t u a = bits_and_value (without_number (t.lines u a))

-- the lines of a word in the caches of units 0 to 3
abbrev lines : LineTable → ℕ → List (Option (ℕ × ℕ))
lines t a = line t 0 a ∷ line t 1 a ∷ line t 2 a ∷ line t 3 a ∷ []

-- committed and backing memory
abbrev committed : LineTable → List ℕ
committed t = tabulate t.words (committed_value t)

abbrev backing : LineTable → List ℕ
backing t = tabulate t.words t.backing

abbrev full : LineTable → ℕ → ℕ → Option ℕ
full t u a = set_full (table_cache t u) a

-- four units, 16 sets, 2 ways, and the words 7, 0, 0, 0
abbrev start : LineTable
start = opening_table 4 16 2 (7 ∷ 0 ∷ 0 ∷ 0 ∷ [])

abbrev one : LineTable
one = begin start 0

abbrev two : LineTable
two = begin one 1

abbrev three : LineTable
three = begin two 2

abbrev four : LineTable
four = begin three 3

-- ---- the nearest version

abbrev nearest : LineTable
nearest = write (write (write four 0 0 1) 1 0 2) 2 0 3

nearest-read : answer nearest 3 0 ≡ (3, Version 2)
nearest-read = refl

-- V S T twice, V S, V L
nearest-lines : lines (read nearest 3 0) 0 ≡ Some (19, 1) ∷ Some (19, 2) ∷ Some (3, 3) ∷ Some (5, 3) ∷ []
nearest-lines = refl

nearest-memory : (committed (read nearest 3 0) ≡ 7 ∷ 0 ∷ 0 ∷ 0 ∷ []) × (backing (read nearest 3 0) ≡ 7 ∷ 0 ∷ 0 ∷ 0 ∷ [])
nearest-memory = (refl, refl)

-- ---- lazy commit and purge

abbrev lazy : LineTable
lazy = commit (commit (write (write three 0 0 1) 1 0 2))

lazy-before : (committed lazy ≡ 2 ∷ 0 ∷ 0 ∷ 0 ∷ []) × (backing lazy ≡ 7 ∷ 0 ∷ 0 ∷ 0 ∷ []) × (answer lazy 2 0 ≡ (2, Committed 1))
lazy-before = (refl, refl, refl)

-- the read purges
lazy-after : (committed (read lazy 2 0) ≡ 2 ∷ 0 ∷ 0 ∷ 0 ∷ []) × (backing (read lazy 2 0) ≡ 2 ∷ 0 ∷ 0 ∷ 0 ∷ []) × (lines (read lazy 2 0) 0 ≡ None ∷ None ∷ Some (5, 2) ∷ None ∷ [])
lazy-after = (refl, refl, refl)

-- ---- reuse and stale copies

reuse-first : (answer one 0 0 ≡ (7, Memory)) × (lines (read one 0 0) 0 ≡ Some (5, 7) ∷ None ∷ None ∷ None ∷ [])
reuse-first = (refl, refl)

abbrev again : LineTable
again = begin (commit (read one 0 0)) 0

reuse-again : (answer again 0 0 ≡ (7, Reuse)) × (lines (read again 0 0) 0 ≡ Some (5, 7) ∷ None ∷ None ∷ None ∷ []) × (committed (read again 0 0) ≡ 7 ∷ 0 ∷ 0 ∷ 0 ∷ [])
reuse-again = (refl, refl, refl)

-- a squashed store leaves T set
abbrev marked : LineTable
marked = commit (squash_from (write (read two 0 0) 1 0 9) 1)

-- V L C T
marked-line : (lines marked 0 ≡ Some (29, 7) ∷ None ∷ None ∷ None ∷ []) × (committed marked ≡ 7 ∷ 0 ∷ 0 ∷ 0 ∷ [])
marked-line = (refl, refl)

marked-read : (answer (begin marked 0) 0 0 ≡ (7, Memory)) × (line (read (begin marked 0) 0 0) 0 0 ≡ Some (5, 7))
marked-read = (refl, refl)

-- a store that was committed has made the copy stale too
abbrev overtaken : LineTable
overtaken = begin (commit (commit (write (read two 0 0) 1 0 9))) 0

overtaken-read : (line overtaken 0 0 ≡ Some (29, 7)) × (answer overtaken 0 0 ≡ (9, Committed 1)) × (backing (read overtaken 0 0) ≡ 9 ∷ 0 ∷ 0 ∷ 0 ∷ [])
overtaken-read = (refl, refl, refl)

-- so has a store after the copy's task was committed
abbrev outdated : LineTable
outdated = write (commit (read two 0 0)) 1 0 9

outdated-read : (line outdated 0 0 ≡ Some (29, 7)) × (answer (begin (commit outdated) 0) 0 0 ≡ (9, Committed 1)) × (committed (commit outdated) ≡ 9 ∷ 0 ∷ 0 ∷ 0 ∷ [])
outdated-read = (refl, refl, refl)

-- a committed dirty line is not reused
abbrev stored : LineTable
stored = begin (commit (write one 0 0 5)) 0

stored-read : (answer stored 0 0 ≡ (5, Committed 0)) × (line (read stored 0 0) 0 0 ≡ Some (5, 5)) × (backing (read stored 0 0) ≡ 5 ∷ 0 ∷ 0 ∷ 0 ∷ [])
stored-read = (refl, refl, refl)

-- a read below a version that stands already is stale from the first
abbrev passed : LineTable
passed = read (write three 1 0 4) 0 0

-- V L T
passed-read : (answer (write three 1 0 4) 0 0 ≡ (7, Memory)) × (line passed 0 0 ≡ Some (21, 7))
passed-read = (refl, refl)

abbrev passed-again : LineTable
passed-again = begin (commit (commit passed)) 0

passed-after : (answer passed-again 0 0 ≡ (4, Committed 1)) × (committed passed-again ≡ 4 ∷ 0 ∷ 0 ∷ 0 ∷ [])
passed-after = (refl, refl)

-- ---- replacement, spill and pinned lines: one set, one way, and the words 0, 0

abbrev small : LineTable
small = write (begin (begin (opening_table 4 1 1 (0 ∷ 0 ∷ [])) 0) 1) 1 0 8

small-refusals : (full small 1 1 ≡ Some 0) × (full small 1 0 ≡ None) × (full small 0 1 ≡ None) × (is_pinned (table_cache small 1) small.units 1 0 ≡ true) × (is_not_resident (table_cache small 1) 0 ≡ false) × (is_not_resident (table_cache small 1) 1 ≡ true)
small-refusals = (refl, refl, refl, refl, refl, refl)

abbrev head : LineTable
head = commit small

abbrev replaced : LineTable
replaced = replace head 1 0

replaced-kept : (is_pinned (table_cache head 1) head.units 1 0 ≡ false) × (line replaced 1 0 ≡ None) × (replaced.spill 0 ≡ Some 8) × (committed replaced ≡ 0 ∷ 0 ∷ []) × (backing replaced ≡ 0 ∷ 0 ∷ [])
replaced-kept = (refl, refl, refl, refl, refl)

abbrev refilled : LineTable
refilled = write replaced 1 1 9

refilled-full : (full replaced 1 1 ≡ None) × (full refilled 1 0 ≡ Some 1)
refilled-full = (refl, refl)

abbrev emptied : LineTable
emptied = replace refilled 1 1

-- V alone
emptied-read : (full emptied 1 0 ≡ None) × (answer emptied 1 0 ≡ (8, Spill)) × (line (read emptied 1 0) 1 0 ≡ Some (1, 8)) × (committed (read emptied 1 0) ≡ 0 ∷ 0 ∷ [])
emptied-read = (refl, refl, refl, refl)

emptied-commit : (backing (commit (read emptied 1 0)) ≡ 8 ∷ 9 ∷ []) × (committed (commit (read emptied 1 0)) ≡ 8 ∷ 9 ∷ [])
emptied-commit = (refl, refl)

-- a reuse is an exposed read, also of a line that the spill filled without L
abbrev resumed : LineTable
resumed = begin (begin (commit (read emptied 1 0)) 0) 1

resumed-reuse : (answer resumed 1 0 ≡ (8, Reuse)) × (line (read resumed 1 0) 1 0 ≡ Some (5, 8)) × (cut (read resumed 1 0) 0 0 ≡ Some (record { first = 3; tasks = 1 }))
resumed-reuse = (refl, refl, refl)

-- SetFull names a committed line before a lower one that is not
abbrev crowded : LineTable
crowded = write (begin (commit (write (write (begin (opening_table 4 1 2 (0 ∷ 0 ∷ 0 ∷ [])) 0) 0 1 5) 0 0 6)) 0) 0 0 7

crowded-full : (full crowded 0 2 ≡ Some 1) × (committed crowded ≡ 6 ∷ 5 ∷ 0 ∷ []) × (backing crowded ≡ 6 ∷ 0 ∷ 0 ∷ [])
crowded-full = (refl, refl, refl)

-- ---- the victim

-- the task between read the word before it wrote it
abbrev loaded : LineTable
loaded = write (read three 1 0) 1 0 4

loaded-answers : (answer three 1 0 ≡ (7, Memory)) × (answer loaded 2 0 ≡ (4, Version 1))
loaded-answers = (refl, refl)

abbrev struck : LineTable
struck = write (read loaded 2 0) 0 0 9

-- V S is left
struck-walk : walk_lines (read loaded 2 0) 0 0 ≡ Some 1
struck-walk = refl

struck-cut : (cut (read loaded 2 0) 0 0 ≡ Some (record { first = 1; tasks = 2 })) × (struck.units ≡ 0 ∷ []) × (lines struck 0 ≡ Some (3, 9) ∷ None ∷ None ∷ None ∷ []) × (committed struck ≡ 7 ∷ 0 ∷ 0 ∷ 0 ∷ []) × (committed (commit struck) ≡ 9 ∷ 0 ∷ 0 ∷ 0 ∷ [])
struck-cut = (refl, refl, refl, refl, refl)

-- the new head's reads are no longer recorded
head-forgets : (is_exposed (versioned_map (read two 1 0)) 1 0 ≡ true) × (is_exposed (map.commit (versioned_map (read two 1 0))) 0 0 ≡ false)
head-forgets = (refl, refl)

-- it did not: its version hides the store
abbrev hidden : LineTable
hidden = read (write three 1 0 4) 2 0

-- V S T is left
hidden-none : (answer (write three 1 0 4) 2 0 ≡ (4, Version 1)) × (cut hidden 0 0 ≡ None) × (line (write hidden 0 0 9) 0 0 ≡ Some (19, 9)) × (answer (write hidden 0 0 9) 2 0 ≡ (4, Hit)) × (committed (write hidden 0 0 9) ≡ 7 ∷ 0 ∷ 0 ∷ 0 ∷ [])
hidden-none = (refl, refl, refl, refl, refl)

-- ---- spilled versions

abbrev spilled : LineTable
spilled = replace (commit (write (write two 0 0 1) 1 0 2)) 1 0

spilled-read : (backing spilled ≡ 1 ∷ 0 ∷ 0 ∷ 0 ∷ []) × (committed spilled ≡ 1 ∷ 0 ∷ 0 ∷ 0 ∷ []) × (answer spilled 1 0 ≡ (2, Spill)) × (backing (commit (read spilled 1 0)) ≡ 2 ∷ 0 ∷ 0 ∷ 0 ∷ [])
spilled-read = (refl, refl, refl, refl)

-- a version of a task between is nearer than the head's spilled one
abbrev nearer : LineTable
nearer = write (replace (write three 0 0 8) 0 0) 1 0 5

nearer-read : (answer (replace (write three 0 0 8) 0 0) 2 0 ≡ (8, Spill)) × (answer nearer 2 0 ≡ (5, Version 1)) × (answer nearer 0 0 ≡ (8, Spill)) × (committed nearer ≡ 7 ∷ 0 ∷ 0 ∷ 0 ∷ []) × (committed (commit nearer) ≡ 8 ∷ 0 ∷ 0 ∷ 0 ∷ []) × (backing (commit nearer) ≡ 8 ∷ 0 ∷ 0 ∷ 0 ∷ [])
nearer-read = (refl, refl, refl, refl, refl, refl)

abbrev rewritten : LineTable
rewritten = write spilled 1 0 3

rewritten-commit : (rewritten.spill 0 ≡ None) × (committed (commit rewritten) ≡ 3 ∷ 0 ∷ 0 ∷ 0 ∷ []) × (backing (commit rewritten) ≡ 1 ∷ 0 ∷ 0 ∷ 0 ∷ [])
rewritten-commit = (refl, refl, refl)

-- ---- the order of committed versions: tasks begun on units 3, 1, 0

abbrev down : LineTable
down = write (write (write (begin (begin (begin start 3) 1) 0) 3 0 1) 1 0 2) 0 0 3

down-commits : (committed (commit down) ≡ 1 ∷ 0 ∷ 0 ∷ 0 ∷ []) × (committed (commit (commit down)) ≡ 2 ∷ 0 ∷ 0 ∷ 0 ∷ []) × (committed (commit (commit (commit down))) ≡ 3 ∷ 0 ∷ 0 ∷ 0 ∷ []) × (backing (commit (commit (commit down))) ≡ 7 ∷ 0 ∷ 0 ∷ 0 ∷ [])
down-commits = (refl, refl, refl, refl)

abbrev down-last : LineTable
down-last = begin (commit (commit (commit down))) 2

down-read : (answer down-last 2 0 ≡ (3, Committed 0)) × (backing (read down-last 2 0) ≡ 3 ∷ 0 ∷ 0 ∷ 0 ∷ []) × (lines (read down-last 2 0) 0 ≡ None ∷ None ∷ Some (5, 3) ∷ None ∷ [])
down-read = (refl, refl, refl)

-- ---- and with a squash in the middle, and new tasks on the units in another order

abbrev restarted : LineTable
restarted = begin (begin (squash_from (write (write (write three 0 0 1) 1 0 2) 2 0 3) 1) 2) 1

abbrev later : LineTable
later = write restarted 1 0 5

abbrev between : LineTable
between = write later 2 0 4

restarted-writes : (restarted.units ≡ 0 ∷ 2 ∷ 1 ∷ []) × (lines restarted 0 ≡ Some (19, 1) ∷ None ∷ None ∷ None ∷ []) × (cut restarted 1 0 ≡ None) × (cut later 2 0 ≡ None) × (lines between 0 ≡ Some (19, 1) ∷ Some (3, 5) ∷ Some (19, 4) ∷ None ∷ [])
restarted-writes = (refl, refl, refl, refl, refl)

restarted-commits : (committed (commit between) ≡ 1 ∷ 0 ∷ 0 ∷ 0 ∷ []) × (committed (commit (commit between)) ≡ 4 ∷ 0 ∷ 0 ∷ 0 ∷ []) × (committed (commit (commit (commit between))) ≡ 5 ∷ 0 ∷ 0 ∷ 0 ∷ []) × (backing (commit (commit (commit between))) ≡ 7 ∷ 0 ∷ 0 ∷ 0 ∷ [])
restarted-commits = (refl, refl, refl, refl)

abbrev restarted-last : LineTable
restarted-last = begin (commit (commit (commit between))) 3

restarted-read : (answer restarted-last 3 0 ≡ (5, Committed 1)) × (backing (read restarted-last 3 0) ≡ 5 ∷ 0 ∷ 0 ∷ 0 ∷ [])
restarted-read = (refl, refl)
