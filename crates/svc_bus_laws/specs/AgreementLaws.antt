-- The steps of a bus without numbers keep it in agreement with each line table that it agrees with.
use Rattle.std.specs.Prelude.{Some, List, ◌≡◌, ◌≢◌, ℕ, ◌<◌, ◌≤◌, false, length}
use Rattle.svc_bus_laws.specs.Versioned.{view, victim, victim_answer}
use Rattle.svc_bus_laws.specs.LineTable.{LineTable, committed_value, opening_table, unit_at, versioned_map}
use Rattle.svc_bus_laws.specs.Supplier.{supplier}
use Rattle.svc_bus_laws.specs.Steps.{read, write, replace, squash, commit, begin}
use Rattle.svc_bus_laws.specs.Sound.{IsSound}
use Rattle.svc_bus_laws.specs.BusState.{BusState, SameBus, Agrees, AreAlike, state_of}
use Rattle.svc_bus_laws.specs.BusView.{bus_committed, bus_map, bus_view, bus_victim, bus_supplier, bus_supplied}
use Rattle.svc_bus_laws.specs.BusView.{bus_walk}
use Rattle.svc_bus_laws.specs.SoundState.{IsSoundState}
use Rattle.svc_bus_laws.specs.BusSteps.{bus_opened, bus_read, bus_write, bus_replace, bus_squash, bus_commit, bus_begin}
use Rattle.svc_bus_laws.specs.Refusals.{table_cache, is_pinned}

-- a sound table's own state agrees with it
abbrev pub OwnState : Type 0
OwnState = (probes : ℕ) (t : LineTable) → IsSound t → Agrees (state_of probes t) t

-- the opened bus agrees with the opened table
abbrev pub OpenedAgrees : Type 0
OpenedAgrees = (caches sets ways : ℕ) (memory : List ℕ)
    → Agrees (bus_opened caches sets ways memory) (opening_table caches sets ways memory)

-- apart from the look-ups, what a state holds decides which tables it agrees with
abbrev pub SameAgrees : Type 0
SameAgrees = (b c : BusState) (t : LineTable) → SameBus b c → Agrees b t → Agrees c t

-- what a state that agrees satisfies
abbrev pub SoundSeen : Type 0
SoundSeen = (b : BusState) (t : LineTable) → Agrees b t → IsSoundState b

-- the committed values, the map and the supplier that callers see are those of every table that agrees
abbrev pub CommittedSeen : Type 0
CommittedSeen = (b : BusState) (t : LineTable) (a : ℕ) → Agrees b t → bus_committed b a ≡ committed_value t a

abbrev pub MapSeen : Type 0
MapSeen = (b : BusState) (t : LineTable) → Agrees b t → bus_map b ≡ versioned_map t

-- so also each task's view, and the victim of each write
abbrev pub ViewSeen : Type 0
ViewSeen = (b : BusState) (t : LineTable) (p a : ℕ) → Agrees b t → bus_view b p a ≡ view (versioned_map t) p a

abbrev pub VictimSeen : Type 0
VictimSeen = (b : BusState) (t : LineTable) (p a : ℕ) → Agrees b t
    → bus_victim b p a ≡ victim_answer (versioned_map t) p a

abbrev pub SupplierSeen : Type 0
SupplierSeen = (b : BusState) (t : LineTable) (p a : ℕ) → Agrees b t → bus_supplier b p a ≡ supplier t p a

-- the supplier holds what the task reads
abbrev pub SuppliedSeen : Type 0
SuppliedSeen = (b : BusState) (t : LineTable) (p a : ℕ) → Agrees b t → p < length b.units
    → bus_supplied b p a (bus_supplier b p a) ≡ Some (bus_view b p a)

-- the walk over the later tasks' lines finds the victim
abbrev pub WalkSeen : Type 0
WalkSeen = (b : BusState) (p a : ℕ) → bus_walk b p a ≡ victim (bus_map b) p a

-- the steps
abbrev pub ReadAgrees : Type 0
ReadAgrees = (b : BusState) (t : LineTable) (p a : ℕ) → Agrees b t → p < length t.units → a < t.words
    → Agrees (bus_read b p a) (read t p a)

abbrev pub WriteAgrees : Type 0
WriteAgrees = (b : BusState) (t : LineTable) (p a w : ℕ) → Agrees b t → p < length t.units → a < t.words
    → Agrees (bus_write b p a w) (write t p a w)

abbrev pub ReplaceAgrees : Type 0
ReplaceAgrees = (b : BusState) (t : LineTable) (u a : ℕ) → Agrees b t → is_pinned (table_cache t u) t.units u a ≡ false
    → Agrees (bus_replace b u a) (replace t u a)

abbrev pub SquashAgrees : Type 0
SquashAgrees = (b : BusState) (t : LineTable) (n : ℕ) → Agrees b t → 0 < n → n ≤ length t.units
    → Agrees (bus_squash b n) (squash t n)

abbrev pub CommitAgrees : Type 0
CommitAgrees = (b : BusState) (t : LineTable) → Agrees b t → 0 < length t.units → Agrees (bus_commit b) (commit t)

abbrev pub BeginAgrees : Type 0
BeginAgrees = (b : BusState) (t : LineTable) (u : ℕ) → Agrees b t → u < t.caches
    → ((p : ℕ) → p < length t.units → unit_at t p ≢ u) → Agrees (bus_begin b u) (begin t u)

-- the steps of tables that differ only in numbers, with one order, differ only in numbers, with one order
abbrev pub AlikeReads : Type 0
AlikeReads = (s t : LineTable) (p a : ℕ) → AreAlike s t → p < length t.units → a < t.words
    → AreAlike (read s p a) (read t p a)

abbrev pub AlikeWrites : Type 0
AlikeWrites = (s t : LineTable) (p a w : ℕ) → AreAlike s t → p < length t.units → a < t.words
    → AreAlike (write s p a w) (write t p a w)

abbrev pub AlikeReplacements : Type 0
AlikeReplacements = (s t : LineTable) (u a : ℕ) → AreAlike s t → is_pinned (table_cache t u) t.units u a ≡ false
    → AreAlike (replace s u a) (replace t u a)

abbrev pub AlikeSquashes : Type 0
AlikeSquashes = (s t : LineTable) (n : ℕ) → AreAlike s t → 0 < n → n ≤ length t.units
    → AreAlike (squash s n) (squash t n)

abbrev pub AlikeCommits : Type 0
AlikeCommits = (s t : LineTable) → AreAlike s t → 0 < length t.units → AreAlike (commit s) (commit t)

abbrev pub AlikeBeginnings : Type 0
AlikeBeginnings = (s t : LineTable) (u : ℕ) → AreAlike s t → u < t.caches
    → ((p : ℕ) → p < length t.units → unit_at t p ≢ u) → AreAlike (begin s u) (begin t u)

-- and they stand for one map
abbrev pub AlikeMaps : Type 0
AlikeMaps = (s t : LineTable) → AreAlike s t → versioned_map s ≡ versioned_map t
