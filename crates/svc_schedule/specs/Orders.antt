-- The orders of the policies.
use Rattle.std.specs.Prelude.{◌≡◌, ℕ, zero, suc, ◌+◌, ◌-◌, ◌%◌, ◌^◌, if◌then◌else◌, nat_le}
use Rattle.std.specs.Prelude.{List, [], ◌∷◌, ◌++◌, map, Option, None, Some, option_map, slice_get, length}
use Rattle.std.specs.List.{insert}
use Rattle.svc_base.specs.declared.ids.UnitId.{UnitId}
use Rattle.svc_core.specs.declared.burst.Lease.{Lease}
use Rattle.svc_machine.specs.Reads.{lease_of}
use Rattle.svc_history_laws.specs.declared.entry.Entry.{Entry}
use Rattle.svc_history.specs.Recorded.{Recorded}
use Rattle.rand_pcg.specs.Lcg.{Lcg, increment_of, started}
use Rattle.rand_pcg.specs.Pcg.{multiplier_64, pcg32}
use Rattle.svc_schedule.specs.declared.policies.First.{First}
use Rattle.svc_schedule.specs.declared.policies.First.TheVariants.{Older, Younger}
use Rattle.svc_schedule.specs.declared.policies.Random.{Random}
use Rattle.svc_schedule.specs.declared.policies.Rotate.{Rotate}

-- the first n units from one on, by rising number, around
abbrev pub around_by : (first units n : ℕ) → List UnitId
around_by first units zero = []
around_by first units (suc n) = around_by first units n ++ record { 0 = (first + n) % units } ∷ []

-- all units from one on, by rising number, around
abbrev pub around : (first units : ℕ) → List UnitId
around first units = around_by first units units

-- the unit that moved last
abbrev pub unit_in : Entry → UnitId
unit_in e = e.unit

-- the unit that moved last, if any
abbrev pub moved_last : List Entry → Option UnitId
moved_last es = option_map unit_in (slice_get es (length es - 1))

-- the unit after that, unit 0 at the start
abbrev pub next_after : (units : ℕ) → Option UnitId → ℕ
next_after units None = 0
next_after units (Some unit) = (unit.0 + 1) % units

-- `rotate`: from the unit after the one that moved last
abbrev pub Rotates : Rotate → Recorded → List UnitId → Rotate → Type 0
Rotates old r order new =
    order ≡ around (next_after r.machine.config.units (moved_last r.entries)) r.machine.config.units

-- the place of a rank among others: after those that aren't greater
abbrev pub place_among : List ℕ → ℕ → ℕ
place_among [] rank = 0
place_among (other ∷ ranks) rank = if nat_le other rank then suc (place_among ranks rank) else 0

-- the first n units by rising rank, and by number where ranks are the same
abbrev pub by_rank : (rank : ℕ → ℕ) → (n : ℕ) → List UnitId
by_rank rank zero = []
by_rank rank (suc n) =
    insert (by_rank rank n) (place_among (map (λ u. rank u.0) (by_rank rank n)) (rank n)) (record { 0 = n })

-- the rank of a unit's task: the greater the number of its assignment, the younger it is. A unit without a task counts
-- as the youngest.
abbrev pub rank_of : First → Option Lease → ℕ
rank_of Older (Some lease) = lease.epoch
rank_of Older None = 2 ^ 64 - 1
rank_of Younger (Some lease) = 2 ^ 64 - 1 - lease.epoch
rank_of Younger None = 0

-- all units by the ages of their tasks
abbrev pub by_age : First → Recorded → List UnitId
by_age first r = by_rank (λ unit. rank_of first (lease_of r.machine unit)) r.machine.config.units

-- `oldest` and `youngest`
abbrev pub GoesByAge : {P : Type 0} → First → P → Recorded → List UnitId → P → Type 0
GoesByAge first old r order new = order ≡ by_age first r

-- the generator of a seed
abbrev pub generator_of : ℕ → Lcg
generator_of seed = started 64 multiplier_64 seed (increment_of 64 0)

-- `random`: from the unit that one draw gives
abbrev pub Draws : Random → Recorded → List UnitId → Random → Type 0
Draws old r order new =
    (order ≡ around ((pcg32 old.generator).0 % r.machine.config.units) r.machine.config.units)
    × (new.generator ≡ (pcg32 old.generator).1)
