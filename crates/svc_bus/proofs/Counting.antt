-- Room to count the look-ups of one request, and how many they are.
use Rattle.std.proofs.Common.{◌≡◌, refl, Bool, ℕ, ◌+◌, ◌<◌, ◌≤◌, true, false, ◌&&◌, Option, Some, List, length, arith, eq-eqb, true≢false, Ok, Err, OnOk}
use Rattle.std.specs.Prelude.{Result}
use Rattle.svc_base.specs.declared.ids.UnitId.{UnitId}
use Rattle.svc_base.specs.declared.served.Served.{Served}
use Rattle.svc_base.specs.declared.served.Served.TheVariants.{Hit, Reuse, Version, Spill, Committed, Memory}
use Rattle.svc_cache.specs.declared.probes.Probes.{Probes}
use Rattle.svc_cache.specs.Places.{CacheValue}
use Rattle.svc_vol.specs.Lines.{is_committed_version}
use Rattle.svc_retire.specs.Caches.{held_line, SameSizes}
use Rattle.svc_retire.specs.Purges.{is_purged, purges, HasRoomFor, CountsSearches}
use Rattle.svc_retire.proofs.Counts.{how_many_within, how_many_room}
use Rattle.svc_bus.specs.Carried.{is_hit}
use Rattle.svc_bus.specs.Looking.{CountsUpTo, LookUps}

-- a purge takes out no more lines than there are caches
pub purges_few : (caches : List CacheValue) (keep : Option UnitId) (word : ℕ) → purges caches keep word ≤ length caches
purges_few caches keep word = how_many_within (length caches) (is_purged caches keep word)

-- and one fewer where a unit keeps its line
pub purges_fewer : (caches : List CacheValue) (unit : UnitId) (word : ℕ) → unit.0 < length caches → purges caches (Some unit) word < length caches
purges_fewer caches unit word known =
    how_many_room (length caches) (is_purged caches (Some unit) word) unit.0 known (rw (eq-eqb unit.0 unit.0 refl) (never (is_committed_version (held_line caches unit.0 word))))
  where
    never : (b : Bool) → (b && false) ≡ false
    never true = refl
    never false = refl

-- room that is left after a part of the look-ups
pub room_after : (before after : List CacheValue) (first later : Probes) (counted left : ℕ) → HasRoomFor first before (counted + left) → SameSizes before after → CountsSearches first later counted → HasRoomFor later after left
room_after before after first later counted left room sizes counts = record {
  searches = omega (arith, room.searches, counts.searches);
  places = omega (arith, room.places, counts.places);
  ways = λ u h. let e = sizes.ways u in let few = room.ways u (omega (arith, h, sizes.count)) in omega (arith, e, few);
}

-- room for fewer look-ups
pub room_less : (caches : List CacheValue) (probes : Probes) (more fewer : ℕ) → fewer ≤ more → HasRoomFor probes caches more → HasRoomFor probes caches fewer
room_less caches probes more fewer h room = record {
  searches = omega (arith, h, room.searches);
  places = omega (arith, h, room.places);
  ways = room.ways;
}

-- one more look-up than a purge makes, which leaves the unit's line
pub few_counted : {A E : Type 0} (r : Result A E) (caches : List CacheValue) (unit : UnitId) (word : ℕ) (first later : Probes) → unit.0 < length caches
    → OnOk r (CountsSearches first later (purges caches (Some unit) word + 1)) → OnOk r (CountsUpTo first later (length caches))
few_counted (Ok x) caches unit word first later known counts = let fewer = purges_fewer caches unit word known in record { kept = omega (arith, counts.searches); few = omega (arith, counts.searches, fewer) }
few_counted (Err e) caches unit word first later known counts = tt

-- the look-ups of a read that is no hit: one into each cache, and some for the changes
pub look_ups : (served : Served) (caches : ℕ) (listed later : Probes) → is_hit served ≡ false → 0 < caches → listed.searches ≡ caches → CountsUpTo listed later caches → LookUps served later.searches caches
look_ups Hit caches listed later miss some each counts = absurd (true≢false miss)
look_ups Reuse caches listed later miss some each counts = record { some = omega (arith, some, each, counts.kept); few = omega (arith, each, counts.few) }
look_ups (Version unit) caches listed later miss some each counts = record { some = omega (arith, each, counts.kept); few = omega (arith, each, counts.few) }
look_ups Spill caches listed later miss some each counts = record { some = omega (arith, each, counts.kept); few = omega (arith, each, counts.few) }
look_ups (Committed unit) caches listed later miss some each counts = record { some = omega (arith, each, counts.kept); few = omega (arith, each, counts.few) }
look_ups Memory caches listed later miss some each counts = record { some = omega (arith, each, counts.kept); few = omega (arith, each, counts.few) }
