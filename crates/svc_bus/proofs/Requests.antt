-- What a sound bus gives a request for a word.
use Rattle.std.proofs.Common.{◌≡◌, ◌∙◌, sym, ap, subst, ℕ, ◌+◌, ◌<◌, ◌≤◌, List, length, map, option_map, arith}
use Rattle.svc_base.specs.declared.config.TheConstants.{MAX_WAYS}
use Rattle.svc_cache.specs.declared.probes.Probes.{Probes}
use Rattle.svc_cache.specs.Places.{CacheValue}
use Rattle.svc_cache.specs.Probes.{CountsOneSearch}
use Rattle.svc_vol.specs.Lines.{HasRoomForEach, CanBeListed, CountsOneOfEach, lines_in, IsRanked}
use Rattle.svc_vol.specs.Value.{AreCommitted, IsListOf, ListValue, active_lines, seen_held_line}
use Rattle.svc_vcl.specs.Described.{Describes, bus_line_of}
use Rattle.svc_vcl.proofs.Describing.{described}
use Rattle.svc_retire.specs.Caches.{cache_at}
use Rattle.svc_retire.specs.Purges.{HasRoomFor}
use Rattle.svc_retire.proofs.Dropping.{lines_are}
use Rattle.svc_bus.specs.Requests.{IsBusRequest}
use Rattle.svc_bus.specs.Value.{BusValue, IsSoundBus, state_in}
use Rattle.svc_bus.proofs.Knowing.{never_older, ranked, units_known}
use Rattle.svc_bus.proofs.Rooms.{ways_few, places_few}

-- at most one look-up was counted
pub record AreFew (probes : Probes) : Type 0 where
  pub searches : probes.searches ≤ 1
  pub places : probes.places ≤ MAX_WAYS

module _ (b : BusValue) (sound : IsSoundBus b) where
  -- one look into one cache was counted
  pub one_look : (unit : ℕ) (cache : CacheValue) (first later : Probes) → unit < length b.caches → cache_at b.caches unit ≡ cache → first.searches ≡ 0 → first.places ≡ 0 → CountsOneSearch first later cache.ways → AreFew later
  one_look unit cache first later known at none empty counts =
      let few : (cache_at b.caches unit).ways ≤ MAX_WAYS = ways_few b sound unit known in
      let here : (cache_at b.caches unit).ways ≡ cache.ways = ap (λ (x : CacheValue). x.ways) at in
      record {
        searches = omega (arith, counts.searches, none);
        places = omega (arith, counts.places, empty, few, here);
      }

  -- the look-ups of the version list can be counted
  pub room_to_list : (probes : Probes) → AreFew probes → HasRoomForEach probes b.caches
  room_to_list probes few = record {
    searches = omega (arith, few.searches, sound.few_caches);
    places = omega (arith, few.places, places_few b sound);
  }

  -- and then those of the changes
  pub room_to_change : (first later : Probes) → AreFew first → CountsOneOfEach first later b.caches → HasRoomFor later b.caches (1 + length b.caches)
  room_to_change first later few counts = record {
    searches = omega (arith, few.searches, counts.searches, sound.few_caches);
    places = omega (arith, few.places, counts.places, places_few b sound, sound.few_caches);
    ways = ways_few b sound;
  }

  -- a version list describes the bus
  pub list_describes : (word : ℕ) (list : ListValue) → AreCommitted (lines_in b.caches word) (length b.caches) list.committed
      → map (option_map seen_held_line) list.active ≡ active_lines (lines_in b.caches word) b.units → Describes (state_in b) word list
  list_describes word list committed active = described (state_in b) word (lines_in b.caches word) (λ u. ap bus_line_of (sym (lines_are b.caches word u))) list committed active (never_older b sound word)

  -- also one of caches that are the bus's
  pub listed_describes : (caches : List CacheValue) → caches ≡ b.caches → (word : ℕ) (list : ListValue) → AreCommitted (lines_in caches word) (length caches) list.committed
      → map (option_map seen_held_line) list.active ≡ active_lines (lines_in caches word) b.units → Describes (state_in b) word list
  listed_describes caches same word list committed active = list_describes word list
      (subst (λ (xs : List CacheValue). AreCommitted (lines_in xs word) (length xs) list.committed) same committed)
      (subst (λ (xs : List CacheValue). map (option_map seen_held_line) list.active ≡ active_lines (lines_in xs word) b.units) same active)

  -- the lines of a word can be listed, in caches that are the bus's
  pub listable : (caches : List CacheValue) → caches ≡ b.caches → (word : ℕ) → CanBeListed caches b.units word
  listable caches same word = subst (λ (xs : List CacheValue). CanBeListed xs b.units word) (sym same) (record { few = sound.few_caches; known = units_known b sound; ranked = ranked b sound word })

  -- and a unit can ask for the word
  pub bus_request : (caches : List CacheValue) → caches ≡ b.caches → (memory : List ℕ) → memory ≡ b.backing → (unit word : ℕ) (list : ListValue) (looked : List CacheValue) → looked ≡ b.caches
      → IsListOf (lines_in looked word) (length looked) b.units list → unit < length b.caches → word < length b.backing → IsBusRequest caches memory list unit word
  bus_request caches same memory also unit word list looked was lists known stored = record {
    known = subst (λ (xs : List CacheValue). unit < length xs) (sym same) known;
    purge = record {
      listed = subst (λ (xs : List CacheValue). AreCommitted (lines_in xs word) (length xs) list.committed) (was ∙ sym same) lists.committed;
      ranked = subst (λ (xs : List CacheValue). IsRanked (length xs) (lines_in xs word)) (sym same) (ranked b sound word);
      in_memory = subst (λ (ws : List ℕ). word < length ws) (sym also) stored;
    };
  }
