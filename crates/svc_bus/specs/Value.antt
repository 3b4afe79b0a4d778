-- What a bus holds, and what holds of every bus.
use Rattle.std.specs.Prelude.{◌≡◌, ℕ, ◌<◌, ◌≤◌, ◌^◌, Option, None, List, length, get_or}
use Rattle.svc_base.specs.declared.config.TheConstants.{MAX_WAYS}
use Rattle.svc_vol.specs.declared.list.TheConstants.{CAPACITY}
use Rattle.svc_cache.specs.Places.{CacheValue}
use Rattle.svc_bus_laws.specs.BusState.{BusState}
use Rattle.svc_links_laws.specs.LinkOrder.{linked_order}
use Rattle.svc_links_laws.specs.LinkedBus.{IsLinkedBus}
use Rattle.svc_retire.specs.Caches.{cache_at}
use Rattle.svc_bus.specs.Lines.{line_in, link_in}

-- the units' caches, the spilled value and the backing word of each word, the units of the active tasks, oldest first,
-- how many tasks were committed, and the look-ups of the last accepted read or write. Callers see none of it directly.
pub record BusValue : Type 0 where
  pub caches : List CacheValue
  pub spill : List (Option ℕ)
  pub backing : List ℕ
  pub units : List ℕ
  pub commits : ℕ
  pub probes : ℕ

-- what callers may know of it; a word's dirty lines are in the order of their links
abbrev pub state_in : BusValue → BusState
state_in b = record {
  caches = length b.caches;
  sets = (cache_at b.caches 0).sets;
  ways = (cache_at b.caches 0).ways;
  words = length b.backing;
  lines = line_in b.caches;
  is_older = linked_order (length b.caches) (line_in b.caches) (link_in b.caches);
  spill = λ a. get_or b.spill a None;
  backing = λ a. get_or b.backing a 0;
  commits = b.commits;
  units = b.units;
  probes = b.probes;
}

-- what the type of a bus guarantees: some line table agrees with it, its links follow that table's numbers, and its
-- parts have their sizes
pub record IsSoundBus (b : BusValue) : Type 0 where
  pub linked : IsLinkedBus (state_in b) (link_in b.caches)
  pub some_caches : 0 < length b.caches
  pub few_caches : length b.caches ≤ CAPACITY
  pub one_size : (u : ℕ) → u < length b.caches → (cache_at b.caches u).sets ≡ (cache_at b.caches 0).sets
  pub one_width : (u : ℕ) → u < length b.caches → (cache_at b.caches u).ways ≡ (cache_at b.caches 0).ways
  pub few_ways : (cache_at b.caches 0).ways ≤ MAX_WAYS
  pub spills : length b.spill ≡ length b.backing
  pub few_words : length b.backing < 2 ^ 32
  pub few_commits : b.commits ≤ 2 ^ 63
