use Rattle.std.proofs.Common.{◌≡◌, ◌≤◌, ◌+◌, map, option_map, take}
use Rattle.svc_line.specs.Line.{seen_line}
use Rattle.svc_cache.specs.Places.{CacheValue, line_of}
use Rattle.svc_vol.specs.Lines.{ways_in}
use Rattle.svc_vol.proofs.list.find.Given as goal

abbrev pub invariant-loop-cache : goal.invariant-loop-cache
invariant-loop-cache l = record {
  lines : map (option_map seen_line) l.found.items ≡ map (λ (cache : CacheValue). line_of cache l.word.0) (take l.cache-index l.caches);
  searches : l.probes.searches ≡ l.initial.probes.searches + l.cache-index;
  places : l.probes.places ≤ l.initial.probes.places + ways_in (take l.cache-index l.caches);
}
