use Rattle.std.proofs.Common.{◌≡◌}
use Rattle.svc_cache.specs.Places.{line_of}
use Rattle.svc_cache.specs.Sound.{IsSound, value_of}
use Rattle.svc_cache.specs.Lines.{no_lines}
use Rattle.svc_cache.proofs.Caches.{opened_cache}
use Rattle.svc_cache.proofs.cache.Cache.open.Goals as goal

opened : (c : goal.In-Ok) → IsSound (value_of (record { sets = c.args.sets; ways = c.args.ways; places = c.in-Ok.places })) × (line_of (value_of (record { sets = c.args.sets; ways = c.args.ways; places = c.in-Ok.places })) ≡ no_lines)
opened c =
    opened_cache (value_of (record { sets = c.args.sets; ways = c.args.ways; places = c.in-Ok.places })) c.requires.power c.requires.few_sets c.requires.some_ways c.requires.few_ways c.in-Ok.ensures.size c.in-Ok.ensures.empty

pub invariant_of-result : goal.invariant_of-result
invariant_of-result c = (opened c).0

pub returns-in-Ok-clause-lines : goal.returns-in-Ok-clause-lines
returns-in-Ok-clause-lines c = (opened c).1
