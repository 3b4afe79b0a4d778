use Rattle.std.proofs.Common.{◌≡◌, ◌<◌, List, length}
use Rattle.svc_cache.specs.Places.{CacheValue}
use Rattle.svc_retire.specs.Caches.{cache_at, no_cache}
use Rattle.svc_retire.proofs.Listing.{read_item}
use Rattle.svc_bus.specs.State.{bus_state}
use Rattle.svc_bus.proofs.Full.{full_answer}
use Rattle.svc_bus.proofs.bus.Bus.set_full.Goals as goal

pub returns : goal.returns
unfolding bus_state
returns c =
    let caches : List CacheValue = c.self.inside.caches.items in
    let known : c.args.unit.0 < length caches = rw (← c.self.view_is) at c.requires.known in
    let cache : CacheValue = c.index.result.now in
    let is : cache_at caches c.args.unit.0 ≡ cache = read_item caches c.args.unit.0 cache no_cache c.index.ensures known in
    record { address = rw (← c.self.view_is) (full_answer _ c.args.unit.0 c.self.invariant known cache c.args.word.0 _ is c.full.ensures.address) }
