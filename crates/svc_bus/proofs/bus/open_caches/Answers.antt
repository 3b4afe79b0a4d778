use Rattle.std.proofs.Common.{◌≡◌, ◌∙◌, sym, subst, ap, ◌+◌, List, [], ◌∷◌, ◌++◌, length}
use Rattle.std.proofs.lemmas.List.{length_push}
use Rattle.svc_cache.specs.Places.{CacheValue}
use Rattle.svc_bus.specs.Opened.{AreEmpty}
use Rattle.svc_bus.proofs.Opening.{none_empty, one_more_empty}
use Rattle.svc_bus.proofs.bus.open_caches.Goals as goal

pub loop-init : goal.loop-init
loop-init c = record {
  count = ap (λ (cs : List CacheValue). length cs) c.in-Ok.ensures.items;
  empty = subst (λ (cs : List CacheValue). AreEmpty cs c.args.sets c.args.ways) (sym c.in-Ok.ensures.items) (none_empty c.args.sets c.args.ways);
}

pub loop-preserved : goal.loop-preserved
loop-preserved c =
    let caches : List CacheValue = c.loop.caches.items in
    let cache : CacheValue = c.in_ok-cache.cache in
    let items : c.push.new.self.items ≡ caches ++ cache ∷ [] = c.in-Ok-push.ensures.items in
    record {
      count = ap (λ (cs : List CacheValue). length cs) items ∙ length_push caches cache ∙ ap (λ n. n + 1) c.loop.invariant.count;
      empty = subst (λ (cs : List CacheValue). AreEmpty cs c.args.sets c.args.ways) (sym items) (one_more_empty caches cache c.args.sets c.args.ways c.loop.invariant.empty c.in_ok-cache.ensures.sets c.in_ok-cache.ensures.ways c.in_ok-cache.ensures.lines);
    }
