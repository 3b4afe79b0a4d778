use Rattle.std.proofs.Common.{◌≡◌, ◌≤◌, ◌∙◌, List, length, ap, arith, refl, subst, sym}
use Rattle.std.proofs.lemmas.List.{with_items_is}
use Rattle.svc_line.specs.Bits.{after_squash}
use Rattle.svc_cache.specs.declared.place.CachePlace.{CachePlace}
use Rattle.svc_cache.specs.Changes.{IsChangedBelow}
use Rattle.svc_cache.specs.Lines.{LineMap, squash_line}
use Rattle.svc_cache.specs.Places.{CacheValue, line_of}
use Rattle.svc_cache.specs.Sound.{value_of, IsSound}
use Rattle.svc_cache.proofs.Caches.{squashed_places}
use Rattle.svc_cache.proofs.cache.Cache.for_squash.Goals as goal

module _ (c : goal.After-self-1) where
  abbrev items : List CachePlace
  items = c.loop-place.place-items

  abbrev after : CacheValue
  after = record (value_of c.self.inside) { places = items }

  changed : IsChangedBelow after_squash c.loop-place.place-index c.self.inside.places.items items
  changed = subst (λ (l : List CachePlace). IsChangedBelow after_squash c.loop-place.place-index l items) c.deref_mut-place-items.ensures.value c.loop-place.invariant

  every : length c.self.inside.places.items ≤ c.loop-place.place-index
  every = omega (arith, c.loop-place-test.false, ap length c.deref_mut-place-items.ensures.value)

  done : IsSound after × (line_of after ≡ (λ word. squash_line (line_of (value_of c.self.inside) word)))
  done = squashed_places (value_of c.self.inside) after c.loop-place.place-index c.self.invariant refl refl every changed

  same : length items ≡ c.self.inside.places.len
  same = changed.size ∙ sym c.self.inside.places.ok.0

pub invariant_of-self : goal.invariant_of-self
invariant_of-self c = rw (with_items_is c.self.inside.places (items c) (same c)) (done c).0

pub returns-clause-lines : goal.returns-clause-lines
returns-clause-lines c =
    rw (with_items_is c.self.inside.places (items c) (same c)) ((done c).1
    ∙ ap {B = LineMap} (λ (cache : CacheValue) word. squash_line (line_of cache word)) c.self.view_is)
