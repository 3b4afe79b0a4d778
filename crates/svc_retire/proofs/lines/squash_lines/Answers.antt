use Rattle.std.proofs.Common.{arith, ◌≡◌, ◌∙◌, ap, sym, subst, ℕ, ◌+◌, ◌<◌, List, length, get_or, set}
use Rattle.svc_cache.specs.Lines.{LineMap, squash_line}
use Rattle.svc_cache.specs.Places.{CacheValue, line_of}
use Rattle.svc_retire.specs.Caches.{no_cache, cache_at}
use Rattle.svc_retire.proofs.Listing.{read_item}
use Rattle.svc_retire.proofs.Squashing.{IsSquashed, squash_begins, squash_steps, squash_ends}
use Rattle.svc_retire.proofs.lines.squash_lines.Goals as goal

pub loop-cut-init : goal.loop-cut-init
loop-cut-init c = record { squashed = squash_begins c.args.caches.now c.args.queue.now c.args.position; none = λ h. omega arith }

pub loop-cut-preserved : goal.loop-cut-preserved
loop-cut-preserved c =
    let queue : List ℕ = c.args.queue.now in
    let now : List CacheValue = c.loop-cut.caches in
    let cut = c.loop-cut.cut in
    let at : c.unit_at-unit.result.0 ≡ get_or queue cut 0 = c.unit_at-unit.ensures in
    let size = c.len-cut-end.ensures.count in
    let known = c.requires cut (omega (arith, size)) in
    let within : get_or queue cut 0 < length now = omega (arith, known) in
    let here : c.unit_at-unit.result.0 < length now = omega (arith, at, within) in
    let was : CacheValue = get_or now c.unit_at-unit.result.0 c.index-caches-unit.result in
    let old : was ≡ cache_at now (get_or queue cut 0) = sym c.index-caches-unit.is ∙ sym (read_item now c.unit_at-unit.result.0 c.index-caches-unit.result no_cache c.index-caches-unit.is here) ∙ ap (cache_at now) at in
    let lines : line_of c.for_squash.new.self ≡ (λ word. squash_line (line_of was word)) = c.for_squash.ensures.lines in
    let sets : c.for_squash.new.self.sets ≡ was.sets = c.for_squash.ensures.sets in
    let ways : c.for_squash.new.self.ways ≡ was.ways = c.for_squash.ensures.ways in
    record {
      squashed = subst (λ u. IsSquashed c.args.caches.now (set now u c.for_squash.new.self) queue c.args.position (cut + 1)) (sym at)
          (squash_steps c.args.caches.now now queue c.args.position cut c.for_squash.new.self (omega arith) within c.loop-cut.invariant.squashed
          (lines ∙ ap {B = LineMap} (λ (cache : CacheValue) word. squash_line (line_of cache word)) old)
          (sets ∙ ap (λ (cache : CacheValue). cache.sets) old)
          (ways ∙ ap (λ (cache : CacheValue). cache.ways) old));
      none = λ h. omega (arith, h, size);
    }

pub returns-clause-lines : goal.returns-clause-lines
returns-clause-lines c =
    let count = c.len-cut-end.ensures.count in
    squash_ends c.args.caches.now c.loop-cut.caches c.args.queue.now c.args.position c.loop-cut.cut (omega arith) (λ h. omega (arith, h)) (λ h. c.loop-cut.invariant.none h) c.loop-cut.invariant.squashed

pub returns-clause-sizes : goal.returns-clause-sizes
returns-clause-sizes c = c.loop-cut.invariant.squashed.sizes
