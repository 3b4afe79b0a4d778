use Rattle.std.proofs.Common.{◌≡◌, ◌<◌, ◌∙◌, ap, sym, arith, List, length, get_or}
use Rattle.svc_cache.specs.Places.{CacheValue}
use Rattle.svc_retire.specs.Caches.{no_cache, cache_at}
use Rattle.svc_retire.proofs.Listing.{read_item}
use Rattle.svc_bus.proofs.Copying.{copy_begins, copy_ends, copy_steps}
use Rattle.svc_bus.proofs.copy.copy_caches.Goals as goal

pub loop-unit-init : goal.loop-unit-init
loop-unit-init c = record { copied = copy_begins c.args.caches.now c.args.others.now c.requires.count c.requires.sets c.requires.ways }

pub loop-unit-preserved : goal.loop-unit-preserved
loop-unit-preserved c =
    let now : List CacheValue = c.loop-unit.caches in
    let others : List CacheValue = c.args.others.now in
    let unit = c.loop-unit.unit in
    let inside : unit < length others = omega arith in
    record {
      copied = copy_steps now others unit c.copy_from.new.self inside
          (λ d. c.copy_from.ensures ∙ sym (read_item others unit c.index-others-unit.result d c.index-others-unit.is inside)) c.loop-unit.invariant.copied;
    }

pub returns : goal.returns
returns c = copy_ends c.loop-unit.caches c.args.others.now c.loop-unit.unit (omega arith) c.loop-unit.invariant.copied
