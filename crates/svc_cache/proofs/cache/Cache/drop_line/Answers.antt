use Rattle.std.proofs.Common.{◌≡◌, ◌∙◌, sym, ap, subst, ◌+◌, ◌*◌, ◌%◌, None, List, length}
use Rattle.svc_cache.specs.Places.{CacheValue, line_of, row_at}
use Rattle.svc_cache.specs.Sound.{IsSound, value_of}
use Rattle.svc_cache.specs.declared.place.CachePlace.{CachePlace}
use Rattle.svc_cache.specs.Rows.{IsFirstHolder, LacksBelow}
use Rattle.svc_cache.specs.Lines.{LineMap, with_line}
use Rattle.svc_cache.proofs.Caches.{take_line, with_place, without_line}
use Rattle.svc_cache.proofs.cache.Cache.drop_line.Goals as goal

-- the changed cache, as it was opened
taken : (c : goal.After-self-1) → IsSound (with_place (value_of c.self.inside) (c.row_start-start.result + c.in-Some.place) c.empty.result) × (line_of (with_place (value_of c.self.inside) (c.row_start-start.result + c.in-Some.place) c.empty.result) ≡ with_line (line_of (value_of c.self.inside)) c.args.word.0 None)
taken c =
    let cache = value_of c.self.inside in
    let word = c.args.word.0 in
    let place = c.in-Some.place in
    let row : c.row.result.now ≡ row_at cache (word % cache.sets) = c.row.ensures.places ∙ ap (λ (v : CacheValue). row_at v (word % v.sets)) (sym c.self.view_is) in
    let start : c.row_start-start.result ≡ (word % cache.sets) * cache.ways = c.row_start-start.ensures.start ∙ ap (λ (v : CacheValue). (word % v.sets) * v.ways) (sym c.self.view_is) in
    take_line cache word place (c.row_start-start.result + place) c.empty.result c.self.invariant (subst (λ (places : List CachePlace). IsFirstHolder places word place) row c.in-Some.ensures.found) (ap (λ n. n + place) start) c.empty.ensures

pub invariant_of-self : goal.invariant_of-self
invariant_of-self c = (taken c).0

pub returns-in-Some-clause-line : goal.returns-in-Some-clause-line
returns-in-Some-clause-line c =
    (taken c).1 ∙ ap {B = LineMap} (λ (cache : CacheValue). with_line (line_of cache) c.args.word.0 None) c.self.view_is

pub returns-in_default-clause-line : goal.returns-in_default-clause-line
returns-in_default-clause-line c =
    let word = c.args.word.0 in
    without_line c.args.self.now word (subst (λ (places : List CachePlace). LacksBelow places (length places) word) c.row.ensures.places c.in_default.ensures.found)
