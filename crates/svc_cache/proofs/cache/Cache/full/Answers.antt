use Rattle.std.proofs.Common.{sym, subst, List}
use Rattle.svc_cache.specs.declared.place.CachePlace.{CachePlace}
use Rattle.svc_cache.specs.Rows.{IsPlaceFor, IsFullRow}
use Rattle.svc_cache.proofs.Fulls.{full-place, full-full}
use Rattle.svc_cache.proofs.cache.Cache.full.Goals as goal

pub returns-in-Ok-clause-address : goal.returns-in-Ok-clause-address
returns-in-Ok-clause-address c = λ bound ends.
    let cache = c.args.self.now in
    let word = c.args.word.0 in
    sym (full-place cache word c.row.ensures.sound bound c.in-Ok.field-0 ends (subst (λ (row : List CachePlace). IsPlaceFor row word c.in-Ok.field-0) c.row.ensures.places c.in-Ok.ensures.place))

pub returns-in-Err-clause-address : goal.returns-in-Err-clause-address
returns-in-Err-clause-address c = λ bound ends.
    let cache = c.args.self.now in
    let word = c.args.word.0 in
    let named = c.in-Err.field-0.0.0 in
    sym (full-full cache word c.row.ensures.sound bound named ends (subst (λ (row : List CachePlace). IsFullRow row word named) c.row.ensures.places c.in-Err.ensures.place))
