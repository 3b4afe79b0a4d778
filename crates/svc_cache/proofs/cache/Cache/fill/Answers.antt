use Rattle.std.proofs.Common.{◌≡◌, ◌∙◌, refl, sym, ap, subst, ℕ, ◌+◌, ◌*◌, ◌%◌, Some, None, Option, List}
use Rattle.svc_cache.specs.Places.{CacheValue, line_of, row_at}
use Rattle.svc_cache.specs.Sound.{IsSound, value_of}
use Rattle.std.specs.Prelude.{MatchResult, IsErrAnd, Result, Ok, Err}
use Rattle.svc_line.specs.Line.{seen_line}
use Rattle.svc_cache.specs.declared.row.SetFull.{SetFull}
use Rattle.svc_cache.specs.declared.place.CachePlace.{CachePlace}
use Rattle.svc_cache.specs.Rows.{IsPlaceFor, IsFullRow}
use Rattle.svc_cache.specs.Lines.{LineMap, with_line}
use Rattle.svc_cache.proofs.Caches.{fill_place, with_place}
use Rattle.svc_cache.proofs.Fulls.{full-place, full-full}
use Rattle.svc_cache.proofs.cache.Cache.fill.Goals as goal

-- what is known of an error, as its caller reads it
refused : (r : Result (Unit {0}) SetFull) (error : SetFull) (address : Option ℕ) → IsErrAnd r (λ full. full ≡ error) → address ≡ Some error.0.0 → MatchResult r (λ _. address ≡ None) (λ full. address ≡ Some full.0.0)
refused (Ok done) error address is full = absurd is
refused (Err e) error address is full = full ∙ ap (λ (full : SetFull). Some full.0.0) (sym is)

pub returns-in_err-place-clause-refused : goal.returns-in_err-place-clause-refused
returns-in_err-place-clause-refused c = λ bound ends.
    let cache = c.args.self.now in
    let word = c.args.word.0 in
    let error = c.in_err-place.field-0.0 in
    let named = error.0.0 in
    refused c.from_residual.result error _ c.from_residual.ensures.1 (full-full cache word c.row.ensures.sound bound named ends (subst (λ (row : List CachePlace). IsFullRow row word named) c.row.ensures.places c.in_err-place.ensures.place))

-- the changed cache, as it was opened
put : (c : goal.After-self-1) → IsSound (with_place (value_of c.self.inside) (c.row_start-start.result + c.in_ok-place.place) (record { word = c.args.word; line = c.args.line })) × (line_of (with_place (value_of c.self.inside) (c.row_start-start.result + c.in_ok-place.place) (record { word = c.args.word; line = c.args.line })) ≡ with_line (line_of (value_of c.self.inside)) c.args.word.0 (Some (seen_line c.args.line)))
put c =
    let cache = value_of c.self.inside in
    let word = c.args.word.0 in
    let place = c.in_ok-place.place in
    let row : c.row.result.now ≡ row_at cache (word % cache.sets) = c.row.ensures.places ∙ ap (λ (v : CacheValue). row_at v (word % v.sets)) (sym c.self.view_is) in
    let start : c.row_start-start.result ≡ (word % cache.sets) * cache.ways = c.row_start-start.ensures.start ∙ ap (λ (v : CacheValue). (word % v.sets) * v.ways) (sym c.self.view_is) in
    fill_place cache word place (c.row_start-start.result + place) (record { word = c.args.word; line = c.args.line }) c.self.invariant (subst (λ (places : List CachePlace). IsPlaceFor places word place) row c.in_ok-place.ensures.place) (ap (λ n. n + place) start) c.requires.valid refl

pub invariant_of-self : goal.invariant_of-self
invariant_of-self c = (put c).0

pub returns-clause-refused : goal.returns-clause-refused
returns-clause-refused c = λ bound ends.
    let cache = c.args.self.now in
    let word = c.args.word.0 in
    full-place cache word c.row.ensures.sound bound c.in_ok-place.place ends (subst (λ (row : List CachePlace). IsPlaceFor row word c.in_ok-place.place) c.row.ensures.places c.in_ok-place.ensures.place)

pub returns-clause-line : goal.returns-clause-line
returns-clause-line c =
    (put c).1 ∙ ap {B = LineMap} (λ (cache : CacheValue). with_line (line_of cache) c.args.word.0 (Some (seen_line c.args.line))) c.self.view_is
