use Rattle.std.proofs.Common.{◌∙◌, sym, ap, Option}
use Rattle.std.specs.Prelude.{option_map}
use Rattle.svc_line.specs.Line.{seen_line}
use Rattle.svc_line.specs.declared.line.Line.{Line}
use Rattle.svc_cache.specs.Rows.{place_at}
use Rattle.svc_cache.proofs.Caches.{line-found}
use Rattle.svc_cache.proofs.Founds.{found-here, found-lacks, held_of}
use Rattle.svc_cache.proofs.cache.Cache.lookup.Goals as goal

pub returns-in_err-place-clause-line : goal.returns-in_err-place-clause-line
returns-in_err-place-clause-line c =
    ap (λ (line : Option Line). option_map seen_line line) c.from_residual.ensures
    ∙ sym (found-lacks c.row-row.result.now c.args.word.0 c.in_err-place.ensures.found) ∙ line-found c.args.self.now c.args.word.0 c.row-row.result.now c.row-row.ensures.places

pub returns-clause-line : goal.returns-clause-line
returns-clause-line c =
    sym (found-here c.row-row.result.now c.in_ok-place.place c.args.word.0 c.in_ok-place.ensures.found) ∙ line-found c.args.self.now c.args.word.0 c.row-row.result.now c.row-row.ensures.places

pub returns-clause-valid : goal.returns-clause-valid
returns-clause-valid c = held_of (place_at c.row-row.result.now c.in_ok-place.place) c.args.word.0 c.in_ok-place.ensures.found.here
