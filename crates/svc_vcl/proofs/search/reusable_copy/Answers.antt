use Rattle.std.proofs.Common.{◌≡◌, ◌∙◌, ◌<◌, ◌≤◌, ◌&&◌, ◌==◌, true, sym, ap, length, option_map, arith}
use Rattle.std.proofs.lemmas.Bool.{and_from, eq-eqb}
use Rattle.svc_line.specs.Bits.{bits_of, is_reusable}
use Rattle.svc_vol.specs.Value.{unit_at, held_at}
use Rattle.svc_vcl.proofs.Searching.{least_here, least_past}
use Rattle.svc_vcl.proofs.search.reusable_copy.Goals as goal

pub returns-then-is_reusable : goal.returns-then-is_reusable
returns-then-is_reusable c =
    let committed = c.args.committed.now in
    let here : c.loop-place.place < length committed = omega arith in
    let pass : ((unit_at committed c.loop-place.place == c.args.unit.0) && is_reusable (bits_of (held_at committed c.loop-place.place).line.bits)) ≡ true = and_from _ _ (eq-eqb _ _ c.if-held-unit.true) (sym c.is_reusable.ensures ∙ c.if-is_reusable.true) in
    sym (ap (option_map (held_at committed)) (least_here (length committed) c.loop-place.place _ here pass c.loop-place.invariant))

pub returns : goal.returns
returns c =
    let committed = c.args.committed.now in
    let past : length committed ≤ c.loop-place.place = omega arith in
    sym (ap (option_map (held_at committed)) (least_past (length committed) c.loop-place.place _ past c.loop-place.invariant))
