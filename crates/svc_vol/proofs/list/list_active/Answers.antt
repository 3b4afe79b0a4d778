use Rattle.std.proofs.Common.{◌∙◌, ◌<◌, sym, ap, length, map, option_map, arith}
use Rattle.svc_line.specs.Line.{seen_line}
use Rattle.svc_vol.specs.Lines.{lines_at}
use Rattle.svc_vol.specs.Value.{active_line}
use Rattle.svc_vol.proofs.Finding.{active_more, line_of_unit}
use Rattle.svc_vol.proofs.list.list_active.Goals as goal

pub loop-place-preserved : goal.loop-place-preserved
loop-place-preserved c =
    let found = c.args.found.now in
    let queue = c.args.queue.now in
    let place = c.loop-place.place in
    let unit = c.unit_at-unit.result.0 in
    let lines = lines_at (map (option_map seen_line) found) in
    let here : place < length queue = omega arith in
    let known : unit < length found = let bound = c.requires.known place here in omega (arith, bound, c.unit_at-unit.ensures) in
    rw c.push.ensures.items (active_more lines queue c.loop-place.active.items place unit c.if_active.result here c.unit_at-unit.ensures c.loop-place.invariant (c.if_active.ensures ∙ ap (active_line unit) (sym (line_of_unit found unit _ known))))
