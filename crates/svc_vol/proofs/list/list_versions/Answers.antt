use Rattle.std.proofs.Common.{◌+◌, ◌∙◌, refl, sym, ap, subst, get_or, map, option_map, arith, true≢false}
use Rattle.svc_line.specs.Line.{seen_line}
use Rattle.svc_vol.specs.declared.held_line.HeldLine.{HeldLine}
use Rattle.svc_vol.specs.Lines.{is_committed_version, lines_at}
use Rattle.svc_vol.specs.Listed.{ListsAfter}
use Rattle.svc_vol.proofs.Finding.{line_at}
use Rattle.svc_vol.proofs.Copying.{one_after}
use Rattle.svc_vol.proofs.list.list_versions.Goals as goal
use Rattle.svc_vol.proofs.list.list_versions.Goals.{in-Some, in_default}

pub loop-unit-preserved : goal.loop-unit-preserved
loop-unit-preserved c =
    let found = c.args.found.now in
    let lines = lines_at (map (option_map seen_line) found) in
    let order = c.args.order.now in
    let index = c.loop-unit.unit-index in
    let unit = get_or order index 0 in
    elim c.match-found-unit.branch [
      | in-Some w ↦
          let new : HeldLine = record { unit = record { 0 = unit }; line = w.in-Some.line } in
          subst (ListsAfter lines c.args.committed.now.items order (index + 1)) (sym (ap (λ (x : _). x.items) w.committed-is ∙ w.push.ensures.items))
          (one_after lines c.args.committed.now.items order index c.loop-unit.committed.items new c.loop-unit.invariant refl (line_at found unit ∙ ap (option_map seen_line) w.in-Some.is))
      | in_default w ↦ absurd (true≢false (sym (c.requires.known index (omega arith)) ∙ ap is_committed_version (line_at found unit ∙ ap (option_map seen_line) w.in_default.is)))
    ]
