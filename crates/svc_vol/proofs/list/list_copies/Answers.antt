use Rattle.std.proofs.Common.{◌≡◌, ◌+◌, ◌∙◌, refl, sym, ap, subst, length, map, option_map, arith}
use Rattle.svc_line.specs.Line.{seen_line}
use Rattle.svc_vol.specs.declared.held_line.HeldLine.{HeldLine}
use Rattle.svc_vol.specs.Lines.{lines_at}
use Rattle.svc_vol.specs.Listed.{is_copy, AreCopies}
use Rattle.svc_vol.proofs.Finding.{line_at}
use Rattle.svc_vol.proofs.Copying.{copy_less, copy_more, copy_found, copy_missed}
use Rattle.svc_vol.proofs.list.list_copies.Goals as goal
use Rattle.svc_vol.proofs.list.list_copies.Goals.{in-Some, in_default}

pub loop-unit-preserved : goal.loop-unit-preserved
loop-unit-preserved c =
    let found = c.args.found.now in
    let lines = lines_at (map (option_map seen_line) found) in
    let unit = c.loop-unit.unit in
    let items = c.loop-unit.committed.items in
    let are = c.loop-unit.invariant.copies in
    let few = c.loop-unit.invariant.few in
    elim c.match-copy_in.branch [
      | in-Some w ↦
          let new : HeldLine = record { unit = record { 0 = unit }; line = w.in-Some.line } in
          let copy = copy_found _ c.copy_in.result w.in-Some.line c.copy_in.ensures w.in-Some.is in
          let here = line_at found unit ∙ ap (option_map seen_line) copy.0 in
          record {
            few = let more = w.push.ensures.len in let same : length c.match-copy_in.committed.items ≡ length w.push.new.self.items = ap (λ (x : _). length x.items) w.committed-is in omega (arith, few, more, same);
            copies = subst (AreCopies lines (unit + 1)) (sym (ap (λ (x : _). x.items) w.committed-is ∙ w.push.ensures.items)) (copy_more lines unit items are new refl here (ap is_copy here ∙ copy.1));
          }
      | in_default w ↦ record {
        few = let same : length c.match-copy_in.committed.items ≡ length items = ap (λ (x : _). length x.items) w.committed-is in omega (arith, few, same);
        copies = subst (AreCopies lines (unit + 1)) (sym (ap (λ (x : _). x.items) w.committed-is)) (copy_less lines unit items are (ap is_copy (line_at found unit) ∙ copy_missed _ c.copy_in.result c.copy_in.ensures w.in_default.is));
      }
    ]
