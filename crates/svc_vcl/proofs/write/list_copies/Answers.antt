use Rattle.std.proofs.Common.{◌≡◌, ◌∙◌, ◌<◌, ◌&&◌, ◌==◌, refl, sym, ap, ap₂, true, false, cond, not, Bool, Some, None, length, arith}
use Rattle.std.proofs.lemmas.Bool.{eq-eqb, ne_eqb}
use Rattle.svc_vol.specs.declared.held_line.HeldLine.{HeldLine}
use Rattle.svc_vol.specs.Value.{no_held_line, held_at}
use Rattle.svc_vcl.specs.Planned.{fresh_beside, is_fresh_copy}
use Rattle.svc_vcl.proofs.Staling.{kept_on, left_out}
use Rattle.svc_vcl.proofs.write.list_copies.Goals as goal
use Rattle.svc_vcl.proofs.write.list_copies.Goals.{then-held-writer+then-is_fresh_copy, else-held-writer, else-held-writer-via-then-held-writer+else-is_fresh_copy, else-held-writer-via-else-held-writer}

abbrev here : goal.Joined-held-writer → HeldLine
here c = held_at c.args.committed.now c.loop-held.held-index

-- the two tests that a copy passes
beside : (c : goal.Joined-held-writer) (x y : Bool) → ((here c).unit.0 == c.args.writer.0) ≡ x → is_fresh_copy (here c) ≡ y → fresh_beside c.args.writer.0 (here c) ≡ cond (not x && y) (Some (here c)) None
beside c x y is fresh = ap₂ (λ a b. cond (not a && b) (Some (here c)) None) is fresh

pub loop-held-preserved : goal.loop-held-preserved
loop-held-preserved c =
    let committed = c.args.committed.now in
    let index = c.loop-held.held-index in
    let within : index < length committed = omega arith in
    let size = c.loop-held.invariant.size in
    elim c.if-held-writer.branch [
      | then-held-writer+then-is_fresh_copy w ↦ record {
        size = let more = w.push.ensures.len in let same : length c.if-held-writer.stale.items ≡ length w.push.new.self.items = ap (λ (x : _). length x.items) w.stale-is in omega arith;
        listed =
            ap (λ (x : _). x.items) w.stale-is ∙ w.push.ensures.items
            ∙ kept_on (fresh_beside c.args.writer.0) committed index no_held_line c.args.stale.now.items c.loop-held.stale.items within c.loop-held.invariant.listed (here c)
            (beside c false true (ne_eqb _ _ w.if-held-writer.true) (sym w.is_fresh_copy.ensures ∙ w.if-is_fresh_copy.true));
      }
      | else-held-writer w ↦ record {
        size = let same : length c.if-held-writer.stale.items ≡ length c.loop-held.stale.items = ap (λ (x : _). length x.items) w.stale-is in omega arith;
        listed =
            ap (λ (x : _). x.items) w.stale-is
            ∙ left_out (fresh_beside c.args.writer.0) committed index no_held_line c.args.stale.now.items c.loop-held.stale.items within c.loop-held.invariant.listed (elim w.else-held-writer.branch [
              | else-held-writer-via-then-held-writer+else-is_fresh_copy v ↦ beside c false false (ne_eqb _ _ v.if-held-writer.true) (sym v.is_fresh_copy.ensures ∙ v.if-is_fresh_copy.false)
              | else-held-writer-via-else-held-writer v ↦ beside c true (is_fresh_copy (here c)) (eq-eqb _ _ v.if-held-writer.false) refl
            ]);
      }
    ]
