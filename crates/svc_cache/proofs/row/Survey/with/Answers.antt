use Rattle.std.proofs.Common.{◌≡◌, ◌∙◌, sym, ◌+◌, true, false, subst}
use Rattle.svc_cache.specs.Places.{is_held}
use Rattle.svc_cache.specs.Rows.{IsRoomBelow, place_at}
use Rattle.svc_cache.proofs.Surveys.{room-held, room-empty, leaves-new}
use Rattle.svc_cache.proofs.row.Survey.with.Goals as goal
use Rattle.svc_cache.proofs.row.Survey.with.Goals.{then-is_held, else-is_held}

pub returns-then-precedes : goal.returns-then-precedes
returns-then-precedes c =
    let row = c.args.row.now in
    let k = c.args.place in
    record {
      room = elim c.if-is_held.branch [
        | then-is_held w ↦
            let here : is_held (place_at row k) ≡ true = sym c.is_held.ensures ∙ w.if-is_held.true in
            subst (IsRoomBelow row (k + 1)) (sym w.empty-is) (room-held row k c.args.self.empty c.requires.before.room here)
        | else-is_held w ↦
            let here : is_held (place_at row k) ≡ false = sym c.is_held.ensures ∙ w.if-is_held.false in
            subst (IsRoomBelow row (k + 1)) (sym w.empty-is) (room-empty row k here)
      ];
      leaves = leaves-new row k c.args.self.leaver c.requires.before.leaves c.requires.within (sym c.precedes.ensures ∙ c.if-precedes.true);
    }
