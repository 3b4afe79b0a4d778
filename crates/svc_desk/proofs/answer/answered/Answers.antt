use Rattle.std.proofs.Common.{◌∙◌, ap, map, refl, string_bytes}
use Rattle.svc_desk.proofs.Told.{kept, told}
use Rattle.svc_desk.proofs.answer.answered.Goals as goal

pub returns-clause-done : goal.returns-clause-done
returns-clause-done c = λ isnt.
    let same = c.if-not-is_same.ensures {u = tt} in
    let desk = c.new-desk.ensures in
    told _ _ _ _ _ _ _ _ _ _ _ _ _ _ _ (ap (map string_bytes) c.deref.ensures.value ∙ c.in-Ok.ensures {u = tt})
    (ap (λ lent. lent.sizes.now) desk.lent) (ap (λ lent. lent.contents.now) desk.lent) (same.sizes refl) (same.contents refl)
    desk.sizes desk.saved c.new-out.ensures.items (c.execute_alone-status.ensures.done isnt)

pub returns-clause-kept : goal.returns-clause-kept
returns-clause-kept c =
    let same = c.if-not-is_same.ensures {u = tt} in
    let desk = c.new-desk.ensures in
    kept _ _ _ _ _ _ _ _ _ _ _ _ _ (ap (map string_bytes) c.deref.ensures.value ∙ c.in-Ok.ensures {u = tt})
    (ap (λ lent. lent.sizes.now) desk.lent) (ap (λ lent. lent.contents.now) desk.lent) (same.sizes refl) (same.contents refl)
    desk.sizes desk.saved c.new-out.ensures.items c.execute_alone-status.ensures.kept
