use Rattle.std.proofs.Common.{◌≡◌, ◌≢◌, ◌↔◌, ◌∙◌, ◌<◌, ℕ, Some, List, sym, subst, get_or, length, arith}
use borrow.Author.Count.{below_more}
use Rattle.svc_order.specs.Order.{numbers}
use Rattle.svc_order.proofs.Orders.{get_or-read, length-numbers, only_place}
use Rattle.svc_order.proofs.queue.TaskQueue.position.Goals as goal

pub returns-then-deref-position : goal.returns-then-deref-position
returns-then-deref-position c =
    let units = c.self.inside.units.items in
    let place = c.loop-position.position in
    let n = c.args.unit.0 in
    let here : place < length units = omega arith in
    let within : place < length (numbers units) = omega (arith, length-numbers units) in
    let found : get_or (numbers units) place 0 ≡ n = get_or-read units c.deref.result.now place c.deref.ensures.0 here ∙ c.if-deref-position.true in
    subst (λ (values : List ℕ). (p : ℕ) → (Some place ≡ Some p) ↔ ((p < length values) × (get_or values p 0 ≡ n))) c.self.view_is (only_place (numbers units) place n c.self.invariant within found)

pub loop-position-preserved : goal.loop-position-preserved
loop-position-preserved c =
    let units = c.self.inside.units.items in
    let place = c.loop-position.position in
    let here : place < length units = omega arith in
    below_more (λ p. get_or (numbers units) p 0 ≢ c.args.unit.0) place c.loop-position.invariant (λ same. c.if-deref-position.false (sym (get_or-read units c.deref.result.now place c.deref.ensures.0 here) ∙ same))
