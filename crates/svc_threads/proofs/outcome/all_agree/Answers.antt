use Rattle.std.proofs.Common.{arith, ℕ, suc, ◌≡◌, ◌+◌, ◌-◌, ◌<◌, length, get_or, sym, ap, ◌∙◌, subst, [], map}
use Rattle.std.proofs.lemmas.List.{length-map}
use Rattle.svc_threads.proofs.Agreeing.{items_of, listed, HangsLists, lists_length, lists_next, lists_differ, whole, not_whole}
use Rattle.svc_threads.proofs.outcome.all_agree.Goals as goal

pub returns-then-lists-units : goal.returns-then-lists-units
returns-then-lists-units c = (
  λ e. absurd (cc (e)),
  λ e. absurd (c.if-lists-units.true (omega (arith, length-map c.args.lists.now items_of, ap length e, lists_length 0 c.args.units c.args.entries.now))),
)

pub loop-unit-preserved : goal.loop-unit-preserved
loop-unit-preserved c =
    let u : ℕ = c.loop-unit.unit in
    let es = c.args.entries.now in
    let lists = c.args.lists.now in
    let inside : u < length lists = omega arith in
    let there : u < length (map items_of lists) = omega (arith, length-map lists items_of) in
    let more : c.args.units - u ≡ suc (c.args.units - (u + 1)) = omega arith in
    let same = listed lists u c.index-lists-unit.result c.as_slice-slips.result.now inside c.index-lists-unit.is c.as_slice-slips.ensures.value in
    let all = whole u es (get_or c.in-Some.ends u 0) (get_or (map items_of lists) u []) (c.in-Some.ensures.some u there) (c.if-ends-unit.false ∙ ap length (sym same)) in
    lists_next u (c.args.units - (u + 1)) c.args.units es (map items_of lists)
    (subst (λ (n : ℕ). HangsLists u n c.args.units es (map items_of lists)) more c.loop-unit.invariant) there all

pub returns-then-ends-unit : goal.returns-then-ends-unit
returns-then-ends-unit c =
    let u : ℕ = c.loop-unit.unit in
    let es = c.args.entries.now in
    let lists = c.args.lists.now in
    let inside : u < length lists = omega arith in
    let there : u < length (map items_of lists) = omega (arith, length-map lists items_of) in
    let more : c.args.units - u ≡ suc (c.args.units - (u + 1)) = omega arith in
    let same = listed lists u c.index-lists-unit.result c.as_slice-slips.result.now inside c.index-lists-unit.is c.as_slice-slips.ensures.value in (
      λ e. absurd (cc (e)),
      λ e. absurd (lists_differ u (c.args.units - (u + 1)) c.args.units es (map items_of lists)
          (subst (λ (n : ℕ). HangsLists u n c.args.units es (map items_of lists)) more c.loop-unit.invariant) there
          (not_whole u es (get_or c.in-Some.ends u 0) (get_or (map items_of lists) u []) (c.in-Some.ensures.some u there) (λ is. c.if-ends-unit.true (is ∙ ap length same))) e),
    )
