use Rattle.std.proofs.Common.{◌≡◌, ◌+◌, ◌-◌, ◌∙◌, refl, true, [], ◌∷◌, ◌++◌, sym, ap, subst, length, get_or, map, option_map, inl, inr, arith, length-append}
use Rattle.std.proofs.lemmas.Bool.{cases_Bool}
use Rattle.std.proofs.lemmas.List.{get_or_at}
use Rattle.svc_line.specs.Line.{seen_line}
use Rattle.svc_links_laws.specs.Walks.{IsWalkSoFar}
use Rattle.svc_links_laws.proofs.Walking.{walk_dirty, walk_goes_on}
use Rattle.svc_vol.specs.Lines.{lines_at, links_of, versions_of}
use Rattle.svc_vol.proofs.Assembling.{are_walked}
use Rattle.svc_vol.proofs.walk.oldest_first.Goals as goal

pub next_of-requires : goal.next_of-requires
next_of-requires c =
    let lines = lines_at (map (option_map seen_line) c.args.found.now) in
    let walk = c.loop-count.invariant.walk in
    let items = c.loop-count.order.items in
    let e : length items - 1 + 1 ≡ length items = omega (arith, walk.some) in
    let at_end = walk_dirty (versions_of lines) (links_of lines) items (length items - 1) walk (omega (arith, walk.some)) in
    c.requires.ranked.within c.loop-count.last (subst (λ u. versions_of lines u ≡ true) (c.loop-count.invariant.last (length items - 1) e) at_end)

pub returns-in_default-next_of : goal.returns-in_default-next_of
returns-in_default-next_of c =
    let found = c.args.found.now in
    let lines = lines_at (map (option_map seen_line) found) in
    record {
      walked = are_walked lines (length found) c.loop-count.order.items c.requires.ranked (record {
        so_far = c.loop-count.invariant.walk;
        ends = λ i v e link. c.in_default-next_of.ensures v (ap (links_of lines) (sym (c.loop-count.invariant.last i (omega (arith, e)))) ∙ link);
      });
    }

pub loop-count-preserved : goal.loop-count-preserved
loop-count-preserved c =
    let found = c.args.found.now in
    let lines = lines_at (map (option_map seen_line) found) in
    let walk = c.loop-count.invariant.walk in
    let items = c.loop-count.order.items in
    let next = c.in-Some-next_of.next in
    let pushed : c.push-in-loop-count.new.self.items ≡ items ++ next ∷ [] = c.push-in-loop-count.ensures.items in
    let e : length items - 1 + 1 ≡ length items = omega (arith, walk.some) in
    let on = walk_goes_on (length found) (versions_of lines) (links_of lines) items (length items - 1) next c.requires.ranked walk (omega (arith, walk.some)) (ap (links_of lines) (c.loop-count.invariant.last (length items - 1) e) ∙ c.in-Some-next_of.ensures.0) c.in-Some-next_of.ensures.1 in
    let longer : length c.push-in-loop-count.new.self.items ≡ length items + 1 = ap length pushed ∙ length-append items (next ∷ []) in
    record {
      walk = subst (IsWalkSoFar (versions_of lines) (links_of lines)) (sym pushed) on.walk;
      count = omega (arith, longer, c.loop-count.invariant.count);
      last = λ i last. ap (λ ys. get_or ys i 0) pushed ∙ ap (λ k. get_or (items ++ next ∷ []) k 0) (omega (arith, last, longer)) ∙ get_or_at items next [] 0 (length items) refl;
    }

pub returns : goal.returns
returns c =
    let found = c.args.found.now in
    let lines = lines_at (map (option_map seen_line) found) in
    let walk = c.loop-count.invariant.walk in
    let items = c.loop-count.order.items in
    record {
      walked = are_walked lines (length found) items c.requires.ranked (record {
        so_far = walk;
        ends = λ i v e link. elim (cases_Bool (versions_of lines v)) [
          | inr clean ↦ clean
          | inl more ↦
              let on = walk_goes_on (length found) (versions_of lines) (links_of lines) items i v c.requires.ranked walk e link more in
              absurd (omega (arith, on.room, c.loop-count.invariant.count))
        ];
      });
    }
