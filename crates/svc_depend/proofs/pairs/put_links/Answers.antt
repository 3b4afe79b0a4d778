use Rattle.std.proofs.Common.{◌≡◌, ◌∙◌, ◌-◌, ◌<◌, ◌≤◌, ◌++◌, [], append-nil, sym, min, ℕ, List, ap, arith, drop, get_or, length, length-drop, length-take, map, take}
use Rattle.std.proofs.lemmas.List.{drop_all, get_or_default}
use Rattle.svc_depend.specs.declared.links.Link.{Link}
use Rattle.svc_depend.specs.Links.{links_text}
use Rattle.svc_depend.specs.Pairs.{pair_text}
use Rattle.svc_depend.proofs.Grouped.{added_told, goes_on, told_more, told_none}
use Rattle.svc_depend.proofs.WordsText.{no_link}
use Rattle.svc_depend.proofs.pairs.put_links.Goals as goal

grows : (links : List Link) (at end : ℕ) → at < length links → at ≤ end → ((k : ℕ) → (d : Link) → end ≤ k → k < length links → (get_or links at no_link).on < (get_or links k d).on) → at < end
grows links at end inside from rest = goes_on links at end (get_or links at no_link).on (λ d. ap (λ (l : Link). l.on) (get_or_default links at d no_link inside)) inside from rest no_link

pub put_pair-requires-clause-some : goal.put_pair-requires-clause-some
put_pair-requires-clause-some c =
    let links : List Link = c.args.links.now in
    let more : c.loop-at.at < c.group_end-end.result = grows links c.loop-at.at c.group_end-end.result c.loop-at-test.true c.group_end-end.ensures.from c.group_end-end.ensures.rest in
    let size : length (take (c.group_end-end.result - c.loop-at.at) (drop c.loop-at.at links)) ≡ min (c.group_end-end.result - c.loop-at.at) (length (drop c.loop-at.at links)) = length-take (c.group_end-end.result - c.loop-at.at) (drop c.loop-at.at links) in
    let left : length (drop c.loop-at.at links) ≡ length links - c.loop-at.at = length-drop c.loop-at.at links in
    let inside : c.loop-at.at < length links = c.loop-at-test.true in
    omega (arith, more, size, left, inside)

pub put_pair-requires-clause-before : goal.put_pair-requires-clause-before
put_pair-requires-clause-before c = let less = c.requires.before c.loop-at.at no_link c.loop-at-test.true in omega (arith, less)

pub loop-at-preserved : goal.loop-at-preserved
loop-at-preserved c =
    let links : List Link = c.args.links.now in
    let at : ℕ = c.loop-at.at in
    let end : ℕ = c.group_end-end.result in
    let on : ℕ = (get_or links at no_link).on in
    record {
      inside = c.group_end-end.ensures.inside;
      told = added_told c.loop-at.text.items (pair_text c.args.form c.args.task on (map (λ (l : Link). l.word) (take (end - at) (drop at links)))) c.put_pair.new.text.items
          (links_text c.args.form c.args.task (drop at links)) (links_text c.args.form c.args.task (drop end links)) (c.args.text.now.items ++ links_text c.args.form c.args.task links)
          c.loop-at.invariant.told c.in_ok-put_pair.ensures
          (told_more links at end on (λ d. ap (λ (l : Link). l.on) (get_or_default links at d no_link c.loop-at-test.true)) c.loop-at-test.true c.group_end-end.ensures.from c.group_end-end.ensures.rest
          c.args.form c.args.task c.requires.order c.requires.before c.group_end-end.ensures.inside c.group_end-end.ensures.group no_link);
    }

pub loop-at-smaller : goal.loop-at-smaller
loop-at-smaller c =
    let more : c.loop-at.at < c.group_end-end.result = grows c.args.links.now c.loop-at.at c.group_end-end.result c.loop-at-test.true c.group_end-end.ensures.from c.group_end-end.ensures.rest in
    let last : c.group_end-end.result ≤ length c.args.links.now = c.group_end-end.ensures.inside in
    omega (arith, more, last)

pub returns : goal.returns
returns c =
    let text : List ℕ = c.loop-at.text.items in
    let none : drop c.loop-at.at c.args.links.now ≡ [] = drop_all c.loop-at.at c.args.links.now c.loop-at-test.false in
    sym (append-nil text) ∙ ap (λ (x : List ℕ). text ++ x) (sym (told_none c.args.form c.args.task) ∙ ap (links_text c.args.form c.args.task) (sym none)) ∙ c.loop-at.invariant.told
