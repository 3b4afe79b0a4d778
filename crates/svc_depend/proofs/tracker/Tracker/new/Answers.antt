use Rattle.std.proofs.Common.{◌≡◌, ◌<◌, ◌∙◌, ℕ, List, length, get_or, replicate, refl, ap, subst, sym, rules}
use Rattle.std.proofs.lemmas.List.{get_or-replicate}
use Rattle.svc_depend.specs.declared.word.Word.{Word}
use Rattle.svc_depend.specs.Words.{untouched}
use Rattle.svc_depend.proofs.Between.{fresh}
use Rattle.svc_depend.proofs.tracker.Tracker.new.Goals as goal

pub returns-clause-tracked : goal.returns-clause-tracked
returns-clause-tracked c = λ p.
    let made : c.in_ok-words.words.items ≡ replicate c.args.words c.untouched.result = c.in_ok-words.ensures.items_if_clones_equal (λ y h. search (rules, h)) in
    let all : c.in_ok-words.words.items ≡ replicate c.args.words untouched = made ∙ ap (replicate c.args.words) c.untouched.ensures in
    let size : length c.in_ok-words.words.items ≡ c.args.words = sym c.in_ok-words.words.ok.0 ∙ c.in_ok-words.ensures.len in
    fresh p _ refl refl refl refl refl refl
    (λ word below. ap (λ (l : List Word). get_or l word untouched) all ∙ get_or-replicate c.args.words word untouched untouched (subst (λ (n : ℕ). word < n) size below))
