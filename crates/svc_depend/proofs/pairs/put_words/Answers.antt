use Rattle.std.proofs.Common.{◌≡◌, ◌∙◌, ◌-◌, ◌++◌, ℕ, List, Option, ap, append_assoc, drop, get_or, length, sym, take, take_all}
use Rattle.std.specs.Prelude.{flat_map}
use Rattle.std.proofs.lemmas.List.{take_rest}
use Rattle.svc_names.specs.declared.name.Name.{Name}
use Rattle.svc_names.specs.Given.{listed, word_text}
use Rattle.svc_depend.specs.declared.links.Link.{Link}
use Rattle.svc_depend.proofs.WordsText.{after_space, no_link, words_text_is}
use Rattle.svc_depend.proofs.pairs.put_words.Goals as goal

pub returns : goal.returns
returns c =
    let links : List Link = c.args.links.now in
    let old : List ℕ = c.args.text.now.items in
    let names : Option (List Name) = listed c.args.names in
    let first : List ℕ = word_text names (get_or links 0 no_link).word in
    let whole : take c.loop-link.link-index (take (length links - 1) (drop 1 links)) ≡ drop 1 links = take_all c.loop-link.link-index (take (length links - 1) (drop 1 links)) c.loop-link-test.false ∙ take_rest links 1 in
    c.loop-link.invariant ∙ append_assoc old first (flat_map (after_space names) (take c.loop-link.link-index (take (length links - 1) (drop 1 links))))
    ∙ ap (λ (x : List ℕ). old ++ x) (ap (λ (l : List Link). first ++ flat_map (after_space names) l) whole ∙ sym (words_text_is names links no_link c.requires))
