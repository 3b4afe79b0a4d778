use Rattle.std.proofs.Common.{◌≡◌, ◌++◌, get_or, take}
use Rattle.std.specs.Prelude.{flat_map}
use Rattle.svc_names.specs.Given.{listed, word_text}
use Rattle.svc_depend.proofs.WordsText.{after_space, no_link}
use Rattle.svc_depend.proofs.pairs.put_words.Given as goal

abbrev pub invariant-loop-link : goal.invariant-loop-link
invariant-loop-link l = l.text.items ≡ (l.fn.text.items ++ word_text (listed l.names) (get_or l.links 0 no_link).word) ++ flat_map (after_space (listed l.names)) (take l.link-index l.link-items)
