-- The words of links, one after another.
use Rattle.std.proofs.Common.{ℕ, ◌≡◌, ◌<◌, ◌++◌, ◌∷◌, List, [], Option, length, get_or, drop, map, refl, ap, arith}
use Rattle.std.specs.Prelude.{codes, flat_map}
use Rattle.svc_names.specs.declared.name.Name.{Name}
use Rattle.svc_names.specs.Given.{word_text}
use Rattle.svc_depend.specs.declared.links.Link.{Link}
use Rattle.svc_depend.specs.Pairs.{words_text}

-- a word after a space
abbrev pub after_space : Option (List Name) → Link → List ℕ
after_space names l = codes " " ++ word_text names l.word

words_after_spaces : (names : Option (List Name)) (links : List Link)
    → flat_map (λ v. codes " " ++ word_text names v) (map (λ (l : Link). l.word) links) ≡ flat_map (after_space names) links
words_after_spaces names [] = refl
words_after_spaces names (l ∷ ls) = ap (λ x. codes " " ++ word_text names l.word ++ x) (words_after_spaces names ls)

-- the first word, and each of the others after a space
pub words_text_is : (names : Option (List Name)) (links : List Link) (d : Link) → 0 < length links
    → words_text names (map (λ (l : Link). l.word) links) ≡ word_text names (get_or links 0 d).word ++ flat_map (after_space names) (drop 1 links)
words_text_is names [] d some = absurd (omega (arith, some))
words_text_is names (l ∷ ls) d some = ap (λ x. word_text names l.word ++ x) (words_after_spaces names ls)

-- a link in no list
abbrev pub no_link : Link
no_link = record { on = 0; word = 0 }
