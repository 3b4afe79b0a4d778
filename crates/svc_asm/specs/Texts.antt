-- Several texts, joined into one.
use Rattle.std.specs.Prelude.{ℕ, List, [], ◌∷◌, ◌++◌}
use Rattle.svc_tokens.specs.declared.characters.TheConstants.{TEXT_END}

-- what stands between two texts: a line feed, ASCII's file separator, a line feed
abbrev pub next_text : List ℕ
next_text = 10 ∷ TEXT_END ∷ 10 ∷ []

-- the texts behind the first one
abbrev pub behind_first : List (List ℕ) → List ℕ
behind_first [] = []
behind_first (text ∷ texts) = next_text ++ (text ++ behind_first texts)

-- the texts one behind another
abbrev pub join : List (List ℕ) → List ℕ
join [] = []
join (text ∷ texts) = text ++ behind_first texts
