-- Words on a line, and parts of a word.
use Rattle.std.specs.Prelude.{slice_get, option_map, string_bytes, codes, IfSome, MatchOption}
use Rattle.std.specs.declared.string.String.{String}
use Rattle.std.proofs.Common.{◌≡◌, ◌∙◌, ◌++◌, ℕ, List, Option, Some, None, Bor, ap}
use Rattle.std.proofs.lemmas.Option.{slice_get-map}
use Rattle.svc_command.specs.Line.{Has, IsNamed, option_word, texts}

-- a word's text, by the word
pub text_at : {A : Type 0} (words : List (String A)) (k : ℕ) (word : String A) → slice_get words k ≡ Some word → slice_get (texts words) k ≡ Some (string_bytes word)
text_at words k word at = slice_get-map string_bytes words k ∙ ap (option_map string_bytes) at

-- the second word of the line, by its text
pub named_by : {A : Type 0} (words : List (String A)) (word : String A) (name : List ℕ) → slice_get words 1 ≡ Some word → string_bytes word ≡ name → IsNamed name (texts words)
named_by words word name second is = text_at words 1 word second ∙ ap Some is

-- one of the words is of a kind, by its text
pub has_at : {A : Type 0} (kind : List ℕ → Type 0) (words : List (String A)) (k : ℕ) (word : String A) → slice_get words k ≡ Some word → kind (string_bytes word) → Has kind (texts words)
has_at kind words k word at is = (k, string_bytes word, text_at words k word at, is)

-- what is behind two prefixes, of which the first is that of an option
pub behind_both : (word long name : List ℕ) (Not : Type 0) (r : Option (Bor (List ℕ)))
    → word ≡ codes "--" ++ long → MatchOption r Not (λ rest. long ≡ name ++ rest.now) → IfSome r (λ rest. word ≡ option_word name ++ rest.now)
behind_both word long name Not None first second = tt
behind_both word long name Not (Some rest) first second = first ∙ ap (λ (t : List ℕ). codes "--" ++ t) second
