-- The words of a command line, and the values on it.
use Rattle.std.specs.Prelude.{◌≡◌, ◌+◌, ◌++◌, ◌⊎◌, ⊤, ℕ, List, [], ◌∷◌, Some, map, codes, drop, slice_get, string_bytes}
use Rattle.std.specs.Str.Parse.{IsNumeral, digits_value, without_leading_plus}
use Rattle.std.specs.declared.string.String.{String}
use Rattle.svc_span.specs.declared.span.Span.{Span}

-- the texts of words, the program's name first
abbrev pub texts : {A : Type 0} → List (String A) → List (List ℕ)
texts words = map string_bytes words

-- one of the words is of this kind
abbrev pub Has : (List ℕ → Type 0) → List (List ℕ) → Type 0
Has kind words = (k : ℕ) × (word : List ℕ) × (slice_get words k ≡ Some word) × kind word

-- this is one of the words
abbrev pub HasWord : List ℕ → List (List ℕ) → Type 0
HasWord text words = Has (λ word. word ≡ text) words

-- these are words, in the order of the line
abbrev pub AreInOrder : (given words : List (List ℕ)) → Type 0
AreInOrder [] words = ⊤
AreInOrder (text ∷ given) words =
    (k : ℕ) × (slice_get words k ≡ Some text) × AreInOrder given (drop (k + 1) words)

-- the first word after the program's name is this one
abbrev pub IsNamed : List ℕ → List (List ℕ) → Type 0
IsNamed name words = slice_get words 1 ≡ Some name

-- the word that gives the option of this name
abbrev pub option_word : List ℕ → List ℕ
option_word name = codes "--" ++ name

-- the value is the word behind the option of this name
abbrev pub IsNext : (name value : List ℕ) → List (List ℕ) → Type 0
IsNext name value words =
    (k : ℕ) × (slice_get words k ≡ Some (option_word name)) × (slice_get words (k + 1) ≡ Some value)

-- the word is the option of this name with the value behind `=`
abbrev pub IsJoined : (name value : List ℕ) → List ℕ → Type 0
IsJoined name value word = word ≡ option_word name ++ (codes "=" ++ value)

-- the value of the option of this name is on the line, as the next word or in one word with it
abbrev pub IsValueOf : (name value : List ℕ) → List (List ℕ) → Type 0
IsValueOf name value words = IsNext name value words ⊎ Has (IsJoined name value) words

-- a text reads as this number: decimal digits, with or without a plus before them
pub record ReadsAs (text : List ℕ) (n : ℕ) : Type 0 where
  pub numeral : IsNumeral 10 (without_leading_plus text)
  pub value : n ≡ digits_value 10 (without_leading_plus text)

-- a text reads as these words: from the first number to the last one behind a dash, or one number
abbrev pub ReadsSpan : List ℕ → Span → Type 0
ReadsSpan text s =
    ((first last : List ℕ) × (text ≡ first ++ (codes "-" ++ last)) × ReadsAs first s.first × ReadsAs last s.last)
    ⊎ (ReadsAs text s.first × (s.last ≡ s.first))

-- the number is what a value of the option of this name reads as
abbrev pub IsGivenNumber : (name : List ℕ) → ℕ → List (List ℕ) → Type 0
IsGivenNumber name n words = (text : List ℕ) × IsValueOf name text words × ReadsAs text n

-- the number is the default, or what a value of the option of this name reads as
abbrev pub IsNumberOf : (name : List ℕ) → (default n : ℕ) → List (List ℕ) → Type 0
IsNumberOf name default n words = (n ≡ default) ⊎ IsGivenNumber name n words
