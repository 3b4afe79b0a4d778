-- What the spill table's places hold, and the list of its words.
use Rattle.std.specs.Prelude.{◌≡◌, ℕ, ◌<◌, ◌==◌, Bool, true, false, Option, Some, None, List, length, get_or}
use Rattle.svc_bus_laws.specs.Search.{any_below, how_many}
use Rattle.svc_retire.specs.declared.spill.SpillPlace.{SpillPlace}
use Rattle.svc_retire.specs.declared.spill.SpillPlace.TheVariants.{Unlisted, Emptied, Spilled}

-- the spilled version
abbrev pub spilled_version : SpillPlace → Option ℕ
spilled_version Unlisted = None
spilled_version Emptied = None
spilled_version (Spilled value) = Some value

-- the place's word is in the list of words
abbrev pub is_listed : SpillPlace → Bool
is_listed Unlisted = false
is_listed Emptied = true
is_listed (Spilled value) = true

-- the place of a word
abbrev pub place_at : List SpillPlace → ℕ → SpillPlace
place_at places word = get_or places word Unlisted

-- the word is among the first n of the list
abbrev pub is_among : List ℕ → (count word : ℕ) → Bool
is_among words count word = any_below count (λ k. get_or words k 0 == word)

-- the first n of the list are the words that belong in it, each once
pub record IsListed (places : List SpillPlace) (words : List ℕ) (count : ℕ) : Type 0 where
  pub room : length words ≡ length places
  pub counted : count ≡ how_many (length places) (λ word. is_listed (place_at places word))
  pub within : (k : ℕ) → k < count → get_or words k 0 < length places
  pub listed : (word : ℕ) → is_listed (place_at places word) ≡ true → is_among words count word ≡ true
