-- The places of one set, among places in any order.
use Rattle.std.specs.Prelude.{◌≡◌, ℕ, ◌%◌, ◌==◌, ◌<◌, Bool, true, false, ◌&&◌, Option, Some, None, List, length}
use Rattle.svc_cache.specs.declared.place.CachePlace.{CachePlace}
use Rattle.svc_cache.specs.Places.{is_held, precedes}
use Rattle.svc_cache.specs.Rows.{place_at}

-- the place has a line, in the set of the word
abbrev pub lies_in : (sets word : ℕ) → CachePlace → Bool
lies_in sets word place = (place.word.0 % sets == word % sets) && is_held place

-- none of the first n places lies in the word's set
pub record HasNoneBelow (sets word : ℕ) (places : List CachePlace) (count : ℕ) : Type 0 where
  pub none : (k : ℕ) → k < count → lies_in sets word (place_at places k) ≡ false

-- a place of the word's set that none of the set's places among the first n precedes
pub record IsFirstBelow (sets word : ℕ) (places : List CachePlace) (count leaver : ℕ) : Type 0 where
  pub within : leaver < length places
  pub lies : lies_in sets word (place_at places leaver) ≡ true
  pub unpreceded : (k : ℕ) → k < count → lies_in sets word (place_at places k) ≡ true
      → precedes (place_at places k) (place_at places leaver) ≡ false

-- the place of the word's set that leaves first, among the first n, if any
abbrev pub IsLeaverBelow : (sets word : ℕ) → List CachePlace → (count : ℕ) → Option ℕ → Type 0
IsLeaverBelow sets word places count None = HasNoneBelow sets word places count
IsLeaverBelow sets word places count (Some leaver) = IsFirstBelow sets word places count leaver
