-- What a search of one row finds.
use Rattle.std.specs.Prelude.{◌≡◌, ◌⊎◌, ℕ, ◌<◌, true, false, Option, Some, None, List, length, get_or}
use Rattle.svc_cache.specs.declared.place.CachePlace.{CachePlace}
use Rattle.svc_cache.specs.declared.row.Survey.{Survey}
use Rattle.svc_cache.specs.Places.{is_held, holds, precedes}

-- what stands past the end of a row
abbrev pub no_place : CachePlace
no_place = record { word = record { 0 = 0 }; line = record { value = 0; bits = record { 0 = 0 }; next = None } }

-- the place of a row
abbrev pub place_at : List CachePlace → ℕ → CachePlace
place_at row place = get_or row place no_place

-- none of the first n places holds the word
pub record LacksBelow (row : List CachePlace) (count word : ℕ) : Type 0 where
  pub lacks : (place : ℕ) → place < count → holds (place_at row place) word ≡ false

-- the first place that holds the word
pub record IsFirstHolder (row : List CachePlace) (word place : ℕ) : Type 0 where
  pub within : place < length row
  pub here : holds (place_at row place) word ≡ true
  pub first : LacksBelow row place word

-- the first place that holds the word, if any
abbrev pub IsFoundAt : List CachePlace → ℕ → Option ℕ → Type 0
IsFoundAt row word None = LacksBelow row (length row) word
IsFoundAt row word (Some place) = IsFirstHolder row word place

-- an empty place of a row without the word
pub record IsEmptyPlaceFor (row : List CachePlace) (word place : ℕ) : Type 0 where
  pub within : place < length row
  pub empty : is_held (place_at row place) ≡ false
  pub lacks : LacksBelow row (length row) word

-- each of the first n places has a line
pub record AreHeld (row : List CachePlace) (count : ℕ) : Type 0 where
  pub held : (place : ℕ) → place < count → is_held (place_at row place) ≡ true

-- none of the first n places precedes this one
pub record IsFirstToLeave (row : List CachePlace) (count leaver : ℕ) : Type 0 where
  pub within : leaver < length row
  pub unpreceded : (place : ℕ) → place < count → precedes (place_at row place) (place_at row leaver) ≡ false

-- a full row without the word, and the word of the place that leaves first
pub record IsFullRow (row : List CachePlace) (word named : ℕ) : Type 0 where
  pub held : AreHeld row (length row)
  pub lacks : LacksBelow row (length row) word
  pub leaver : ℕ
  pub leaves : IsFirstToLeave row (length row) leaver
  pub is_named : named ≡ (place_at row leaver).word.0

-- a place where a line of the word may go
abbrev pub IsPlaceFor : List CachePlace → ℕ → ℕ → Type 0
IsPlaceFor row word place = IsFirstHolder row word place ⊎ IsEmptyPlaceFor row word place

-- an empty place among the first n, or none if all of them have lines
abbrev pub IsRoomBelow : List CachePlace → ℕ → Option ℕ → Type 0
IsRoomBelow row count None = AreHeld row count
IsRoomBelow row count (Some place) = (place < count) × (is_held (place_at row place) ≡ false)

-- what a survey of the first n places knows
pub record IsSurvey (row : List CachePlace) (count : ℕ) (survey : Survey) : Type 0 where
  pub room : IsRoomBelow row count survey.empty
  pub leaves : IsFirstToLeave row count survey.leaver
