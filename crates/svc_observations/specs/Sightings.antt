-- What the entries of a history show.
use Rattle.std.specs.Prelude.{◌≡◌, ◌≤◌, ◌+◌, ℕ, Bool, List, [], ◌∷◌, ◌++◌, Some, map, slice_get, take}
use Rattle.std.specs.List.{AllByRecursion}
use Rattle.std.specs.List.Sorted.{IsStrictlySortedBy}
use Rattle.std.specs.Cmp.Lexicographic.{slice_cmp}
use Rattle.std.specs.Ordering.{nat_cmp}
use Rattle.std.specs.Str.{bytes_eq}
use Rattle.std.specs.declared.cmp.Ordering.{Ordering}
use Rattle.svc_base.specs.declared.config.Config.{Config}
use Rattle.svc_image.specs.Image.{Image}
use Rattle.svc_machine_laws.specs.Standing.{Standing}
use Rattle.svc_history_laws.specs.declared.entry.Entry.{Entry}
use Rattle.svc_history_laws.specs.Legal.{after_entry, led_to}
use Rattle.svc_explore_laws.specs.declared.observation.Observation.{Observation}
use Rattle.svc_explore_laws.specs.Observations.{observations}
use Rattle.svc_explore_laws.specs.Closed.{IsIn}
use Rattle.svc_observations.specs.declared.trace.Sighting.{Sighting}
use Rattle.svc_observations.specs.Order.{places_of}

-- the entry with this number shows it
pub record IsSeenAt (img : Image) (config : Config) (es : List Entry) (number : ℕ) (o : Observation) : Type 0 where
  pub entry : Entry
  pub entry_is : slice_get es number ≡ Some entry
  pub seen : IsIn o (observations (led_to img config (take number es)).plain entry)

-- the entry shows it, and no earlier one does
pub record IsFirstSeen (img : Image) (config : Config) (es : List Entry) (s : Sighting) : Type 0 where
  pub seen : IsSeenAt img config es s.entry s.what
  pub first : (number : ℕ) → IsSeenAt img config es number s.what → s.entry ≤ number

abbrev pub by_place : Sighting → Sighting → Ordering
by_place s t = slice_cmp nat_cmp (places_of s.what) (places_of t.what)

abbrev pub seen_in : List Sighting → List Observation
seen_in ss = map (λ (s : Sighting). s.what) ss

-- all that a history shows, each once, by its first entry, in the order of the rows
pub record AreSightings (img : Image) (config : Config) (es : List Entry) (ss : List Sighting) : Type 0 where
  pub first : AllByRecursion (IsFirstSeen img config es) ss
  pub all : (number : ℕ) (o : Observation) → IsSeenAt img config es number o → IsIn o (seen_in ss)
  pub order : IsStrictlySortedBy by_place ss

-- ---- how they are found

-- what an entry shows, with its number
abbrev pub sighted : (number : ℕ) → List Observation → List Sighting
sighted number os = map (λ (o : Observation). let s : Sighting = record { what = o; entry = number } in s) os

-- what each entry shows, from the one with this number on
unfoldable pub all_sighted : Image → Standing → (number : ℕ) → List Entry → List Sighting
all_sighted img s number [] = []
all_sighted img s number (e ∷ es) =
    sighted number (observations s.plain e) ++ all_sighted img (after_entry img s e) (number + 1) es

-- by what is seen, then by the entry
abbrev pub sorting_key : Sighting → List ℕ
sorting_key s = places_of s.what ++ s.entry ∷ []

abbrev pub is_same_place : Sighting → Sighting → Bool
is_same_place s t = bytes_eq (places_of s.what) (places_of t.what)
