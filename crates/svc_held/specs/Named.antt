-- The words that entries name, and by which units.
use Rattle.std.specs.Prelude.{◌≡◌, ◌==◌, ◌&&◌, ◌||◌, ◌<◌, ℕ, Bool, true, false, cond, List, [], ◌∷◌, Option, Some, None}
use Rattle.std.specs.Prelude.{flat_map, get_or, length, slice_get, slice_set}
use Rattle.std.specs.List.{list_any, range_with_len}
use Rattle.svc_base.specs.declared.ids.UnitId.{UnitId}
use Rattle.svc_base.specs.declared.ids.WordAddr.{WordAddr}
use Rattle.svc_history_laws.specs.declared.entry.Entry.{Entry}
use Rattle.svc_held.specs.declared.named.Named.{Named}
use Rattle.svc_held.specs.declared.named.Namers.{Namers}
use Rattle.svc_held.specs.declared.named.Namers.TheVariants as namers
use Rattle.svc_span.specs.declared.span.Span.{Span}
use Rattle.svc_span.specs.Span.{is_asked}

-- there is a word, and it is this one
abbrev pub is_word : (word : ℕ) → Option WordAddr → Bool
is_word word None = false
is_word word (Some a) = word == a.0

-- an entry of the unit that names the word
abbrev pub names : (unit word : ℕ) → Entry → Bool
names unit word e = (unit == e.unit.0) && is_word word e.addr

-- the units, and one more
abbrev pub and_unit : Namers → UnitId → Namers
and_unit namers.Nobody unit = namers.One unit
and_unit (namers.One one) unit = cond (one.0 == unit.0) (namers.One one) namers.Several
and_unit namers.Several unit = namers.Several

-- the unit may be one of them
abbrev pub may_have : (unit : ℕ) → Namers → Bool
may_have unit namers.Nobody = false
may_have unit (namers.One one) = unit == one.0
may_have unit namers.Several = true

-- there is one
abbrev pub are_some : Namers → Bool
are_some namers.Nobody = false
are_some (namers.One one) = true
are_some namers.Several = true

-- the marks with one more unit at a place, if there is one
abbrev pub marked_over : Option Namers → (at : ℕ) → UnitId → List Namers → List Namers
marked_over None at unit marks = marks
marked_over (Some mark) at unit marks = slice_set marks at (and_unit mark unit)

abbrev pub marked_at : (at : ℕ) → UnitId → List Namers → List Namers
marked_at at unit marks = marked_over (slice_get marks at) at unit marks

abbrev pub marked_by : Option WordAddr → UnitId → List Namers → List Namers
marked_by None unit marks = marks
marked_by (Some a) unit marks = marked_at a.0 unit marks

-- the marks after an entry
abbrev pub marked : Entry → List Namers → List Namers
marked e marks = marked_by e.addr e.unit marks

-- the marks of n words: whoever names a word is among its namers
pub record IsMarked (es : List Entry) (words : ℕ) (marks : List Namers) : Type 0 where
  pub size : length marks ≡ words
  pub told : (unit word : ℕ) → word < words
      → may_have unit (get_or marks word namers.Nobody) ≡ false → list_any (names unit word) es ≡ false

-- the word, if it is named or asked for
abbrev pub named_by : Option Span → (word : ℕ) → Namers → List Named
named_by asked word by =
    cond (are_some by || is_asked asked word) (record { word = record { 0 = word }; by = by } ∷ []) []

abbrev pub named_at : Option Span → List Namers → (word : ℕ) → List Named
named_at asked marks word = named_by asked word (get_or marks word namers.Nobody)

-- the words below this one that entries name or that are asked for, in their order
pub record AreNamed (es : List Entry) (words : ℕ) (asked : Option Span) (named : List Named) : Type 0 where
  pub marks : List Namers
  pub marked : IsMarked es words marks
  pub named_is : named ≡ flat_map (named_at asked marks) (range_with_len 0 words)
