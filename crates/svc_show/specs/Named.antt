-- The rows of the words that entries name, and what their committed versions are.
use Rattle.std.specs.Prelude.{◌≡◌, ◌==◌, ◌||◌, ◌<◌, ℕ, Bool, true, false, cond, ⊤, List, [], Option, flat_map, is_some}
use Rattle.std.specs.List.{list_any, range_with_len}
use Rattle.svc_base.specs.declared.config.Config.{Config}
use Rattle.svc_image.specs.Image.{Image}
use Rattle.svc_core_laws.specs.Bytes.{word_at}
use Rattle.svc_core_laws.specs.Sequence.{plain_seq}
use Rattle.svc_bus_laws.specs.BusLine.{BusLine, is_committed_dirty_line, value_of_line}
use Rattle.svc_bus_laws.specs.BusState.{BusState}
use Rattle.svc_machine_laws.specs.PlainMachine.{Plain}
use Rattle.svc_report.specs.Fields.{optional}
use Rattle.svc_held.specs.declared.named.Named.{Named}
use Rattle.svc_span.specs.declared.span.Span.{Span}
use Rattle.svc_held.specs.Held.{is_named_line, line_named}
use Rattle.svc_span.specs.Span.{is_asked}
use Rattle.svc_show.specs.declared.cached.Cached.{Cached}
use Rattle.svc_show.specs.declared.cached.Versions.{Versions}
use Rattle.svc_show.specs.declared.cached.Versions.TheVariants.{Absent, One, Several}
use Rattle.svc_show.specs.Rows.{line_row, memory_row, spill_row}

-- the rows of a named word
abbrev pub named_line : BusState → (unit : ℕ) → Named → List ℕ
named_line b unit n = optional (line_row unit n.word.0) (line_named b n unit)

-- the rows of the lines of named words, by unit
abbrev pub named_lines : (units : ℕ) → BusState → List Named → List ℕ
named_lines units b named = flat_map (λ unit. flat_map (named_line b unit) named) (range_with_len 0 units)

abbrev pub named_spill : BusState → Named → List ℕ
named_spill b n = optional (spill_row n.word.0) (b.spill n.word.0)

-- a unit has a valid line of the named word with a committed task's version
abbrev pub is_named_version : BusState → Named → (unit : ℕ) → Bool
is_named_version b n unit = is_committed_dirty_line (line_named b n unit)

-- versions, and one more
abbrev pub and_version : Versions → (value : ℕ) → Versions
and_version Absent value = One value
and_version (One other) value = Several
and_version Several value = Several

-- with a line, if it has one
abbrev pub and_line : Versions → Option BusLine → Versions
and_line vs line = cond (is_committed_dirty_line line) (and_version vs (value_of_line line)) vs

-- neither a line nor a version
abbrev pub nothing : Cached
nothing = record { line = false; versions = Absent }

-- among n units none has a version, or only this one has, with this value
abbrev pub NoneHas : BusState → Named → (units : ℕ) → Type 0
NoneHas b n units = (u : ℕ) → u < units → is_named_version b n u ≡ false

-- this unit alone has a version, with this value
pub record OneHas (b : BusState) (n : Named) (units value : ℕ) : Type 0 where
  pub unit : ℕ
  pub inside : unit < units
  pub has : is_named_version b n unit ≡ true
  pub value_is : value_of_line (line_named b n unit) ≡ value
  pub others : (u : ℕ) → u < units → (u == unit) ≡ false → is_named_version b n u ≡ false

-- what is known of the versions of a named word
abbrev pub AreVersions : BusState → Named → (units : ℕ) → Versions → Type 0
AreVersions b n units Absent = NoneHas b n units
AreVersions b n units (One value) = OneHas b n units value
AreVersions b n units Several = ⊤

-- the named word has a valid line or is spilled
abbrev pub is_held : BusState → (units : ℕ) → Named → Bool
is_held b units n = is_some (b.spill n.word.0) || list_any (is_named_line b n) (range_with_len 0 units)

-- the row of a named word that is held or asked for
abbrev pub named_memory : Image → Config → Plain → BusState → Option Span → Named → List ℕ
named_memory img config s b asked n =
    cond (is_held b config.units n || is_asked asked n.word.0)
    (memory_row n.word.0 (word_at (plain_seq img s.commits).memory n.word.0) (b.backing n.word.0)) []
