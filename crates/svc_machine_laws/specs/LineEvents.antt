-- What each accepted event does to the line table.
use Rattle.std.specs.Prelude.{ℕ, suc, Bool, true, false, List, [], ◌∷◌, map, Option, Some, None}
use Rattle.svc_image.specs.Image.{Image}
use Rattle.svc_core_laws.specs.State.{State}
use Rattle.svc_core_laws.specs.Program.{Want, Local, Load, Store, Narrow, Emit, Program}
use Rattle.svc_core_laws.specs.Words.{program}
use Rattle.svc_bus_laws.specs.Versioned.{view}
use Rattle.svc_bus_laws.specs.LineTable.{LineTable, versioned_map}
use Rattle.svc_bus_laws.specs.Steps.{read, write, replace, squash, commit, begin}
use Rattle.svc_machine_laws.specs.PlainMachine.{stays}
use Rattle.svc_machine_laws.specs.WholeMachine.{Seat, Machine, seat_entry, submit, is_misled}
use Rattle.svc_machine_laws.specs.Events.{Event, Assign, Submit, Replace, Cancel, Commit, seat_place, asked_want}

-- a turn of the task at a place that wants this: a load reads its word, a store of a word writes it, and a store of
-- less than a word reads it and then writes it
abbrev pub line_turn : {C : Type 0} → Want C → LineTable → ℕ → LineTable
line_turn (Local c) t place = t
line_turn (Load a value go) t place = read t place a
line_turn (Store a w c) t place = write t place a w
line_turn (Narrow a f c) t place = write (read t place a) place a (f (view (versioned_map t) place a))
line_turn (Emit w c) t place = t

-- the word that a turn wants, if any
abbrev pub word_of : {C : Type 0} → Want C → Option ℕ
word_of (Local c) = None
word_of (Load a value go) = Some a
word_of (Store a w c) = Some a
word_of (Narrow a f c) = Some a
word_of (Emit w c) = None

abbrev pub line_ask : {C : Type 0} → Option (Want C) → LineTable → ℕ → LineTable
line_ask None t place = t
line_ask (Some w) t place = line_turn w t place

-- if the check of the guess after a place cuts, the tasks after it are squashed
abbrev pub line_check : Bool → LineTable → (place : ℕ) → LineTable
line_check false t place = t
line_check true t place = squash t (suc place)

-- a submit: the asked turn, and then the check of the guess
abbrev pub line_submit : {C : Type 0} → Program C → Machine C → C → Option (Want C) → LineTable → Option ℕ → LineTable
line_submit p m end w t None = t
line_submit p m end w t (Some place) =
    line_check (is_misled p (submit m place end w).seats place) (line_ask w t place) place

abbrev pub line_cancel : LineTable → Option ℕ → LineTable
line_cancel t None = t
line_cancel t (Some place) = squash t place

-- if the next task doesn't stay, the tasks after the head are squashed first, while the head is still the head
abbrev pub line_settle : LineTable → Bool → LineTable
line_settle t true = t
line_settle t false = squash t 1

abbrev pub line_commit : {C : Type 0} → Program C → LineTable → List (Seat C) → LineTable
line_commit p t [] = t
line_commit p t (s ∷ seats) = commit (line_settle t (stays (p.done s.core) (map seat_entry seats)))

-- what an accepted event does to the lines
unfoldable pub line_event : Image → Machine State → LineTable → Event → LineTable
line_event img m t (Assign unit guess) = begin t unit
line_event img m t (Submit b) = line_submit (program img) m b.end (asked_want img b) t (seat_place m b.unit.0)
line_event img m t (Replace unit address) = replace t unit address
line_event img m t (Cancel unit) = line_cancel t (seat_place m unit)
line_event img m t (Commit by) = line_commit (program img) t m.seats
