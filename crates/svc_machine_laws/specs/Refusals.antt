-- When an event is refused. Each kind of event has its cases, in the order of their numbers; the first that holds is
-- the refusal.
use Rattle.std.specs.Prelude.{ℕ, ◌-◌, ◌^◌, ◌==◌, Bool, false, cond, not, ◌&&◌, nat_le, List, [], ◌∷◌, Option, Some}
use Rattle.std.specs.Prelude.{None, unwrap_or, option_map, is_some, is_none, slice_get}
use Rattle.svc_base.specs.declared.config.Config.{Config}
use Rattle.svc_base.specs.declared.refusal.Refusal.{Refusal}
use Rattle.svc_base.specs.declared.refusal.Refusal.TheVariants as refusal
use Rattle.svc_image.specs.Image.{Image, is_entry}
use Rattle.svc_core_laws.specs.declared.ask.Ask.{Ask}
use Rattle.svc_core_laws.specs.declared.ask.Ask.TheVariants as ask
use Rattle.svc_core_laws.specs.State.{State}
use Rattle.svc_core_laws.specs.Same.{same_state}
use Rattle.svc_core_laws.specs.Numbers.{load_bytes, store_bytes}
use Rattle.svc_core_laws.specs.Turns.{data_words, word_address, access_trap, store_trap}
use Rattle.svc_core_laws.specs.Bursts.{Advance, are_of, is_nothing}
use Rattle.svc_bus_laws.specs.LineTable.{LineTable}
use Rattle.svc_bus_laws.specs.Refusals.{table_cache, set_full, is_not_resident, is_pinned}
use Rattle.svc_machine_laws.specs.WholeMachine.{Machine, Seat}
use Rattle.svc_machine_laws.specs.Events.{Event, Assign, Submit, Replace, Cancel, Commit, seat_place}

-- the seat of the unit's task
abbrev pub seat_at : {C : Type 0} → Machine C → ℕ → Option (Seat C)
seat_at m unit = unwrap_or (option_map (slice_get m.seats) (seat_place m unit)) None

-- the burst is of the unit's task, and begins where it stands
abbrev pub is_current : Advance → Option (Seat State) → Bool
is_current b None = false
is_current b (Some s) = (b.epoch == s.epoch) && same_state b.start s.core

-- the task has ended
abbrev pub has_ended : Option (Seat State) → Bool
has_ended None = false
has_ended (Some s) = is_some s.core.done

-- the word of an access, if it doesn't trap
abbrev pub word_unless : Option ℕ → ℕ → Option ℕ
word_unless (Some trap) addr = None
word_unless None addr = Some (word_address addr)

-- the asked word: that of a load that is aligned and in the data, or of a store that is too, and not to a read-only
-- word
abbrev pub asked_word : Image → Ask → Option ℕ
asked_word img ask.Nothing = None
asked_word img (ask.Load kind rd addr) = word_unless (access_trap (data_words img) (load_bytes kind) addr) addr
asked_word img (ask.Store kind addr v) =
    word_unless (store_trap (data_words img) img.read_only (store_bytes kind) addr) addr
asked_word img (ask.Emit w) = None

-- the word to replace before the unit has room for the asked word, if it has none
abbrev pub full_set : LineTable → ℕ → Option ℕ → Option ℕ
full_set t unit None = None
full_set t unit (Some a) = set_full (table_cache t unit) a

-- there is no such unit
abbrev pub no_unit : Config → ℕ → Bool
no_unit config unit = nat_le config.units unit

-- no further event is accepted
abbrev pub history_full : Config → Machine State → Bool
history_full config m = nat_le config.events m.accepted

-- the cases of an event. A burst that asks for nothing is empty if it ends at the core where it starts.
abbrev pub cases_of : Image → Config → Machine State → LineTable → Event → List (Bool × Refusal)
cases_of img config m t (Assign unit guess) =
    (no_unit config unit, refusal.NoSuchUnit)
    ∷ (is_some (seat_place m unit), refusal.Busy)
    ∷ (is_some (slice_get m.seats 0) && not (is_entry img guess), refusal.NotEntry)
    ∷ (is_some m.stopped, refusal.Stopped)
    ∷ (history_full config m, refusal.HistoryFull)
    ∷ (m.epoch == 2 ^ 64 - 1, refusal.EpochsSpent)
    ∷ []
cases_of img config m t (Submit b) =
    let full = full_set t b.unit.0 (asked_word img b.ask) in
    (no_unit config b.unit.0, refusal.NoSuchUnit)
    ∷ (is_none (seat_place m b.unit.0), refusal.Idle)
    ∷ (not (is_current b (seat_at m b.unit.0)), refusal.Stale)
    ∷ (not (are_of img b.looks), refusal.ForeignText)
    ∷ (has_ended (seat_at m b.unit.0), refusal.Done)
    ∷ (is_some full, refusal.SetFull (record { 0 = unwrap_or full 0 }))
    ∷ (history_full config m, refusal.HistoryFull)
    ∷ (is_nothing b.ask && same_state b.end b.start, refusal.EmptyBurst)
    ∷ []
cases_of img config m t (Replace unit address) =
    (no_unit config unit, refusal.NoSuchUnit)
    ∷ (is_some m.stopped, refusal.Stopped)
    ∷ (is_not_resident (table_cache t unit) address, refusal.NotResident)
    ∷ (is_pinned (table_cache t unit) t.units unit address, refusal.Pinned)
    ∷ (history_full config m, refusal.HistoryFull)
    ∷ []
cases_of img config m t (Cancel unit) =
    (no_unit config unit, refusal.NoSuchUnit)
    ∷ (is_none (seat_place m unit), refusal.Idle)
    ∷ (unwrap_or (option_map (λ place. place == 0) (seat_place m unit)) false, refusal.IsHead)
    ∷ (history_full config m, refusal.HistoryFull)
    ∷ []
cases_of img config m t (Commit by) =
    (no_unit config by, refusal.NoSuchUnit)
    ∷ (is_some m.stopped, refusal.Stopped)
    ∷ (is_some (slice_get m.seats 0) && not (has_ended (slice_get m.seats 0)), refusal.HeadNotDone)
    ∷ (is_none (slice_get m.seats 0), refusal.NoTask)
    ∷ (history_full config m, refusal.HistoryFull)
    ∷ []

-- the first case that holds
abbrev pub first_case : List (Bool × Refusal) → Option Refusal
first_case [] = None
first_case (c ∷ cases) = cond c.0 (Some c.1) (first_case cases)

-- why the event is refused, if it is
unfoldable pub refuse : Image → Config → Machine State → LineTable → Event → Option Refusal
refuse img config m t x = first_case (cases_of img config m t x)
