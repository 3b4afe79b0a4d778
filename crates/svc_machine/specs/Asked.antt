-- What an asked turn does to its task's seat and to the lines, and how it is answered, over each line table that the
-- bus agrees with.
use Rattle.std.specs.Prelude.{◌≡◌, ◌⊎◌, ◌<◌, ◌^◌, ◌%◌, ℕ, Option, Some, None, Result, IfOk, OnErr, option_map}
use Rattle.std.specs.Result.{result_err}
use Rattle.svc_base.specs.declared.refusal.Refusal.{Refusal}
use Rattle.svc_base.specs.declared.served.Served.{Served}
use Rattle.svc_rv32i.specs.declared.instr.StoreKind.{StoreKind}
use Rattle.svc_rv32i.specs.declared.instr.StoreKind.TheVariants as store
use Rattle.svc_image.specs.Image.{Image}
use Rattle.svc_core_laws.specs.declared.ask.Ask.{Ask}
use Rattle.svc_core_laws.specs.State.{State}
use Rattle.svc_core_laws.specs.Turns.{data_words}
use Rattle.svc_core_laws.specs.Program.{Memory, Want, Local, Load, Store, Narrow, Emit}
use Rattle.svc_core_laws.specs.Words.{program, stored_word}
use Rattle.svc_bus_laws.specs.Versioned.{Victim, view, victim_answer}
use Rattle.svc_bus_laws.specs.LineTable.{LineTable, versioned_map}
use Rattle.svc_bus_laws.specs.Steps.{read}
use Rattle.svc_bus_laws.specs.BusState.{BusState, Agrees}
use Rattle.svc_bus.specs.Calls.{RunsAt, full_refusal}
use Rattle.svc_bus.specs.State.{bus_state}
use Rattle.svc_bus.specs.Value.{BusValue}
use Rattle.svc_machine_laws.specs.declared.reply.Cause.TheVariants as cause
use Rattle.svc_machine_laws.specs.declared.reply.Cut.{Cut}
use Rattle.svc_machine_laws.specs.declared.reply.Reply.{Reply}
use Rattle.svc_machine_laws.specs.WholeMachine.{Seat, at_core, seat_turn}
use Rattle.svc_machine_laws.specs.LineEvents.{line_ask}
use Rattle.svc_machine_laws.specs.Replies.{ran, serves_at, turn_done}
use Rattle.svc_machine_laws.specs.Refusals.{asked_word}
use Rattle.svc_machine.specs.declared.seat.Seat as code
use Rattle.svc_machine.specs.Kept.{whole_seat}

-- some task of the unit is active
abbrev pub IsRunning : BusState → (unit : ℕ) → Type 0
IsRunning b unit = (t : LineTable) × (place : ℕ) × RunsAt b unit t place

-- the unit's task, which stands at this core, has a turn to take, on a bus that has the image's words
pub record HasTurn (img : Image) (core : State) (bus : BusState) (unit : ℕ) : Type 0 where
  pub going : core.done ≡ None
  pub in_time : core.count < core.limit
  pub running : IsRunning bus unit
  pub size : bus.words ≡ data_words img

-- why the bus refuses a turn that asks for this word, if it does
abbrev pub refused_for : BusState → (unit : ℕ) → Option ℕ → Option Refusal
refused_for b unit None = None
refused_for b unit (Some a) = full_refusal b unit a

-- what a read of the word leaves and gives
pub record IsRead (t : LineTable) (place a : ℕ) (bus : BusState) (value : ℕ) (served : Served) : Type 0 where
  pub value_is : value ≡ view (versioned_map t) place a
  pub served_is : served ≡ serves_at t place a
  pub table : Agrees bus (read t place a)

-- the lines as a store finds them when it writes: one of less than a word has read the word
abbrev pub read_first : StoreKind → LineTable → (place a : ℕ) → LineTable
read_first store.Byte t place a = read t place a
read_first store.Half t place a = read t place a
read_first store.Word t place a = t

-- the whole word that it writes, given the word that it read
abbrev pub word_written : StoreKind → (lane value old : ℕ) → ℕ
word_written store.Byte lane value old = stored_word store.Byte lane value old
word_written store.Half lane value old = stored_word store.Half lane value old
word_written store.Word lane value old = value % 2 ^ 32

-- who served its read, if it made one
abbrev pub served_first : StoreKind → LineTable → (place a : ℕ) → Option Served
served_first store.Byte t place a = Some (serves_at t place a)
served_first store.Half t place a = Some (serves_at t place a)
served_first store.Word t place a = None

-- a store of this value, from this byte of the word on, is ready to write its whole word
pub record IsPrepared (t : LineTable) (unit place a : ℕ) (kind : StoreKind) (lane value : ℕ)
    (bus : BusState) (word : ℕ) (served : Option Served) : Type 0 where
  pub runs : RunsAt bus unit (read_first kind t place a) place
  pub word_is : word ≡ word_written kind lane value (view (versioned_map t) place a)
  pub served_is : served ≡ served_first kind t place a
  pub words : bus.words ≡ t.words

-- the bus wasn't called, or its call found room for the word, and there is room for it afterwards
abbrev pub HasRoomYet : (old new : BusValue) → (unit a : ℕ) → Type 0
HasRoomYet old new unit a =
    (new ≡ old) ⊎ ((full_refusal (bus_state old) unit a ≡ None) × (full_refusal (bus_state new) unit a ≡ None))

-- the tasks that a store of this word squashes, as a reply names them
abbrev pub violation_cut : (a : ℕ) → Victim → Cut
violation_cut a v = record {
  cause = cause.Violation (record { 0 = a });
  first = record { 0 = v.first };
  tasks = v.tasks;
}

-- the tasks that a store of this word squashes
abbrev pub stored_cut : LineTable → (place a : ℕ) → Option Cut
stored_cut t place a = option_map (violation_cut a) (victim_answer (versioned_map t) place a)

-- what such a turn squashes; a store of less than a word reads its word first
abbrev pub asked_cut : Want State → LineTable → (place : ℕ) → Option Cut
asked_cut (Local c) t place = None
asked_cut (Load a value go) t place = None
asked_cut (Store a w c) t place = stored_cut t place a
asked_cut (Narrow a f c) t place = stored_cut (read t place a) place a
asked_cut (Emit w c) t place = None

-- the seat after it, and its answer, if a turn is asked
abbrev pub seat_asked : Option (Want State) → Memory → Seat State → Seat State
seat_asked None look seat = seat
seat_asked (Some w) look seat = seat_turn w look seat

-- what an asked turn is answered
abbrev pub asked_answer : Image → Option (Want State) → LineTable → (place : ℕ) → Reply
asked_answer img None t place = ran
asked_answer img (Some w) t place = record {
  what = turn_done (program img) w (view (versioned_map t) place) (serves_at t place);
  cut = asked_cut w t place;
}

-- the asked turn that wants this was done
pub record IsDone (img : Image) (want : Option (Want State)) (t : LineTable) (place : ℕ)
    (before after : Seat State) (bus : BusState) (reply : Reply) : Type 0 where
  pub seat : after ≡ seat_asked want (view (versioned_map t) place) before
  pub table : Agrees bus (line_ask want t place)
  pub reply_is : reply ≡ asked_answer img want t place

-- a task at this core asked, and its turn wants this: the bus refused the turn and nothing has changed, or the turn was
-- done
pub record IsAnswered (img : Image) (core : State) (ask : Ask) (want : Option (Want State)) (old new : code.Seat)
    (old_bus new_bus : BusValue) (result : Result Reply Refusal) : Type 0 where
  pub refused : result_err result ≡ refused_for (bus_state old_bus) old.lease.unit.0 (asked_word img ask)
  pub unchanged : OnErr result ((new ≡ old) × (new_bus ≡ old_bus))
  pub done : (t : LineTable) → (place : ℕ) → RunsAt (bus_state old_bus) old.lease.unit.0 t place
      → IfOk result (IsDone img want t place (at_core core (whole_seat old)) (whole_seat new) (bus_state new_bus))
