-- The entry of an accepted event: thirteen fields, the columns of a trace; those that don't apply are empty. A burst's
-- start, looks and epoch are not among them: the entries before determine these.
use Rattle.std.specs.Prelude.{ℕ, Bool, not, Option, Some, None, option_map, option_and_then}
use Rattle.svc_base.specs.declared.ids.UnitId.{UnitId}
use Rattle.svc_base.specs.declared.ids.WordAddr.{WordAddr}
use Rattle.svc_base.specs.declared.served.Served.{Served}
use Rattle.svc_base.specs.declared.served.Served.TheVariants as served
use Rattle.svc_core_laws.specs.Bursts.{is_nothing}
use Rattle.svc_machine_laws.specs.Events.{Event, Assign as AssignEvent, Submit as SubmitEvent, Replace as ReplaceEvent}
use Rattle.svc_machine_laws.specs.Events.{Cancel as CancelEvent, Commit as CommitEvent}
use Rattle.svc_machine_laws.specs.declared.reply.What.{What}
use Rattle.svc_machine_laws.specs.declared.reply.What.TheVariants as what
use Rattle.svc_machine_laws.specs.declared.reply.Cause.{Cause}
use Rattle.svc_machine_laws.specs.declared.reply.Cause.TheVariants as cause
use Rattle.svc_machine_laws.specs.declared.reply.Cut.{Cut}
use Rattle.svc_machine_laws.specs.declared.reply.Reply.{Reply}
use Rattle.svc_history_laws.specs.declared.entry.Kind.{Kind}
use Rattle.svc_history_laws.specs.declared.entry.Kind.TheVariants.{Assign, Submit, Replace, Cancel, Commit}
use Rattle.svc_history_laws.specs.declared.entry.ReplyKind.{ReplyKind}
use Rattle.svc_history_laws.specs.declared.entry.ReplyKind.TheVariants as reply
use Rattle.svc_history_laws.specs.declared.entry.ServedKind.{ServedKind}
use Rattle.svc_history_laws.specs.declared.entry.ServedKind.TheVariants as kind
use Rattle.svc_history_laws.specs.declared.entry.CutKind.{CutKind}
use Rattle.svc_history_laws.specs.declared.entry.CutKind.TheVariants as why
use Rattle.svc_history_laws.specs.declared.entry.Entry.{Entry}

-- the fields that a reply fills: its name, a word's address, and a number
abbrev pub reply_told : What → ReplyKind
reply_told (what.Assigned task entry epoch) = reply.Assigned
reply_told what.Ran = reply.Ran
reply_told (what.Loaded addr value by) = reply.Loaded
reply_told (what.Stored addr word by) = reply.Stored
reply_told (what.Emitted word) = reply.Emitted
reply_told (what.Trapped number) = reply.Trapped
reply_told (what.Replaced addr) = reply.Replaced
reply_told what.Cancelled = reply.Cancelled
reply_told (what.Committed task end) = reply.Committed

-- the address that the reply reports, if any
abbrev pub address_told : What → Option WordAddr
address_told (what.Assigned task entry epoch) = None
address_told what.Ran = None
address_told (what.Loaded addr value by) = Some addr
address_told (what.Stored addr word by) = Some addr
address_told (what.Emitted word) = None
address_told (what.Trapped number) = None
address_told (what.Replaced addr) = Some addr
address_told what.Cancelled = None
address_told (what.Committed task end) = None

-- the number that the reply reports, if any
abbrev pub word_told : What → Option ℕ
word_told (what.Assigned task entry epoch) = Some entry
word_told what.Ran = None
word_told (what.Loaded addr value by) = Some value
word_told (what.Stored addr word by) = Some word
word_told (what.Emitted word) = Some word
word_told (what.Trapped number) = Some number
word_told (what.Replaced addr) = None
word_told what.Cancelled = None
word_told (what.Committed task end) = Some task.0

-- who supplied the word that was read
abbrev pub served_told : What → Option Served
served_told (what.Assigned task entry epoch) = None
served_told what.Ran = None
served_told (what.Loaded addr value by) = Some by
served_told (what.Stored addr word by) = by
served_told (what.Emitted word) = None
served_told (what.Trapped number) = None
served_told (what.Replaced addr) = None
served_told what.Cancelled = None
served_told (what.Committed task end) = None

-- the supplier's name
abbrev pub kind_served : Served → ServedKind
kind_served served.Hit = kind.Hit
kind_served served.Reuse = kind.Reuse
kind_served (served.Version unit) = kind.Version
kind_served served.Spill = kind.Spill
kind_served (served.Committed unit) = kind.Committed
kind_served served.Memory = kind.Memory

-- the unit that supplied the word, if a unit did
abbrev pub unit_served : Served → Option UnitId
unit_served served.Hit = None
unit_served served.Reuse = None
unit_served (served.Version unit) = Some unit
unit_served served.Spill = None
unit_served (served.Committed unit) = Some unit
unit_served served.Memory = None

-- why tasks were squashed
abbrev pub why_cut : Cause → CutKind
why_cut (cause.Violation addr) = why.Violation
why_cut cause.WrongGuess = why.Guess
why_cut cause.Cancelled = why.Cancel

abbrev pub cause_of : Cut → CutKind
cause_of cut = why_cut cut.cause

abbrev pub first_of : Cut → ℕ
first_of cut = cut.first.0

abbrev pub count_of : Cut → ℕ
count_of cut = cut.tasks

-- an entry with the fields of its event alone
abbrev pub plain_entry : Kind → UnitId → (arg : Option ℕ) → (local : Option ℕ) → (ask : Option Bool) → Entry
plain_entry k unit arg local ask =
    record {
      kind = k;
      unit = unit;
      arg = arg;
      local = local;
      ask = ask;
      reply = reply.Ran;
      addr = None;
      word = None;
      served = None;
      from = None;
      cause = None;
      first = None;
      squashed = None;
    }

-- the entry that has the fields of its event
abbrev pub entry_asking : Event → Entry
entry_asking (AssignEvent unit guess) = plain_entry Assign (record { 0 = unit }) (Some guess) None None
entry_asking (SubmitEvent b) = plain_entry Submit b.unit None (Some b.local) (Some (not (is_nothing b.ask)))
entry_asking (ReplaceEvent unit address) = plain_entry Replace (record { 0 = unit }) (Some address) None None
entry_asking (CancelEvent unit) = plain_entry Cancel (record { 0 = unit }) None None None
entry_asking (CommitEvent by) = plain_entry Commit (record { 0 = by }) None None None

-- an entry with these fields of its reply
abbrev pub telling : Reply → Entry → Entry
telling r e = record e {
  reply = reply_told r.what;
  addr = address_told r.what;
  word = word_told r.what;
  served = option_map kind_served (served_told r.what);
  from = option_and_then unit_served (served_told r.what);
  cause = option_map cause_of r.cut;
  first = option_map first_of r.cut;
  squashed = option_map count_of r.cut;
}

-- the entry of an event with this answer
unfoldable pub entry_of : Event → Reply → Entry
entry_of x r = telling r (entry_asking x)
