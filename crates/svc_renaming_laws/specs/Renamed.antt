-- A standing, an event, an answer and an entry whose units are renamed. Tasks keep their numbers.
use Rattle.std.specs.Prelude.{map, option_map}
use Rattle.svc_base.specs.declared.ids.UnitId.{UnitId}
use Rattle.svc_base.specs.declared.served.Served.{Served}
use Rattle.svc_base.specs.declared.served.Served.TheVariants as served
use Rattle.svc_core_laws.specs.Bursts.{Advance}
use Rattle.svc_machine_laws.specs.declared.reply.What.{What}
use Rattle.svc_machine_laws.specs.declared.reply.What.TheVariants as what
use Rattle.svc_machine_laws.specs.declared.reply.Reply.{Reply}
use Rattle.svc_machine_laws.specs.PlainMachine.{Task, Plain}
use Rattle.svc_machine_laws.specs.Events.{Event, Assign, Submit, Replace, Cancel, Commit}
use Rattle.svc_machine_laws.specs.Standing.{Standing}
use Rattle.svc_history_laws.specs.declared.entry.Entry.{Entry}
use Rattle.svc_renaming_laws.specs.Renamings.{Renaming}
use Rattle.svc_renaming_laws.specs.RenamedLines.{renamed_lines}

abbrev pub renamed_task : Renaming → Task → Task
renamed_task r t = record t { unit = r.there t.unit }

-- the active tasks run on the units with the new names, in the order that they had; nothing else has a unit
abbrev pub renamed_plain : Renaming → Plain → Plain
renamed_plain r s = record s { tasks = map (renamed_task r) s.tasks }

abbrev pub renamed_standing : Renaming → Standing → Standing
renamed_standing r s = record { plain = renamed_plain r s.plain; lines = renamed_lines r s.lines }

abbrev pub renamed_unit : Renaming → UnitId → UnitId
renamed_unit r u = record { 0 = r.there u.0 }

abbrev pub renamed_burst : Renaming → Advance → Advance
renamed_burst r b = record b { unit = renamed_unit r b.unit }

-- the event asked for by the unit with the new name
abbrev pub renamed_event : Renaming → Event → Event
renamed_event r (Assign unit guess) = Assign (r.there unit) guess
renamed_event r (Submit b) = Submit (renamed_burst r b)
renamed_event r (Replace unit address) = Replace (r.there unit) address
renamed_event r (Cancel unit) = Cancel (r.there unit)
renamed_event r (Commit by) = Commit (r.there by)

abbrev pub renamed_served : Renaming → Served → Served
renamed_served r served.Hit = served.Hit
renamed_served r served.Reuse = served.Reuse
renamed_served r (served.Version unit) = served.Version (renamed_unit r unit)
renamed_served r served.Spill = served.Spill
renamed_served r (served.Committed unit) = served.Committed (renamed_unit r unit)
renamed_served r served.Memory = served.Memory

-- of an answer, only who supplied a word is a unit
abbrev pub renamed_what : Renaming → What → What
renamed_what r (what.Assigned task entry epoch) = what.Assigned task entry epoch
renamed_what r what.Ran = what.Ran
renamed_what r (what.Loaded addr value by) = what.Loaded addr value (renamed_served r by)
renamed_what r (what.Stored addr word by) = what.Stored addr word (option_map (renamed_served r) by)
renamed_what r (what.Emitted word) = what.Emitted word
renamed_what r (what.Trapped number) = what.Trapped number
renamed_what r (what.Replaced addr) = what.Replaced addr
renamed_what r what.Cancelled = what.Cancelled
renamed_what r (what.Committed task end) = what.Committed task end

abbrev pub renamed_reply : Renaming → Reply → Reply
renamed_reply r y = record y { what = renamed_what r y.what }

-- of an entry, its unit and who supplied the word
abbrev pub renamed_entry : Renaming → Entry → Entry
renamed_entry r e = record e { unit = renamed_unit r e.unit; from = option_map (renamed_unit r) e.from }
