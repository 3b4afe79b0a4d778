-- The plain machine with the line table, the whole machine with it, and where lists of events lead them.
use Rattle.std.specs.Prelude.{ℕ, ◌+◌, List, [], ◌∷◌, Option, Some, None}
use Rattle.svc_base.specs.declared.config.Config.{Config}
use Rattle.svc_base.specs.declared.refusal.Refusal.{Refusal}
use Rattle.svc_image.specs.Image.{Image}
use Rattle.svc_core_laws.specs.State.{State}
use Rattle.svc_core_laws.specs.Words.{program}
use Rattle.svc_bus_laws.specs.LineTable.{LineTable, opening_table}
use Rattle.svc_machine_laws.specs.declared.reply.Reply.{Reply}
use Rattle.svc_machine_laws.specs.PlainMachine.{Plain, plain_opening}
use Rattle.svc_machine_laws.specs.WholeMachine.{Machine, machine_of, opening}
use Rattle.svc_machine_laws.specs.Events.{Event, Assign, Submit, Replace, Cancel, Commit, plain_event, whole_event}
use Rattle.svc_machine_laws.specs.LineEvents.{line_event}
use Rattle.svc_machine_laws.specs.Refusals.{refuse}
use Rattle.svc_machine_laws.specs.Replies.{plain_reply}

-- where a machine stands: the plain machine and the line table
pub record Standing : Type 0 where
  pub plain : Plain
  pub lines : LineTable

-- the whole machine over its line table, which runs nothing again
pub record Whole : Type 0 where
  pub machine : Machine State
  pub lines : LineTable

-- the lines of an image's memory before any event
abbrev pub no_lines : Image → Config → LineTable
no_lines img config = opening_table config.units config.sets config.ways img.words

-- before any event; the first epoch is given
abbrev pub opened_at : Image → Config → (first : ℕ) → Standing
opened_at img config first = record { plain = plain_opening first; lines = no_lines img config }

abbrev pub whole_opened : Image → Config → (first : ℕ) → Whole
whole_opened img config first = record { machine = opening (program img) first; lines = no_lines img config }

-- what the plain machine says of the whole machine
abbrev pub whole_of : Image → Standing → Whole
whole_of img s = record { machine = machine_of (program img) s.plain; lines = s.lines }

-- a refused event changes nothing
abbrev pub unless : {A : Type 0} → Option Refusal → A → A → A
unless None old new = new
unless (Some r) old new = old

-- why the event is refused, if it is
abbrev pub whole_refuse : Image → Config → Whole → Event → Option Refusal
whole_refuse img config w x = refuse img config w.machine w.lines x

-- the same, of the plain machine
unfoldable pub refusal_of : Image → Config → Standing → Event → Option Refusal
refusal_of img config s x = whole_refuse img config (whole_of img s) x

-- an accepted event
unfoldable pub standing_after : Image → Standing → Event → Standing
standing_after img s x = record {
  plain = plain_event img s.plain x;
  lines = line_event img (machine_of (program img) s.plain) s.lines x;
}

unfoldable pub whole_after : Image → Whole → Event → Whole
whole_after img w x = record { machine = whole_event img w.machine x; lines = line_event img w.machine w.lines x }

-- the answer to an accepted event
unfoldable pub reply_to : Image → Standing → Event → Reply
reply_to img s x = plain_reply img s.plain s.lines x

-- an event, accepted or not
unfoldable pub after_event : Image → Config → Standing → Event → Standing
after_event img config s x = unless (refusal_of img config s x) s (standing_after img s x)

unfoldable pub whole_after_event : Image → Config → Whole → Event → Whole
whole_after_event img config w x = unless (whole_refuse img config w x) w (whole_after img w x)

-- after these events; refused ones are passed over
unfoldable pub after_events : Image → Config → Standing → List Event → Standing
after_events img config s [] = s
after_events img config s (x ∷ xs) = after_events img config (after_event img config s x) xs

unfoldable pub whole_after_events : Image → Config → Whole → List Event → Whole
whole_after_events img config w [] = w
whole_after_events img config w (x ∷ xs) = whole_after_events img config (whole_after_event img config w x) xs

abbrev pub is_commit : Event → ℕ
is_commit (Assign unit guess) = 0
is_commit (Submit b) = 0
is_commit (Replace unit address) = 0
is_commit (Cancel unit) = 0
is_commit (Commit by) = 1

-- how many of these events are accepted commits
unfoldable pub accepted_commits : Image → Config → Whole → List Event → ℕ
accepted_commits img config w [] = 0
accepted_commits img config w (x ∷ xs) =
    unless (whole_refuse img config w x) 0 (is_commit x)
    + accepted_commits img config (whole_after_event img config w x) xs
