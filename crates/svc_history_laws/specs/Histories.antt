-- What a legal entry, and a legal history, say of the machine.
use Rattle.std.specs.Prelude.{◌≡◌, List, None, length}
use Rattle.svc_base.specs.declared.config.Config.{Config}
use Rattle.svc_image.specs.Image.{Image}
use Rattle.svc_machine_laws.specs.Events.{Event, IsEvent}
use Rattle.svc_machine_laws.specs.Standing.{Standing, refusal_of, standing_after, reply_to}
use Rattle.svc_machine_laws.specs.Reached.{IsReached}
use Rattle.svc_history_laws.specs.declared.entry.Entry.{Entry}
use Rattle.svc_history_laws.specs.Board.{board}
use Rattle.svc_history_laws.specs.Entries.{entry_of}
use Rattle.svc_history_laws.specs.Legal.{after_entry, led_to}
use Rattle.svc_history_laws.specs.Replay.{IsReplay}

-- the machine accepts the event that the entry names there; the entry is that event's, and leads where the event does
pub record HasEvent (img : Image) (config : Config) (s : Standing) (e : Entry) : Type 0 where
  pub event : Event
  pub is : IsEvent event
  pub replay : IsReplay img s.plain e event
  pub accepted : refusal_of img config s event ≡ None
  pub entry : e ≡ entry_of event (reply_to img s event)
  pub leads : after_entry img s e ≡ standing_after img s event

-- the history leads to a standing that events lead to, with as many commits and accepted events as its entries say
pub record LeadsOn (img : Image) (config : Config) (es : List Entry) : Type 0 where
  pub reached : IsReached img config (led_to img config es)
  pub commits : (led_to img config es).plain.commits ≡ (board es).committed
  pub accepted : (led_to img config es).plain.accepted ≡ length es
