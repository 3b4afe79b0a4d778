-- A recorder as contracts see it: a machine, and the history that leads to it.
use Rattle.std.specs.Prelude.{List, ◌≤◌}
use Rattle.svc_machine_laws.specs.Standing.{Standing}
use Rattle.svc_machine.specs.Value.{MachineValue, StandsAt}
use Rattle.svc_history_laws.specs.declared.entry.Entry.{Entry}
use Rattle.svc_history_laws.specs.Board.{IsInOrder, board}
use Rattle.svc_history_laws.specs.Legal.{LegalHistory, led_to}

-- a machine and the list of its entries
pub record Recorded : Type 0 where
  pub machine : MachineValue
  pub entries : List Entry

-- where the history leads
abbrev pub standing_of : Recorded → Standing
standing_of r = led_to r.machine.image r.machine.config r.entries

-- the history is legal, and the machine is where it leads
pub record IsLegal (r : Recorded) : Type 0 where
  pub legal : LegalHistory r.machine.image r.machine.config r.entries
  pub here : StandsAt r.machine (standing_of r)

-- the numbers that a board shows of the history are in order, and no more events were accepted than the configuration
-- allows
pub record IsCounted (r : Recorded) : Type 0 where
  pub in_order : IsInOrder (board r.entries)
  pub events_few : (board r.entries).events ≤ r.machine.config.events
