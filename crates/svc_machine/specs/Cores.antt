-- The cores of the active tasks.
use Rattle.std.specs.Prelude.{ℕ, Option, option_map, slice_get}
use Rattle.svc_core_laws.specs.State.{State}
use Rattle.svc_core_laws.specs.Words.{program}
use Rattle.svc_machine_laws.specs.PlainMachine.{Running, running}
use Rattle.svc_machine.specs.Value.{MachineValue}

-- that of a task: its pc and its registers
abbrev pub core_in : Running State → State
core_in x = x.run.core

-- that of the active task at a place, counted from the oldest; it is its part's, run again
abbrev pub core_of : MachineValue → (place : ℕ) → Option State
core_of m place = option_map core_in (slice_get (running (program m.image) m.plain) place)
