-- What the tests for refusals look at.
use Rattle.std.specs.Prelude.{Bool, ◌&&◌}
use Rattle.svc_core_laws.specs.State.{State}
use Rattle.svc_core_laws.specs.Same.{same_state}
use Rattle.svc_core_laws.specs.Words.{program}
use Rattle.svc_core_laws.specs.Bursts.{Advance, is_nothing}
use Rattle.svc_machine_laws.specs.WholeMachine.{Machine, machine_of}
use Rattle.svc_machine.specs.Value.{MachineValue}

-- the whole machine that the plain machine describes
unfoldable pub machine_at : MachineValue → Machine State
machine_at m = machine_of (program m.image) m.plain

-- a burst that has no turn and asks for nothing
abbrev pub is_empty : Advance → Bool
is_empty b = is_nothing b.ask && same_state b.end b.start
