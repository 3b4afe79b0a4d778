-- A machine as contracts see it, and where it stands.
use Rattle.std.specs.Prelude.{◌≡◌, ℕ}
use Rattle.svc_base.specs.declared.config.Config.{Config}
use Rattle.svc_image.specs.Image.{Image}
use Rattle.svc_bus_laws.specs.BusState.{Agrees}
use Rattle.svc_bus.specs.Value.{BusValue}
use Rattle.svc_bus.specs.State.{bus_state}
use Rattle.svc_machine_laws.specs.PlainMachine.{Plain}
use Rattle.svc_machine_laws.specs.Standing.{Standing, whole_of}
use Rattle.svc_machine_laws.specs.Headline.{IsSequential}

-- its image and configuration, the plain machine, and the bus
pub record MachineValue : Type 0 where
  pub image : Image
  pub config : Config
  pub plain : Plain
  pub bus : BusValue

-- the machine stands there: the plain machine is its own, and its bus agrees with the line table
pub record StandsAt (m : MachineValue) (s : Standing) : Type 0 where
  pub plain : m.plain ≡ s.plain
  pub lines : Agrees (bus_state m.bus) s.lines

-- the committed tasks are the first k of the program's sequential order, and committed memory, output, due entry and
-- stop are exactly what running them one after another on one flat memory leaves
pub record IsSequentialMachine (k : ℕ) (m : MachineValue) : Type 0 where
  pub tasks : m.plain.commits ≡ k
  pub whole : (s : Standing) → StandsAt m s → IsSequential m.image k (whole_of m.image s)
