-- A machine is shown by the rows of each standing that it is at.
use Rattle.std.proofs.Common.{◌≡◌, ◌∙◌, ℕ, ap}
use Rattle.svc_base.specs.declared.config.Config.{Config}
use Rattle.svc_image.specs.Image.{Image}
use Rattle.svc_bus_laws.specs.BusState.{BusState, state_of}
use Rattle.svc_bus.specs.State.{bus_state}
use Rattle.svc_machine_laws.specs.PlainMachine.{Plain}
use Rattle.svc_machine_laws.specs.Standing.{Standing}
use Rattle.svc_machine.specs.Value.{MachineValue, StandsAt}
use Rattle.svc_show.specs.declared.extras.Extras.{Extras}
use Rattle.svc_show.specs.Show.{machine_rows}

-- two buses that hold the same
record SameHolds (b c : BusState) : Type 0 where
  lines : (u a : ℕ) → b.lines u a ≡ c.lines u a
  order : (a u v : ℕ) → b.is_older a u v ≡ c.is_older a u v
  spill : (a : ℕ) → b.spill a ≡ c.spill a
  backing : (a : ℕ) → b.backing a ≡ c.backing a

-- nothing else of a bus is shown
same_machine : (extras : Extras) (img : Image) (config : Config) (s : Plain) (b c : BusState) → SameHolds b c → machine_rows extras img config s b ≡ machine_rows extras img config s c
same_machine extras img config s b c same =
    λ i. machine_rows extras img config s
    (record b { lines = λ u a. same.lines u a i; is_older = λ a u v. same.order a u v i; spill = λ a. same.spill a i; backing = λ a. same.backing a i })

-- what is shown of a machine is what is shown of its standing
pub shown_at : (extras : Extras) (m : MachineValue) (s : Standing) → StandsAt m s
    → machine_rows extras m.image m.config m.plain (bus_state m.bus) ≡ machine_rows extras m.image m.config s.plain (state_of 0 s.lines)
shown_at extras m s at =
    let same : SameHolds (bus_state m.bus) (state_of 0 s.lines) = record { lines = at.lines.lines; order = at.lines.order; spill = at.lines.spill; backing = at.lines.backing } in
    ap (λ (p : Plain). machine_rows extras m.image m.config p (bus_state m.bus)) at.plain
    ∙ same_machine extras m.image m.config s.plain (bus_state m.bus) (state_of 0 s.lines) same
