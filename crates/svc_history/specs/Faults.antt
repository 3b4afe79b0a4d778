-- The faults of a trace.
use Rattle.std.specs.Prelude.{Some, slice_get, ◌≡◌, ℕ, List, take}
use Rattle.svc_base.specs.declared.config.Config.{Config}
use Rattle.svc_image.specs.Image.{Image}
use Rattle.svc_machine_laws.specs.Standing.{Standing}
use Rattle.svc_history_laws.specs.declared.entry.Entry.{Entry}
use Rattle.svc_history_laws.specs.Legal.{LegalEntry, led_to}
use Rattle.svc_history_laws.specs.Replay.{DiffersThere, IsFirstFault, IsRefusedThere}
use Rattle.svc_history.specs.Recorded.{Recorded, standing_of}
use Rattle.svc_history.specs.declared.trace.TraceFault.{TraceFault}
use Rattle.svc_history.specs.declared.trace.TraceFaultKind.{TraceFaultKind}
use Rattle.svc_history.specs.declared.trace.TraceFaultKind.TheVariants.{Memory, Refused, Differs}

-- the entry isn't legal where the recorder's history leads: its event is refused there, or has another answer
abbrev pub IsWrongThere : Recorded → Entry → TraceFaultKind → Type 0
IsWrongThere r e Memory = ⊥
IsWrongThere r e Refused =
    (LegalEntry r.machine.image r.machine.config (standing_of r) e → ⊥)
    × IsRefusedThere r.machine.image r.machine.config (standing_of r) e
IsWrongThere r e Differs =
    (LegalEntry r.machine.image r.machine.config (standing_of r) e → ⊥)
    × DiffersThere r.machine.image r.machine.config (standing_of r) e

-- the entry there, if any, has this fault where the entries before it lead
abbrev pub IsFaultyThere : Image → Config → List Entry → ℕ → (Standing → Entry → Type 0) → Type 0
IsFaultyThere img config es index Is =
    (e : Entry) → slice_get es index ≡ Some e → Is (led_to img config (take index es)) e

-- the fault names the first faulty entry and its kind: its event is refused there, or has another answer; or memory was
-- refused
abbrev pub IsFaultAt : Image → Config → List Entry → ℕ → TraceFaultKind → Type 0
IsFaultAt img config es index Memory = index ≡ 0
IsFaultAt img config es index Refused =
    IsFirstFault img config es index × IsFaultyThere img config es index (IsRefusedThere img config)
IsFaultAt img config es index Differs =
    IsFirstFault img config es index × IsFaultyThere img config es index (DiffersThere img config)

-- the fault of a trace
abbrev pub IsFault : Image → Config → List Entry → TraceFault → Type 0
IsFault img config es fault = IsFaultAt img config es fault.index fault.kind
