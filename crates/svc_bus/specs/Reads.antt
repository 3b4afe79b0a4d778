-- What a read or a write of a bus answers, whether its unit's line is looked up first or is known already.
use Rattle.std.specs.Prelude.{◌≡◌, ℕ, None, Some, Result, IfOk, OnOk, MatchResult}
use Rattle.svc_base.specs.declared.refusal.Refusal.{Refusal}
use Rattle.svc_base.specs.declared.served.Served.{Served}
use Rattle.svc_bus_laws.specs.BusState.{BusState, Agrees}
use Rattle.svc_bus_laws.specs.LineTable.{LineTable, versioned_map}
use Rattle.svc_bus_laws.specs.Steps.{read}
use Rattle.svc_bus_laws.specs.Supplier.{supplier}
use Rattle.svc_bus_laws.specs.Versioned.{view}
use Rattle.svc_vcl.specs.Planned.{supplier_of}
use Rattle.svc_bus.specs.Calls.{RunsAt, full_refusal}

-- a full set refuses the call, and names the word to replace first; nothing else does
abbrev pub IsRefusedIfFull : {A : Type 0} → BusState → (unit word : ℕ) → Result A Refusal → Type 0
IsRefusedIfFull b unit word answer =
    MatchResult answer (λ _. full_refusal b unit word ≡ None) (λ e. full_refusal b unit word ≡ Some e)

-- an accepted read gives the value that the unit's task may see
abbrev pub GivesView : BusState → (unit word : ℕ) → Result (ℕ × Served) Refusal → Type 0
GivesView b unit word answer =
    (t : LineTable) → (place : ℕ) → RunsAt b unit t place → IfOk answer (λ r. r.0 ≡ view (versioned_map t) place word)

-- and says who supplied it
abbrev pub NamesSupplier : BusState → (unit word : ℕ) → Result (ℕ × Served) Refusal → Type 0
NamesSupplier b unit word answer =
    (t : LineTable) → (place : ℕ) → RunsAt b unit t place → IfOk answer (λ r. supplier_of r.1 ≡ supplier t place word)

-- and the bus then agrees with the line table after the read
abbrev pub AgreesAfterRead : (old new : BusState) → (unit word : ℕ) → Result (ℕ × Served) Refusal → Type 0
AgreesAfterRead old new unit word answer =
    (t : LineTable) → (place : ℕ) → RunsAt old unit t place → OnOk answer (Agrees new (read t place word))
