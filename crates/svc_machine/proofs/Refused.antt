-- Where a machine stands, a unit with a task is one of its own.
use Rattle.std.proofs.Common.{ℕ, ◌≡◌, ◌<◌, List, map, length, get_or, Some, sym, ap, ◌∙◌, subst}
use Rattle.std.proofs.lemmas.Option.{get_or_from_slice_get}
use Rattle.svc_core_laws.specs.Words.{program}
use Rattle.svc_bus_laws.specs.LineTable.{unit_at}
use Rattle.svc_machine_laws.specs.Events.{place_in, seat_place}
use Rattle.svc_machine_laws.specs.PlainMachine.{Plain, unit_of}
use Rattle.svc_machine_laws.specs.Reached.{IsReached}
use Rattle.svc_machine_laws.specs.Standing.{Standing}
use Rattle.svc_machine_laws.specs.WholeMachine.{machine_of}
use Rattle.svc_machine_laws.proofs.Accepted.{seat_places}
use Rattle.svc_machine_laws.proofs.Places.{found, within}
use Rattle.svc_machine.specs.Refusing.{machine_at}
use Rattle.svc_machine.specs.Value.{MachineValue, StandsAt}

pub known_unit : (v : MachineValue) (s : Standing) → StandsAt v s → IsReached v.image v.config s → (unit place : ℕ) → seat_place (machine_at v) unit ≡ Some place → unit < v.config.units
unfolding machine_at
known_unit v s at reached unit place e =
    let tasks : List ℕ = map unit_of s.plain.tasks in
    let placed : place_in tasks unit ≡ Some place = sym (seat_places v.image v.config s unit) ∙ subst (λ (q : Plain). seat_place (machine_of (program v.image) q) unit ≡ Some place) at.plain e in
    let here = found tasks unit place placed in
    let units = reached.lines.units in
    let inside : place < length s.lines.units = subst (λ (us : List ℕ). place < length us) (sym units) (within tasks place unit here) in
    let is : unit_at s.lines place ≡ unit = ap (λ (us : List ℕ). get_or us place 0) units ∙ get_or_from_slice_get tasks place unit 0 here in
    subst (λ n. n < v.config.units) is (subst (λ n. unit_at s.lines place < n) reached.lines.caches (reached.lines.sound.known_units place inside))
