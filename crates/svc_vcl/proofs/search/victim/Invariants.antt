use Rattle.std.proofs.Common.{◌≡◌, ◌-◌, length}
use Rattle.svc_bus_laws.specs.Walk.{walk}
use Rattle.svc_vcl.specs.Listed.{slot_at, is_exposure, is_version, victim_in}
use Rattle.svc_vcl.proofs.search.victim.Given as goal

abbrev pub invariant-loop-later : goal.invariant-loop-later
invariant-loop-later l = victim_in l.active l.place ≡ walk (λ q. is_exposure (slot_at l.active q)) (λ q. is_version (slot_at l.active q)) l.later (length l.active - l.later)
