-- Whose slips they are.
use Rattle.std.proofs.Common.{◌≡◌, zero, suc, List, [], ◌∷◌, ◌++◌, refl, sym, ap, ◌∙◌, subst, arith}
use Rattle.std.specs.Prelude.{All, IfOk, Result, Ok, Err}
use Rattle.std.proofs.lemmas.List.Elements.{All-append}
use Rattle.svc_base.specs.declared.ids.UnitId.{UnitId}
use Rattle.svc_base.specs.declared.refusal.Refusal.{Refusal}
use Rattle.svc_machine.specs.declared.event.Event.{Event}
use Rattle.svc_machine.specs.declared.event.Event.TheVariants.{Assign, Submit, Replace, Cancel, Commit}
use Rattle.svc_machine.specs.Events.{event_of}
use Rattle.svc_machine_laws.specs.declared.reply.Reply.{Reply}
use Rattle.svc_history_laws.specs.declared.entry.Entry.{Entry}
use Rattle.svc_history_laws.specs.declared.entry.Slip.{Slip}
use Rattle.svc_history_laws.specs.Entries.{entry_of}
use Rattle.svc_history.specs.declared.glance.Glance.{Glance}
use Rattle.svc_history.specs.Glances.{IsGlance}
use Rattle.svc_history.specs.Recorded.{Recorded, IsLegal}
use Rattle.svc_threads.specs.Ports.{IsEntryOf, IsGlanceOfSome, IsOf, unit_of}

entry_unit : (x : Event) (r : Reply) → (entry_of (event_of x) r).unit ≡ unit_of x
unfolding entry_of
entry_unit (Assign unit guess) r = refl
entry_unit (Submit burst) r = refl
entry_unit (Replace unit addr) r = refl
entry_unit (Cancel unit) r = refl
entry_unit (Commit by) r = refl

-- an entry of a unit's event is the unit's
owns : (x : Event) (unit : UnitId) (s : Slip) → unit_of x ≡ unit → IsEntryOf x s.entry → IsOf unit s
owns x unit s asks is = ap (λ (e : Entry). e.unit) is.1 ∙ (entry_unit x is.0 ∙ asks)

-- a glance at some recorder
pub glanced : (r : Recorded) (unit : UnitId) (o : Result Glance Refusal) → IsLegal r → IfOk o (IsGlance r.machine unit.0) → IfOk o (λ g. IsGlanceOfSome unit g)
glanced r unit (Ok g) legal is = (r, legal, is)
glanced r unit (Err e) legal is = tt

one : (P : Slip → Type 0) (s : Slip) → P s → All P (s ∷ [])
one P s holds zero d below = holds
one P s holds (suc k) d below = absurd (omega (arith, below))

-- one slip more of the unit
pub owns_more : (x : Event) (unit : UnitId) (s : Slip) (l more : List Slip) → more ≡ l ++ s ∷ [] → unit_of x ≡ unit → IsEntryOf x s.entry → All (IsOf unit) l → All (IsOf unit) more
owns_more x unit s l more is asks entry all =
    subst (All (IsOf unit)) (sym is) (All-append (IsOf unit) l (s ∷ []) all (one (IsOf unit) s (owns x unit s asks entry)))
