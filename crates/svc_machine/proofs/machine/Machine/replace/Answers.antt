use Rattle.std.proofs.Common.{◌+◌, sym, subst, refl, None}
use Rattle.svc_bus_laws.specs.BusState.{Agrees}
use Rattle.svc_bus_laws.specs.Steps as steps
use Rattle.svc_bus.specs.State.{bus_state}
use Rattle.svc_bus.specs.Calls.{replace_refusal}
use Rattle.svc_machine_laws.specs.declared.reply.Reply.{Reply}
use Rattle.svc_machine_laws.specs.declared.reply.What.TheVariants as what
use Rattle.svc_machine_laws.specs.Events.{Event, Replace}
use Rattle.svc_machine_laws.specs.Replies.{whole_reply}
use Rattle.svc_machine.specs.Kept.{Parts}
use Rattle.svc_machine.specs.Value.{MachineValue}
use Rattle.svc_machine.specs.Steps.{Accepts}
use Rattle.svc_machine.proofs.Keeping.{parts_of, IsAccepted, Moved, kept_after, taken_as}
use Rattle.svc_machine.proofs.Replacing.{known, bus_accepts, accepted_of, replaced}
use Rattle.svc_machine.proofs.machine.Machine.replace.Goals as goal

pub replace-done-requires : goal.replace-done-requires
replace-done-requires c =
    let x : Event = Replace c.args.unit.0 c.args.addr.0 in
    let ok : IsAccepted (parts_of c.self.inside) x = subst (λ (v : MachineValue). Accepts v x) (sym c.self.view_is) c.requires in
    record { known = known (parts_of c.self.inside) c.self.invariant c.args.unit.0 c.args.addr.0 ok }

module _ (c : goal.After-self-1) where
  abbrev m : Parts
  m = parts_of c.self.inside

  abbrev x : Event
  x = Replace c.args.unit.0 c.args.addr.0

  ok : IsAccepted (parts_of c.self.inside) (Replace c.args.unit.0 c.args.addr.0)
  ok = let x : Event = Replace c.args.unit.0 c.args.addr.0 in subst (λ (v : MachineValue). Accepts v x) (sym c.self.view_is) c.requires

  abbrev after : Parts
  after = parts_of (record c.self.inside { bus = c.replace-done.new.self; accepted = c.self.inside.accepted + 1 })

  moved : Moved m after x
  moved =
      replaced (parts_of c.self.inside) c.self.invariant c.args.unit.0 c.args.addr.0 ok c.self.inside.seats.items refl c.replace-done.new.self
      (λ t agrees. accepted_of c.replace-done.result (replace_refusal (bus_state c.self.inside.bus) c.args.unit.0 c.args.addr.0)
      (Agrees (bus_state c.replace-done.new.self) (steps.replace t c.args.unit.0 c.args.addr.0))
      (bus_accepts (parts_of c.self.inside) c.self.invariant c.args.unit.0 c.args.addr.0 ok)
      c.replace-done.ensures.refused (c.replace-done.ensures.table t agrees))

pub invariant_of-self : goal.invariant_of-self
invariant_of-self c = kept_after (m c) c.self.invariant (x c) tt (ok c) (after c) (moved c)

pub returns : goal.returns
unfolding whole_reply
returns c =
    let r : Reply = record { what = what.Replaced c.args.addr; cut = None } in
    taken_as (m c) (after c) c.self.invariant _ c.self.view_is (x c) tt (ok c) (moved c) r (λ t agrees. refl)
