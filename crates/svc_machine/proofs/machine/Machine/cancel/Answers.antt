use Rattle.std.proofs.Common.{◌≡◌, ◌+◌, ◌==◌, ◌∙◌, sym, subst, refl, arith, Some}
use Rattle.std.specs.Prelude.{vec_capacity}
use Rattle.std.specs.List.{position}
use Rattle.svc_machine_laws.specs.declared.reply.Reply.{Reply}
use Rattle.svc_machine_laws.specs.declared.reply.What.TheVariants as what
use Rattle.svc_machine_laws.specs.Events.{Event, Cancel}
use Rattle.svc_machine.specs.declared.seat.Seat.{Seat}
use Rattle.svc_machine.specs.Kept.{Parts}
use Rattle.svc_machine.specs.Value.{MachineValue}
use Rattle.svc_machine.specs.Steps.{Accepts}
use Rattle.svc_machine.proofs.Keeping.{parts_of, IsAccepted, Moved, kept_after, taken_as}
use Rattle.svc_machine.proofs.Testing.{placed_at}
use Rattle.svc_machine.proofs.Cancelling.{small_numbers, at_work, not_head, cancelled, cancel_reply}
use Rattle.svc_machine.proofs.machine.Machine.cancel.Goals as goal

pub cut_from-cut-requires-clause-number : goal.cut_from-cut-requires-clause-number
cut_from-cut-requires-clause-number c =
    let at = placed_at _ c.self.invariant c.self.inside.seats.items refl _ c.self.view_is c.args.unit.0 c.args.place c.requires.found in
    (small_numbers (parts_of c.self.inside) c.self.invariant c.self.inside.seats.items refl c.args.unit.0 c.args.place at c.self.inside.config.few_units c.self.inside.config.few_events).0

pub cut_from-cut-requires-clause-few : goal.cut_from-cut-requires-clause-few
cut_from-cut-requires-clause-few c =
    let at = placed_at _ c.self.invariant c.self.inside.seats.items refl _ c.self.view_is c.args.unit.0 c.args.place c.requires.found in
    let few = (small_numbers (parts_of c.self.inside) c.self.invariant c.self.inside.seats.items refl c.args.unit.0 c.args.place at c.self.inside.config.few_units c.self.inside.config.few_events).1 in
    let n = c.len.ensures in
    let k = c.self.inside.seats.ok.0 in
    omega (arith, few, n, k)

pub squash_from-requires-clause-at_work : goal.squash_from-requires-clause-at_work
squash_from-requires-clause-at_work c =
    let at = placed_at _ c.self.invariant c.self.inside.seats.items refl _ c.self.view_is c.args.unit.0 c.args.place c.requires.found in
    at_work (parts_of c.self.inside) c.self.invariant c.self.inside.seats.items refl c.args.unit.0 c.args.place at

pub squash_from-requires-clause-later : goal.squash_from-requires-clause-later
squash_from-requires-clause-later c =
    let x : Event = Cancel c.args.unit.0 in
    let ok : IsAccepted (parts_of c.self.inside) x = subst (λ (v : MachineValue). Accepts v x) (sym c.self.view_is) c.requires.accepted in
    let at = placed_at _ c.self.invariant c.self.inside.seats.items refl _ c.self.view_is c.args.unit.0 c.args.place c.requires.found in
    not_head (parts_of c.self.inside) c.self.invariant c.self.inside.seats.items refl c.args.unit.0 c.args.place at ok

module _ (c : goal.After-self-1) where
  abbrev m : Parts
  m = parts_of c.self.inside

  abbrev x : Event
  x = Cancel c.args.unit.0

  ok : IsAccepted (parts_of c.self.inside) (Cancel c.args.unit.0)
  ok = let x : Event = Cancel c.args.unit.0 in subst (λ (v : MachineValue). Accepts v x) (sym c.self.view_is) c.requires.accepted

  abbrev after : Parts
  after = parts_of (record c.self.inside { bus = c.squash_from.new.self; sequencer = c.cut_from.new.self; seats = c.truncate.new.self; accepted = c.self.inside.accepted + 1 })

  found : position (λ (s : Seat). s.lease.unit.0 == c.args.unit.0) c.self.inside.seats.items ≡ Some c.args.place
  found = placed_at (parts_of c.self.inside) c.self.invariant c.self.inside.seats.items refl _ c.self.view_is c.args.unit.0 c.args.place c.requires.found

  moved : Moved m after x
  moved =
      let same = c.truncate.ensures.capacity in
      cancelled (parts_of c.self.inside) c.self.invariant c.self.inside.seats.items refl c.args.unit.0 c.args.place found ok
      c.truncate.new.self.items c.truncate.ensures.items
      c.cut_from.new.self c.cut_from.ensures
      c.squash_from.new.self
      (λ t place agrees within at. c.squash_from.ensures.table t place (record { agrees = agrees; within = within; unit_is = at }))
      (vec_capacity c.truncate.new.self) (omega (arith, same))

pub invariant_of-self : goal.invariant_of-self
invariant_of-self c = kept_after (m c) c.self.invariant (x c) tt (ok c) (after c) (moved c)

pub returns : goal.returns
returns c =
    let r : Reply = record { what = what.Cancelled; cut = Some c.cut_from-cut.result } in
    let n = c.len.ensures ∙ c.self.inside.seats.ok.0 in
    taken_as (m c) (after c) c.self.invariant _ c.self.view_is (x c) tt (ok c) (moved c) r
    (λ t agrees. cancel_reply (m c) c.self.invariant c.self.inside.seats.items refl c.args.unit.0 c.args.place (found c) (ok c) c.cut_from-cut.result c.len.result n c.cut_from-cut.ensures t)
