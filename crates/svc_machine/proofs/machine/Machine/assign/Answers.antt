use Rattle.std.proofs.Common.{◌≡◌, ◌≢◌, ◌+◌, ◌-◌, ◌^◌, ℕ, None, ◌∷◌, ◌++◌, [], List, true, ◌∙◌, ap, ap₂, sym, subst, refl, arith}
use Rattle.std.specs.Prelude.{is_ok, if◌then◌else◌, vec_capacity}
use Rattle.svc_core.specs.declared.burst.Lease.{Lease}
use Rattle.svc_core_laws.specs.State.{State}
use Rattle.svc_machine_laws.specs.declared.reply.Reply.{Reply}
use Rattle.svc_machine_laws.specs.declared.reply.What.TheVariants as what
use Rattle.svc_machine_laws.specs.WholeMachine as whole
use Rattle.svc_machine_laws.specs.Events.{Event, Assign}
use Rattle.svc_machine.specs.declared.seat.Seat.{Seat}
use Rattle.svc_machine.specs.Kept.{Parts, whole_seat}
use Rattle.svc_machine.specs.Value.{MachineValue}
use Rattle.svc_machine.specs.Steps.{Accepts}
use Rattle.svc_machine.proofs.Keeping.{parts_of, IsAccepted, Moved, kept_after, taken_as}
use Rattle.svc_machine.proofs.Assigning.{known, idle, room_active, room_seats, begins, epoch_apart, assigned, assign_reply}
use Rattle.svc_machine.proofs.Seats.{count}
use Rattle.svc_machine.proofs.machine.Machine.assign.Goals as goal

pub assign-task_entry-requires : goal.assign-task_entry-requires
assign-task_entry-requires c =
    let x : Event = Assign c.args.unit.0 c.args.guess in
    let ok : IsAccepted (parts_of c.self.inside) x = subst (λ (v : MachineValue). Accepts v x) (sym c.self.view_is) c.requires in
    record { room = room_active (parts_of c.self.inside) c.self.invariant c.args.unit.0 c.args.guess ok c.self.inside.config.few_units }

pub begin-requires-clause-known : goal.begin-requires-clause-known
begin-requires-clause-known c =
    let x : Event = Assign c.args.unit.0 c.args.guess in
    known (parts_of c.self.inside) c.self.invariant c.args.unit.0 c.args.guess (subst (λ (v : MachineValue). Accepts v x) (sym c.self.view_is) c.requires)

pub begin-requires-clause-idle : goal.begin-requires-clause-idle
begin-requires-clause-idle c =
    let x : Event = Assign c.args.unit.0 c.args.guess in
    idle (parts_of c.self.inside) c.self.invariant c.args.unit.0 c.args.guess (subst (λ (v : MachineValue). Accepts v x) (sym c.self.view_is) c.requires)

pub start-requires : goal.start-requires
start-requires c =
    let x : Event = Assign c.args.unit.0 c.args.guess in
    let ok : IsAccepted (parts_of c.self.inside) x = subst (λ (v : MachineValue). Accepts v x) (sym c.self.view_is) c.requires in
    rw c.assign-task_entry.ensures.entry (begins (parts_of c.self.inside) c.self.invariant c.args.unit.0 c.args.guess ok)

pub overflow_add-self : goal.overflow_add-self
overflow_add-self c =
    let x : Event = Assign c.args.unit.0 c.args.guess in
    let ok : IsAccepted (parts_of c.self.inside) x = subst (λ (v : MachineValue). Accepts v x) (sym c.self.view_is) c.requires in
    let apart : c.self.inside.epoch ≢ 2 ^ 64 - 1 = epoch_apart (parts_of c.self.inside) c.self.invariant c.args.unit.0 c.args.guess ok in
    omega (arith, apart)

module _ (c : goal.After-self-2-1) where
  abbrev m : Parts
  m = parts_of c.self.inside

  abbrev x : Event
  x = Assign c.args.unit.0 c.args.guess

  ok : IsAccepted (parts_of c.self.inside) (Assign c.args.unit.0 c.args.guess)
  ok = let x : Event = Assign c.args.unit.0 c.args.guess in subst (λ (v : MachineValue). Accepts v x) (sym c.self.view_is) c.requires

  abbrev seat : Seat
  seat = record { lease = c.new.result; task_entry = c.assign-task_entry.result; waiting = c.new-2.result }

  abbrev after : Parts
  after = parts_of (record c.self.inside { bus = c.begin.new.self; sequencer = c.assign-task_entry.new.self; seats = c.push-room.new.self; accepted = c.self.inside.accepted + 1; epoch = c.self.inside.epoch + 1 })

  room : is_ok c.push-room.result ≡ true
  room =
      let seats = c.self.inside.seats in
      let h = room_seats (parts_of c.self.inside) c.self.invariant c.args.unit.0 c.args.guess ok in
      let n = seats.ok.0 in
      let k = count whole_seat seats.items in
      c.push-room.ensures.succeeds (omega (arith, h, n, k))

  pushed : c.push-room.new.self.items ≡ c.self.inside.seats.items ++ seat ∷ []
  pushed = c.push-room.ensures.items ∙ ap (λ b. if b then c.self.inside.seats.items ++ seat ∷ [] else c.self.inside.seats.items) room

  moved : Moved m after x
  moved =
      let e = c.assign-task_entry.result in
      assigned (parts_of c.self.inside) c.self.invariant c.args.unit.0 c.args.guess ok c.self.inside.seats.items refl seat e c.assign-task_entry.ensures.entry
      (ap₂ {C = whole.Seat State} (λ (l : Lease) (w : List ℕ). record { unit = l.unit.0; epoch = l.epoch; entry = e; core = l.core; waiting = w }) c.new.ensures c.new-2.ensures
      ∙ ap {B = whole.Seat State} (λ (core : State). record { unit = c.args.unit.0; epoch = c.self.inside.epoch; entry = e; core = core; waiting = [] }) c.start.ensures)
      c.push-room.new.self.items pushed
      c.assign-task_entry.new.self c.assign-task_entry.ensures.state
      c.begin.new.self c.begin.ensures.table
      (vec_capacity c.push-room.new.self) c.push-room.ensures.capacity

pub invariant_of-self : goal.invariant_of-self
invariant_of-self c = kept_after (m c) c.self.invariant (x c) tt (ok c) (after c) (moved c)

pub returns : goal.returns
returns c =
    let r : Reply = record { what = what.Assigned (record { 0 = c.self.inside.commits + c.len.result }) c.assign-task_entry.result c.self.inside.epoch; cut = None } in
    let seats = c.self.inside.seats in
    let n = c.len.ensures in
    let k = seats.ok.0 in
    taken_as (m c) (after c) c.self.invariant _ c.self.view_is (x c) tt (ok c) (moved c) r
    (λ t agrees. assign_reply (m c) c.self.invariant c.args.unit.0 c.args.guess (ok c) seats.items refl (c.self.inside.commits + c.len.result) c.assign-task_entry.result (omega (arith, n, k)) c.assign-task_entry.ensures.entry t)
