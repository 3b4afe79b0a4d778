use Rattle.std.proofs.Common.{ℕ, ◌≡◌, ◌+◌, ◌<◌, ◌++◌, Option, Some, None, List, true, cond, drop, length, get_or, ◌∙◌, ap, sym, subst, refl, arith}
use Rattle.std.specs.Prelude.{is_ok, if◌then◌else◌, vec_capacity}
use Rattle.svc_bus_laws.specs.Steps.{squash}
use Rattle.svc_machine_laws.specs.declared.reply.Reply.{Reply}
use Rattle.svc_machine_laws.specs.declared.reply.What.TheVariants as what
use Rattle.svc_machine_laws.specs.Events.{Event, Commit}
use Rattle.svc_machine_laws.specs.Guide.{Guide, guide_committed}
use Rattle.svc_machine_laws.specs.PlainMachine.{cuts_next}
use Rattle.svc_machine_laws.specs.Replies.{cut_from}
use Rattle.svc_machine_laws.specs.declared.reply.Cut.{Cut}
use Rattle.svc_machine_laws.specs.declared.reply.Cause.TheVariants as cause
use Rattle.svc_machine.specs.declared.seat.Seat.{Seat}
use Rattle.svc_machine.specs.Kept.{Parts}
use Rattle.svc_machine.specs.Value.{MachineValue}
use Rattle.svc_machine.specs.Steps.{Accepts}
use Rattle.svc_machine.proofs.Keeping.{parts_of, IsAccepted, Moved, kept_after, taken_as}
use Rattle.svc_machine.proofs.Testing.{ended_at}
use Rattle.svc_machine.proofs.Committing.{HasHead, head_of, lined, has_units, small_commits, small_seats, active_some, units_some, commits_small, settled_some, settled_first, output_room, accepted_room, commits_moved, commit_reply}
use Rattle.svc_machine.proofs.machine.Machine.commit.Goals as goal

pub settle-cut-requires : goal.settle-cut-requires
settle-cut-requires c =
    let x : Event = Commit c.args.by.0 in
    let ok : IsAccepted (parts_of c.self.inside) x = subst (λ (v : MachineValue). Accepts v x) (sym c.self.view_is) c.requires.accepted in
    let items = c.self.inside.seats.items in
    let few = small_commits (parts_of c.self.inside) c.self.invariant c.args.by.0 ok items refl c.self.inside.config.few_events in
    record {
      lined = lined (parts_of c.self.inside) c.self.invariant c.args.by.0 ok items refl;
      units = has_units (parts_of c.self.inside) c.self.invariant c.args.by.0 ok items refl;
      number = omega (arith, few);
      few = let seats = small_seats (parts_of c.self.inside) c.self.invariant c.args.by.0 ok items refl c.self.inside.config.few_units in let n = c.len-count.ensures ∙ c.self.inside.seats.ok.0 in omega (arith, seats, n);
    }

pub commit_head-requires : goal.commit_head-requires
commit_head-requires c =
    let x : Event = Commit c.args.by.0 in
    let ok : IsAccepted (parts_of c.self.inside) x = subst (λ (v : MachineValue). Accepts v x) (sym c.self.view_is) c.requires.accepted in
    let items = c.self.inside.seats.items in
    let h : HasHead items c.args.end = head_of items c.args.end (ended_at _ c.self.invariant items refl _ c.self.view_is c.args.end c.requires.found) in
    record {
      head = units_some (parts_of c.self.inside) c.self.invariant c.args.by.0 ok items refl c.args.end h c.settle-cut.new.bus c.settle-cut.ensures.lines;
      few = commits_small (parts_of c.self.inside) c.self.invariant c.args.by.0 ok items refl c.args.end h c.settle-cut.new.bus c.settle-cut.ensures.lines c.self.inside.config.few_events;
    }

pub commit-requires : goal.commit-requires
commit-requires c =
    let x : Event = Commit c.args.by.0 in
    let ok : IsAccepted (parts_of c.self.inside) x = subst (λ (v : MachineValue). Accepts v x) (sym c.self.view_is) c.requires.accepted in
    let items = c.self.inside.seats.items in
    let h : HasHead items c.args.end = head_of items c.args.end (ended_at _ c.self.invariant items refl _ c.self.view_is c.args.end c.requires.found) in
    subst (λ (g : Guide). 0 < length g.active) (sym c.settle-cut.ensures.guide) (active_some (parts_of c.self.inside) c.self.invariant c.args.by.0 ok items refl c.args.end h)

pub index-head-requires : goal.index-head-requires
index-head-requires c =
    let x : Event = Commit c.args.by.0 in
    let ok : IsAccepted (parts_of c.self.inside) x = subst (λ (v : MachineValue). Accepts v x) (sym c.self.view_is) c.requires.accepted in
    let items = c.self.inside.seats.items in
    let h : HasHead items c.args.end = head_of items c.args.end (ended_at _ c.self.invariant items refl _ c.self.view_is c.args.end c.requires.found) in
    let some = settled_some (cuts_next c.args.end (drop 1 c.self.inside.sequencer.active)) items h.head h.others h.are in
    let n = c.settle-cut.new.seats.ok.0 in
    let same = ap (λ (l : List Seat). length l) c.settle-cut.ensures.seats in
    omega (arith, some, n, same)

pub remove-head-requires : goal.remove-head-requires
remove-head-requires c =
    let x : Event = Commit c.args.by.0 in
    let ok : IsAccepted (parts_of c.self.inside) x = subst (λ (v : MachineValue). Accepts v x) (sym c.self.view_is) c.requires.accepted in
    let items = c.self.inside.seats.items in
    let h : HasHead items c.args.end = head_of items c.args.end (ended_at _ c.self.invariant items refl _ c.self.view_is c.args.end c.requires.found) in
    let some = settled_some (cuts_next c.args.end (drop 1 c.self.inside.sequencer.active)) items h.head h.others h.are in
    let n = c.settle-cut.new.seats.ok.0 in
    let same = ap (λ (l : List Seat). length l) c.settle-cut.ensures.seats in
    omega (arith, some, n, same)

pub overflow_add-self : goal.overflow_add-self
overflow_add-self c =
    let x : Event = Commit c.args.by.0 in
    let ok : IsAccepted (parts_of c.self.inside) x = subst (λ (v : MachineValue). Accepts v x) (sym c.self.view_is) c.requires.accepted in
    let items = c.self.inside.seats.items in
    let few = small_commits (parts_of c.self.inside) c.self.invariant c.args.by.0 ok items refl c.self.inside.config.few_events in
    omega (arith, few)

pub overflow_add-self-2 : goal.overflow_add-self-2
overflow_add-self-2 c =
    let x : Event = Commit c.args.by.0 in
    let ok : IsAccepted (parts_of c.self.inside) x = subst (λ (v : MachineValue). Accepts v x) (sym c.self.view_is) c.requires.accepted in
    let items = c.self.inside.seats.items in
    let room = accepted_room (parts_of c.self.inside) c.self.invariant c.args.by.0 ok items refl in
    let few = c.self.inside.config.few_events in
    omega (arith, room, few)

module _ (c : goal.After-self-3-1) where
  abbrev m : Parts
  m = parts_of c.self.inside

  abbrev x : Event
  x = Commit c.args.by.0

  ok : IsAccepted (parts_of c.self.inside) (Commit c.args.by.0)
  ok = let x : Event = Commit c.args.by.0 in subst (λ (v : MachineValue). Accepts v x) (sym c.self.view_is) c.requires.accepted

  abbrev after : Parts
  after = parts_of (record c.self.inside {
    bus = c.commit_head.new.self;
    sequencer = c.commit.new.self;
    seats = c.remove-head.new.self;
    output = c.extend_from_slice-room.new.self;
    stopped = c.stop-self-inside.result;
    commits = c.self.inside.commits + 1;
    accepted = c.self.inside.accepted + 1;
  })

  head : HasHead c.self.inside.seats.items c.args.end
  head = head_of c.self.inside.seats.items c.args.end (ended_at (parts_of c.self.inside) c.self.invariant c.self.inside.seats.items refl _ c.self.view_is c.args.end c.requires.found)

  first : c.index-head.result.now ≡ head.head
  first =
      let r = c.index-head.result.now in
      settled_first (cuts_next c.args.end (drop 1 c.self.inside.sequencer.active)) c.self.inside.seats.items head.head head.others head.are r
      (c.index-head.ensures ∙ ap (λ (l : List Seat). get_or l 0 r) c.settle-cut.ensures.seats)

  words : c.as_slice.result.now ≡ head.head.waiting.items
  words = c.as_slice.ensures.value ∙ ap (λ (s : Seat). s.waiting.items) first

  fits : is_ok c.extend_from_slice-room.result ≡ true
  fits =
      let few = output_room (parts_of c.self.inside) c.self.invariant c.args.by.0 ok c.self.inside.seats.items refl c.args.end head in
      let n = ap (λ (l : List ℕ). length l) words in
      let k = c.self.inside.output.ok.0 in
      c.extend_from_slice-room.ensures.succeeds (omega (arith, few, n, k))

  put_out : c.extend_from_slice-room.new.self.items ≡ c.self.inside.output.items ++ head.head.waiting.items
  put_out =
      c.extend_from_slice-room.ensures.items
      ∙ ap (λ b. if b then c.self.inside.output.items ++ c.as_slice.result.now else c.self.inside.output.items) fits
      ∙ ap (λ (w : List ℕ). c.self.inside.output.items ++ w) words

  moved : Moved m after x
  moved =
      let cap = c.remove-head.ensures.capacity ∙ c.settle-cut.ensures.capacity in
      commits_moved (parts_of c.self.inside) c.self.invariant c.args.by.0 ok c.self.inside.seats.items refl c.args.end head
      c.remove-head.new.self.items (c.remove-head.ensures.by_index.2 ∙ ap (drop 1) c.settle-cut.ensures.seats)
      c.commit.new.self (c.commit.ensures ∙ ap (guide_committed c.args.end) c.settle-cut.ensures.guide)
      c.commit_head.new.self (λ t agrees. c.commit_head.ensures.table (cond (cuts_next c.args.end (drop 1 c.self.inside.sequencer.active)) (squash t 1) t) (c.settle-cut.ensures.lines t agrees))
      c.extend_from_slice-room.new.self.items put_out
      c.stop-self-inside.result c.stop-self-inside.ensures
      (vec_capacity c.remove-head.new.self) (vec_capacity c.extend_from_slice-room.new.self)
      (omega (arith, cap)) c.extend_from_slice-room.ensures.capacity

pub invariant_of-self : goal.invariant_of-self
invariant_of-self c = kept_after (m c) c.self.invariant (x c) tt (ok c) (after c) (moved c)

pub returns : goal.returns
returns c =
    let r : Reply = record { what = what.Committed (record { 0 = c.self.inside.commits }) c.args.end; cut = c.settle-cut.result } in
    taken_as (m c) (after c) c.self.invariant _ c.self.view_is (x c) tt (ok c) (moved c) r
    (λ t agrees. commit_reply (m c) c.self.invariant c.args.by.0 (ok c) c.self.inside.seats.items refl c.args.end (head c) c.settle-cut.result
    (c.settle-cut.ensures.cut
    ∙ ap {B = Option Cut} (λ n. cond (cuts_next c.args.end (drop 1 c.self.inside.sequencer.active)) (Some (cut_from cause.WrongGuess c.self.inside.commits n 1)) None) (c.len-count.ensures ∙ c.self.inside.seats.ok.0))
    t)
