use Rattle.std.proofs.Common.{suc, ◌≡◌, false, cond, drop, take, List, Some, None, Option, ◌∙◌, ap, sym, subst, map, refl}
use Rattle.svc_bus_laws.specs.BusState.{Agrees}
use Rattle.svc_bus_laws.specs.Steps.{squash}
use Rattle.svc_bus.specs.State.{bus_state}
use Rattle.svc_machine_laws.specs.declared.reply.Cut.{Cut}
use Rattle.svc_machine_laws.specs.declared.reply.Cause.TheVariants as cause
use Rattle.svc_machine_laws.specs.Guide.{Guide, guide_cut}
use Rattle.svc_machine_laws.specs.PlainMachine.{cuts_next}
use Rattle.svc_machine_laws.specs.Replies.{cut_from}
use Rattle.svc_machine.specs.declared.seat.Seat.{Seat}
use Rattle.svc_machine.specs.Kept.{whole_seat}
use Rattle.svc_machine.specs.Seats.{is_misled}
use Rattle.svc_machine.proofs.Settling.{ended_at, misled_is}
use Rattle.svc_machine.proofs.check.check_guess.Goals as goal

pub returns-in-Some : goal.returns-in-Some
returns-in-Some c =
    let seats = c.args.seats.now.items in
    let place = c.args.place in
    let ended : Some c.in-Some.end ≡ ended_at seats place = c.in-Some.ensures ∙ ap (λ l. ended_at l place) c.deref.ensures.value in
    let same : cuts_next c.in-Some.end (drop (suc place) c.args.sequencer.now.active) ≡ is_misled (map whole_seat seats) place =
    ap (λ l. cuts_next c.in-Some.end (drop (suc place) l)) c.requires.lined ∙ sym (misled_is seats place (Some c.in-Some.end) ended) in
    record {
      cut = c.settle.ensures.cut ∙ ap {B = Option Cut} (λ x. cond x (Some (cut_from cause.WrongGuess c.args.commits c.args.count (suc place))) None) same;
      lines = λ t agrees. subst (λ x. Agrees (bus_state c.settle.new.bus) (cond x (squash t (suc place)) t)) same (c.settle.ensures.lines t agrees);
      seats = c.settle.ensures.seats ∙ ap {B = List Seat} (λ x. cond x (take (suc place) seats) seats) same;
      guide = c.settle.ensures.guide ∙ ap {B = Guide} (λ x. cond x (guide_cut (suc place) c.args.sequencer.now) c.args.sequencer.now) same;
      capacity = c.settle.ensures.capacity;
    }

pub returns-in-None : goal.returns-in-None
returns-in-None c =
    let seats = c.args.seats.now.items in
    let place = c.args.place in
    let none : None ≡ ended_at seats place = c.in-None.ensures ∙ ap (λ l. ended_at l place) c.deref.ensures.value in
    let same : false ≡ is_misled (map whole_seat seats) place = sym (misled_is seats place None none) in
    record {
      cut = ap {B = Option Cut} (λ x. cond x (Some (cut_from cause.WrongGuess c.args.commits c.args.count (suc place))) None) same;
      lines = λ t agrees. subst (λ x. Agrees (bus_state c.args.bus.now) (cond x (squash t (suc place)) t)) same agrees;
      seats = ap {B = List Seat} (λ x. cond x (take (suc place) seats) seats) same;
      guide = ap {B = Guide} (λ x. cond x (guide_cut (suc place) c.args.sequencer.now) c.args.sequencer.now) same;
      capacity = refl;
    }
