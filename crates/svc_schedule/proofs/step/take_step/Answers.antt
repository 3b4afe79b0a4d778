use Rattle.std.proofs.Common.{subst, sym}
use Rattle.svc_history.specs.Recorded.{Recorded}
use Rattle.svc_schedule.specs.Bursts.{AreReady}
use Rattle.svc_schedule.specs.Orders.{around}
use Rattle.svc_schedule.proofs.Going.{someone_moves}
use Rattle.svc_schedule.proofs.Stepping.{one_of_all, stops_in}
use Rattle.svc_schedule.proofs.step.take_step.Goals as goal

pub ask_in_turn-moved-requires : goal.ask_in_turn-moved-requires
ask_in_turn-moved-requires c =
    let same = (c.ask_in_turn.ensures.passed c.if-ask_in_turn.false).0 in
    record { ready = subst (λ (r : Recorded). AreReady r.machine.image c.args.most c.ask_in_turn.new.bursts) (sym same) c.ask_in_turn.ensures.ready }

pub returns-then-ask_in_turn-clause-moves : goal.returns-then-ask_in_turn-clause-moves
returns-then-ask_in_turn-clause-moves c =
    stops_in c.args.most c.args.recorder.now c.ask_in_turn.new.recorder c.args.named.now (around 0 16) (c.ask_in_turn.ensures.moved c.if-ask_in_turn.true)

pub returns-clause-moves : goal.returns-clause-moves
returns-clause-moves c =
    let old = c.args.recorder.now in
    let none = c.ask_in_turn.ensures.passed c.if-ask_in_turn.false in
    one_of_all c.args.most old c.ask_in_turn.new.recorder c.ask_in_turn-moved.new.recorder c.args.named.now c.ask_in_turn-moved.result none.0 none.1
    c.ask_in_turn-moved.ensures.moved c.ask_in_turn-moved.ensures.passed
    (someone_moves old c.keeps.ensures.legal c.keeps.ensures.image c.requires.going c.args.most c.requires.some)

pub returns-clause-ready : goal.returns-clause-ready
returns-clause-ready c =
    let same = (c.ask_in_turn.ensures.passed c.if-ask_in_turn.false).0 in
    subst (λ (r : Recorded). AreReady r.machine.image c.args.most c.ask_in_turn-moved.new.bursts) same c.ask_in_turn-moved.ensures.ready
