use Rattle.std.proofs.Common.{◌∙◌, get_or, subst, sym}
use Rattle.svc_base.specs.declared.ids.UnitId.{UnitId}
use Rattle.svc_history.specs.Recorded.{Recorded}
use Rattle.svc_schedule.specs.Bursts.{AreReady}
use Rattle.svc_schedule.specs.Moves.{IsMade, IsPassed}
use Rattle.svc_schedule.proofs.Stepping.{first_moves, rest_moves, rest_passed}
use Rattle.svc_schedule.proofs.step.ask_in_turn.Goals as goal

abbrev none : UnitId
none = record { 0 = 0 }

pub make_move-requires : goal.make_move-requires
make_move-requires c =
    let i = c.loop-unit.invariant in
    record { ready = subst (λ (r : Recorded). AreReady r.machine.image c.args.most c.loop-unit.bursts) (sym i.same) i.ready }

pub returns-then-make_move-clause-ready : goal.returns-then-make_move-clause-ready
returns-then-make_move-clause-ready c =
    subst (λ (r : Recorded). AreReady r.machine.image c.args.most c.make_move.new.bursts) c.loop-unit.invariant.same c.make_move.ensures.ready

pub returns-then-make_move-clause-moved : goal.returns-then-make_move-clause-moved
returns-then-make_move-clause-moved c = λ _.
    let i = c.loop-unit.invariant in
    let made = c.make_move.ensures.made c.if-make_move.true in
    i.first c.make_move.new.recorder
    (first_moves c.args.most c.args.recorder.now c.make_move.new.recorder c.args.units.now c.loop-unit.unit-index none c.loop-unit-test.true
    (subst (λ (r : Recorded). IsMade c.args.most r c.make_move.new.recorder (get_or c.args.units.now c.loop-unit.unit-index none)) i.same made))

pub loop-unit-preserved : goal.loop-unit-preserved
loop-unit-preserved c =
    let i = c.loop-unit.invariant in
    let old = c.args.recorder.now in
    let units = c.args.units.now in
    let none_moved = c.make_move.ensures.passed c.if-make_move.false in
    let passed = subst (λ (r : Recorded). IsPassed c.args.most r (get_or units c.loop-unit.unit-index none)) i.same none_moved.1 in
    record {
      same = none_moved.0 ∙ i.same;
      first = λ new first. i.first new (rest_moves c.args.most old new units c.loop-unit.unit-index none c.loop-unit-test.true passed first);
      all = λ all. i.all (rest_passed c.args.most old units c.loop-unit.unit-index none c.loop-unit-test.true passed all);
      ready = subst (λ (r : Recorded). AreReady r.machine.image c.args.most c.make_move.new.bursts) i.same c.make_move.ensures.ready;
    }
