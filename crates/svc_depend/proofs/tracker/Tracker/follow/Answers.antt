use Rattle.svc_depend.proofs.Followed.{after_turn}
use Rattle.svc_depend.proofs.tracker.Tracker.follow.Goals as goal

pub returns-clause-tracked : goal.returns-clause-tracked
returns-clause-tracked c = λ p w m log clock reads writes tracked.
    after_turn p w m log clock c.args.touch.reads c.args.touch.writes c.args.self.now c.read_if-ready.new.self c.tick.new.self c.write_if.new.self c.read_if-ready.result
    c.requires.reads c.requires.writes reads writes c.read_if-ready.ensures.read c.tick.ensures.turn c.write_if.ensures.written tracked
