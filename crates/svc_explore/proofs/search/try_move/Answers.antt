use Rattle.std.proofs.Common.{◌∙◌, ap, refl}
use Rattle.svc_machine_laws.specs.PlainMachine.{Plain}
use Rattle.svc_machine_laws.specs.Standing.{reply_to}
use Rattle.svc_history_laws.specs.Entries.{entry_of}
use Rattle.svc_history.specs.Recorded.{Recorded, standing_of}
use Rattle.svc_explore_laws.specs.Observations.{Numbers, observations, observed}
use Rattle.svc_explore.specs.Recorders.{HasMoved}
use Rattle.svc_explore.specs.Tries.{both}
use Rattle.svc_explore.proofs.search.try_move.Goals as goal

pub returns-clause-tried : goal.returns-clause-tried
returns-clause-tried c =
    let old : Recorded = c.args.recorder.now in
    let plain : Plain = (standing_of old).plain in
    let moved : HasMoved c.args.most old c.make_move.new.recorder c.args.unit.0 = (c.if-not-make_move.ensures {u = tt}).made refl in
    let entry = c.last_entry-entry.result in
    record {
      new = c.make_move.new.recorder;
      moved = moved;
      sights_are =
          (λ i. both (c.happened.ensures i) (c.squashed.ensures i))
          ∙ ap (λ (n : Numbers). observed n entry) c.in_ok-roster.ensures
          ∙ ap (observations plain) (c.last_entry-entry.ensures old.entries (entry_of moved.event (reply_to old.machine.image (standing_of old) moved.event)) moved.entries);
      has_key = c.in_ok-key.ensures;
    }
