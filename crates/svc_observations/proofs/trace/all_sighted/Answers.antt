use Rattle.std.proofs.Common.{◌≡◌, ◌∙◌, ◌<◌, ap, arith, length, take}
use Rattle.svc_machine_laws.specs.Standing.{Standing, opened_at}
use Rattle.svc_history_laws.specs.Legal.{led_to}
use Rattle.svc_history.specs.Recorded.{standing_of}
use Rattle.svc_explore_laws.specs.Observations.{numbers}
use Rattle.svc_observations.specs.Rosters.{numbers_in}
use Rattle.svc_observations.specs.Sightings.{all_sighted}
use Rattle.svc_observations.proofs.Listing.{one_more}
use Rattle.svc_observations.proofs.trace.all_sighted.Goals as goal

pub loop-index-init : goal.loop-index-init
unfolding all_sighted
loop-index-init c = record {
  image = c.in_ok-recorder.ensures.image;
  config_is = c.in_ok-recorder.ensures.config;
  entries = c.in_ok-recorder.ensures.entries;
  found = c.new-found.ensures.items;
}

pub loop-index-preserved : goal.loop-index-preserved
loop-index-preserved c =
    let img = c.args.image in
    let config = c.args.config in
    let es = c.args.entries.now in
    let n = c.loop-index.index in
    let at = c.loop-index.invariant in
    let goes = c.in_ok-check_on.ensures in
    let inside : n < length es = omega (arith, c.loop-index-test.true) in
    let there : standing_of c.loop-index.recorder ≡ led_to img config (take n es) = λ i. led_to (at.image i) (at.config_is i) (at.entries i) in
    let known = c.in-Ok.ensures ∙ ap (λ (s : Standing). numbers s.plain) there in record {
      image = goes.image ∙ at.image;
      config_is = goes.config ∙ at.config_is;
      entries = goes.entries;
      found = c.in-Ok-note_entry.ensures ∙ one_more img (opened_at img config 0) es n _ (numbers_in c.in-Ok.roster) c.loop-index.found.items inside known at.found;
    }
