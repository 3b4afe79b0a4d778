use Rattle.std.proofs.Common.{◌∙◌, get_or, refl, sym}
use Rattle.std.proofs.lemmas.Option.{slice_get-get_or}
use Rattle.svc_task_runs.proofs.Nobody.{nothing}
use Rattle.svc_instruction_profile.proofs.Standing.{next_noted, no_addresses}
use Rattle.svc_instruction_profile.proofs.addresses.note_all.Goals as goal

pub loop-index-init : goal.loop-index-init
loop-index-init c = record {
  image = refl;
  config = refl;
  before = c.requires.none_yet;
  asked = c.requires.none ∙ sym (no_addresses c.args.recorder.now.machine.image c.args.recorder.now.machine.config);
}

pub loop-index-preserved : goal.loop-index-preserved
loop-index-preserved c =
    let es = c.args.entries.now in
    let i = c.loop-index.index in
    let so_far = c.loop-index.invariant in
    let said = c.in_ok-address.ensures {u = tt} in
    let there = slice_get-get_or es i nothing c.loop-index-test.true in
    record {
      image = said.image ∙ so_far.image;
      config = said.config ∙ so_far.config;
      before = said.entries;
      asked =
          next_noted c.args.recorder.now.machine.image c.loop-index.recorder.machine.image c.args.recorder.now.machine.config c.loop-index.recorder.machine.config
          es i (get_or es i nothing) c.loop-index.asked.items c.push_address.new.asked.items c.in_ok-address.address so_far.image so_far.config
          there so_far.asked (said.address (get_or es i nothing) there) (c.in_ok-push_address.ensures {u = tt}).added;
    }
