use Rattle.std.proofs.lemmas.Option.{slice_get-get_or}
use Rattle.svc_instruction_profile.proofs.Standing.{noted}
use Rattle.svc_instruction_profile.proofs.addresses.note.Goals as goal

pub returns-clause-address : goal.returns-clause-address
returns-clause-address c e there =
    let said = c.in_ok-check_on.ensures {u = tt} in
    noted c.machine.result.now c.args.recorder.now c.check_on.new.recorder c.args.entries.now c.args.index e _ c.address_at-address.result
    c.machine.ensures.machine c.machine.ensures.legal c.requires.begun c.entries-legal.ensures.legal said.image said.config said.entries
    (slice_get-get_or c.args.entries.now c.args.index _ c.requires.inside) there c.address_at-address.ensures
