use Rattle.std.proofs.Common.{◌∙◌, arith, subst, take}
use Rattle.std.proofs.lemmas.List.{take_all}
use Rattle.std.proofs.lemmas.Option.{slice_get-get_or}
use Rattle.svc_script.specs.Suppliers.{AllAlike}
use Rattle.svc_script.proofs.Following.{fault_there, one_more_alike, sound_so}
use Rattle.svc_script.proofs.suppliers.follow_all.Goals as goal

pub returns-in-Err-clause-fault : goal.returns-in-Err-clause-fault
returns-in-Err-clause-fault c =
    let i = c.loop-index.invariant in
    let said = c.in-Err.ensures {u = tt} in
    let start = c.args.recorder.now in
    let es = c.args.entries.now in
    let at = c.loop-index.index in
    fault_there start.machine.image start.machine.config c.requires.image c.loop-index.recorder es at _ c.in-Err.kind i.image i.config
    (slice_get-get_or es at _ (omega (arith, c.loop-index-test.true)))
    (sound_so start.machine.image start.machine.config c.loop-index.recorder (take at es) said.legal i.image i.config i.alike) said.wrong

pub returns-clause-sound : goal.returns-clause-sound
returns-clause-sound c =
    let i = c.loop-index.invariant in
    let start = c.args.recorder.now in
    let r = c.loop-index.recorder in
    let es = c.args.entries.now in
    let all = take_all c.loop-index.index es (omega (arith, c.loop-index-test.false)) in
    sound_so start.machine.image start.machine.config r es c.entries-legal.ensures.legal i.image i.config (subst (AllAlike r.entries) all i.alike)

pub loop-index-preserved : goal.loop-index-preserved
loop-index-preserved c =
    let i = c.loop-index.invariant in
    let es = c.args.entries.now in
    let at = c.loop-index.index in
    record {
      image = c.follow.ensures.image ∙ i.image;
      config = c.follow.ensures.config ∙ i.config;
      alike = one_more_alike es at c.loop-index.recorder _ c.follow.new.recorder (slice_get-get_or es at _ (omega (arith, c.loop-index-test.true))) i.alike (c.in_default.ensures {u = tt}).follows;
    }
