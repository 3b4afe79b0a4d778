-- A legal history has no more entries than its configuration allows events.
use Rattle.std.proofs.Common.{length, ap, subst, arith}
use Rattle.svc_base.specs.declared.config.Config.{Config}
use Rattle.svc_image.specs.Image.{Image}
use Rattle.svc_history_laws.specs.Histories.{LeadsOn}
use Rattle.svc_history_laws.specs.Legal.{LegalHistory}
use Rattle.svc_replay.proofs.check.replay.Goals as goal

pub returns-clause-few : goal.returns-clause-few
returns-clause-few c =
    let r = c.in_ok-recorder.recorder in
    let told = c.in_ok-recorder.ensures in
    let img = c.args.image in
    let legal : LegalHistory img r.machine.config r.entries = subst (λ (i : Image). LegalHistory i r.machine.config r.entries) told.image told.legal.legal in
    let leads : LeadsOn img r.machine.config r.entries = c.history_leads_on.ensures img c.start-start.ensures.sound r.machine.config r.entries legal in
    let count = leads.accepted in
    let few = leads.reached.accepted_few in
    let events = ap (λ (k : Config). k.events) told.config in
    let entries = ap length told.entries in
    let most = c.args.config.few_events in
    omega (arith, count, few, events, entries, most)
