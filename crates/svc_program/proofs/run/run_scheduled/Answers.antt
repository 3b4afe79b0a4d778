use Rattle.std.proofs.Common.{List, length, subst, sym}
use Rattle.std.specs.Prelude.{All}
use Rattle.svc_script.specs.declared.script.Step.{Step}
use Rattle.svc_script.specs.Events.{HasLedOn, IsEvent}
use Rattle.svc_script.specs.Leading.{IsOpened}
use Rattle.svc_program.proofs.Continuing.{goes_after, run_of}
use Rattle.svc_program.proofs.run.run_scheduled.Goals as goal

pub lead_on-requires : goal.lead_on-requires
lead_on-requires g c = subst (All IsEvent) (sym c.deref.ensures.value) c.in_ok-steps.ensures.events

pub returns-clause-run : goal.returns-clause-run
returns-clause-run g c =
    let opened = c.in_ok-recorder.recorder in
    let given = c.in_ok-recorder.ensures {u = tt} in
    let is : IsOpened c.args.image c.args.config opened = record { image = given.image; config_is = given.config; legal = c.entries-none.ensures.legal; none_yet = given.entries } in
    run_of c.args.schedule.order c.args.schedule.burst c.args.image c.args.config c.deref.result.now opened c.lead_on.new.recorder c.go_on.new.recorder is c.lead_on.ensures.led c.in_ok-go_on.ensures.goes

pub returns-clause-goes : goal.returns-clause-goes
returns-clause-goes g c =
    let opened = c.in_ok-recorder.recorder in
    let given = c.in_ok-recorder.ensures {u = tt} in
    let is : IsOpened c.args.image c.args.config opened = record { image = given.image; config_is = given.config; legal = c.entries-none.ensures.legal; none_yet = given.entries } in
    goes_after (g.F.Files.held c.args.files.now) c.args.schedule.after c.in_ok-steps.steps.items c.args.schedule.order c.args.schedule.burst c.args.image c.args.config opened c.lead_on.new.recorder c.go_on.new.recorder
    c.in_ok-steps.ensures.script is (subst (λ (xs : List Step). HasLedOn xs (length xs) opened c.lead_on.new.recorder) c.deref.ensures.value c.lead_on.ensures.led) c.in_ok-go_on.ensures.goes
