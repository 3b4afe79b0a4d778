use Rattle.std.proofs.Common.{◌≡◌, ◌+◌, List, ◌∷◌, ◌++◌, [], map, take, ◌∙◌, ap, ap₂, sym, subst}
use Rattle.std.specs.List.{AllByRecursion}
use Rattle.std.proofs.lemmas.List.{take_all, take_more}
use Rattle.svc_base.specs.declared.config.Config.{Config}
use Rattle.svc_image.specs.Image.{Image}
use Rattle.svc_machine_laws.specs.Events.{IsEvent}
use Rattle.svc_machine_laws.specs.Events as laws
use Rattle.svc_machine_laws.specs.Standing.{Standing, opened_at, whole_opened, after_event, after_events, accepted_commits}
use Rattle.svc_machine_laws.proofs.Every.{every_append}
use Rattle.svc_machine_laws.proofs.EditedLists.{map_append_one}
use Rattle.svc_machine.specs.declared.event.Event.{Event}
use Rattle.svc_machine.specs.Events.{event_of}
use Rattle.svc_machine.specs.Value.{StandsAt, IsSequentialMachine}
use Rattle.svc_machine.proofs.Driven.{after_more, sequential_of}
use Rattle.svc_machine.proofs.Keeping.{parts_of}
use Rattle.svc_machine.proofs.run.drive.Goals as goal

pub loop-event-init : goal.loop-event-init
unfolding after_events
loop-event-init c = let e = c.in_ok-machine.ensures in record { image = e.image; config = e.config; are = tt; standing = e.standing }

pub loop-event-preserved : goal.loop-event-preserved
loop-event-preserved c =
    let events = c.args.events.now in
    let i = c.loop-event.event-index in
    let x = c.event-item.result in
    let before = c.loop-event.invariant in
    let e = c.step-refused.ensures in
    let new = c.step-refused.new.self in
    let start : Standing = opened_at c.args.image c.args.config 0 in
    let taken : List laws.Event = map event_of (take i events) in
    let more : map event_of (take (i + 1) events) ≡ taken ++ event_of x ∷ [] =
    ap (map event_of) (take_more events i x c.loop-event-test.true ∙ ap (λ (y : Event). take i events ++ y ∷ []) (sym c.event-item.is))
    ∙ map_append_one event_of (take i events) x in
    let s : Standing = after_events c.args.image c.args.config start taken in
    let next : after_event c.loop-event.machine.image c.loop-event.machine.config s (event_of x) ≡ after_events c.args.image c.args.config start (map event_of (take (i + 1) events)) =
    ap₂ (λ (img : Image) (config : Config). after_event img config s (event_of x)) before.image before.config
    ∙ sym (after_more c.args.image c.args.config start taken (event_of x))
    ∙ ap (after_events c.args.image c.args.config start) (sym more) in
    record {
      image = e.image ∙ before.image;
      config = e.config ∙ before.config;
      are = subst (AllByRecursion IsEvent) (sym more) (every_append IsEvent taken (event_of x) before.are c.see.ensures);
      standing = subst (StandsAt new) next (e.standing s before.standing);
    }

pub returns-clause-standing : goal.returns-clause-standing
returns-clause-standing c =
    let all = take_all c.loop-event.event-index c.args.events.now c.loop-event-test.false in
    subst (λ (l : List Event). StandsAt c.loop-event.machine (after_events c.args.image c.args.config (opened_at c.args.image c.args.config 0) (map event_of l))) all c.loop-event.invariant.standing

pub returns-clause-headline : goal.returns-clause-headline
returns-clause-headline c =
    let all = take_all c.loop-event.event-index c.args.events.now c.loop-event-test.false in
    let after = c.loop-event.invariant in
    subst (λ (l : List Event). IsSequentialMachine (accepted_commits c.args.image c.args.config (whole_opened c.args.image c.args.config 0) (map event_of l)) c.loop-event.machine) all
    (sequential_of (parts_of c.machine.inside) c.machine.invariant c.loop-event.machine c.machine.view_is c.args.image c.args.config after.image after.config
    (map event_of (take c.loop-event.event-index c.args.events.now)) after.are after.standing)
