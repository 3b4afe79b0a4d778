use Rattle.std.proofs.Common.{◌≡◌, ◌<◌, ◌≤◌, ◌∙◌, ap, true, false, length, subst, sym, refl, arith}
use Rattle.svc_machine.specs.Reads.{is_full}
use Rattle.svc_base.specs.declared.config.Config.{Config}
use Rattle.svc_image.specs.Image.{Image}
use Rattle.svc_machine_laws.specs.Standing.{Standing, opened_at}
use Rattle.svc_history.specs.Recorded.{Recorded, standing_of}
use Rattle.svc_explore.specs.Recorders.{Leads, PlaysTo}
use Rattle.svc_explore.proofs.Leading.{AreFew, few_on, has_room, leads_on}
use Rattle.svc_explore.proofs.OnePath.{at_end, more_accepted, rest_on, rest_room, rest_stuck}
use Rattle.svc_explore.proofs.PlayEnds.{plays_on}
use Rattle.svc_explore.proofs.search.replay.Goals as goal

pub loop-unit-init : goal.loop-unit-init
loop-unit-init c =
    let says = c.in_ok-recorder.ensures in
    record {
      image = says.image;
      config = says.config;
      few = subst (λ (s : Standing). AreFew s.plain) (sym says.opened) (omega arith);
      short = subst (λ (s : Standing). s.plain.accepted ≤ 0) (sym says.opened) (omega arith);
      rest = λ t h. subst (λ s. Leads c.args.image.now c.args.config c.args.most s c.args.path.now t) (sym says.opened) h;
      plays = subst (λ es. PlaysTo c.args.image.now c.args.config c.args.most (opened_at c.args.image.now c.args.config 0) es (standing_of c.in_ok-recorder.recorder)) (sym says.none) says.opened;
      leads = says.opened;
    }

pub loop-unit-preserved : goal.loop-unit-preserved
loop-unit-preserved c =
    let img : Image = c.args.image.now in
    let config : Config = c.args.config in
    let old : Recorded = c.loop-unit.recorder in
    let new : Recorded = c.make_move.new.recorder in
    let moved = (c.if-not-make_move.ensures {u = tt}).made refl in
    let inv = c.loop-unit.invariant in
    let inside : c.loop-unit.unit-index < length c.args.path.now = omega arith in
    let full : is_full old.machine ≡ false = ap is_full (sym c.machine.ensures.machine) ∙ sym (c.if-is_full.ensures {u = tt}).full in
    let room = has_room old c.keeps.ensures.legal.here inv.few full in
    record {
      image = moved.image ∙ inv.image;
      config = moved.config ∙ inv.config;
      few = few_on img config c.args.most (opened_at img config 0) old new c.args.path.now c.loop-unit.unit-index _ inv.image inv.config inv.few inv.leads inside moved;
      short = more_accepted img config c.args.most old new c.args.path.now c.loop-unit.unit-index _ inv.image inv.config c.keeps.ensures.reached room inv.rest inside moved c.loop-unit.unit-index inv.short;
      rest = rest_on img config c.args.most old new c.args.path.now c.loop-unit.unit-index _ inv.image inv.config c.keeps.ensures.reached room inv.rest inside moved;
      plays = plays_on img config c.args.most (opened_at img config 0) old new _ inv.image inv.config moved inv.plays;
      leads = leads_on img config c.args.most (opened_at img config 0) old new c.args.path.now c.loop-unit.unit-index _ inv.image inv.config inv.few inv.leads inside moved;
    }

pub returns-then-is_full-clause-none : goal.returns-then-is_full-clause-none
returns-then-is_full-clause-none c = λ none t h.
    let old : Recorded = c.loop-unit.recorder in
    let inv = c.loop-unit.invariant in
    let inside : c.loop-unit.unit-index < length c.args.path.now = omega (arith, c.loop-unit-test.true) in
    let full : is_full old.machine ≡ true = ap is_full (sym c.machine.ensures.machine) ∙ sym (c.is_full.ensures.full) ∙ c.if-is_full.true in
    rest_room c.args.image.now c.args.config c.args.most old c.args.path.now c.loop-unit.unit-index (record { 0 = 0 }) inv.config inv.rest inside c.keeps.ensures.legal.here full t h

pub returns-then-not-make_move-clause-none : goal.returns-then-not-make_move-clause-none
returns-then-not-make_move-clause-none c = λ none t h.
    let old : Recorded = c.loop-unit.recorder in
    let inv = c.loop-unit.invariant in
    let inside : c.loop-unit.unit-index < length c.args.path.now = omega (arith, c.loop-unit-test.true) in
    let full : is_full old.machine ≡ false = ap is_full (sym c.machine.ensures.machine) ∙ sym (c.if-is_full.ensures {u = tt}).full in
    let room = has_room old c.keeps.ensures.legal.here inv.few full in
    rest_stuck c.args.image.now c.args.config c.args.most old c.args.path.now c.loop-unit.unit-index _ inv.config inv.rest inside inv.image
    ((c.if-not-make_move.ensures {u = tt}).passed refl) t h

pub returns-clause-only : goal.returns-clause-only
returns-clause-only c = at_end c.args.image.now c.args.config c.args.most c.args.path.now c.loop-unit.unit-index (standing_of c.loop-unit.recorder) (omega arith) c.loop-unit.invariant.rest
