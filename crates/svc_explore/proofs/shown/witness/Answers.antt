use Rattle.std.proofs.Common.{◌≡◌, List, Some, IfSome, subst, sym}
use Rattle.svc_base.specs.declared.ids.UnitId.{UnitId}
use Rattle.svc_base.specs.declared.config.Config.{Config}
use Rattle.svc_image.specs.Image.{Image}
use Rattle.svc_machine_laws.specs.Standing.{opened_at}
use Rattle.svc_history.specs.Recorded.{Recorded, standing_of}
use Rattle.svc_explore.specs.Recorders.{GaveFew, LeadsOnly, PlaysTo}
use Rattle.svc_explore.specs.Tries.{Shows}
use Rattle.svc_explore.proofs.Witnessing.{has_moved, is_witness, room_here}
use Rattle.svc_explore.proofs.shown.witness.Goals as goal

pub make_move-made-requires : goal.make_move-made-requires
make_move-made-requires c =
    let img : Image = c.args.image.now in
    let config : Config = c.args.config in
    let most = c.args.burst in
    let r : Recorded = c.unwrap-recorder.result in
    let says = c.in_ok-replay.ensures in
    let is : c.in_ok-replay.field-0 ≡ Some r = c.unwrap-recorder.ensures in
    let path : List UnitId = c.as_slice.result.now in
    let shows : Shows img config most path c.args.seen.now.last.0 c.args.seen.now.what =
    subst (λ p. Shows img config most p c.args.seen.now.last.0 c.args.seen.now.what) (sym c.as_slice.ensures.value) c.requires.shown in
    record {
      room = room_here img config most path c.args.seen.now.last.0 c.args.seen.now.what shows r
          (subst (λ o. IfSome o (λ (r : Recorded). r.machine.image ≡ img)) is says.image)
          (subst (λ o. IfSome o (λ (r : Recorded). r.machine.config ≡ config)) is says.config)
          (subst (λ o. IfSome o (λ (r : Recorded). LeadsOnly img config most path (standing_of r))) is says.only)
          c.keeps.ensures.legal.here
          (subst (λ o. IfSome o (λ (r : Recorded). GaveFew (standing_of r))) is says.few);
    }

pub returns : goal.returns
returns c =
    let img : Image = c.args.image.now in
    let config : Config = c.args.config in
    let most = c.args.burst in
    let r : Recorded = c.unwrap-recorder.result in
    let new : Recorded = c.make_move-made.new.recorder in
    let says = c.in_ok-replay.ensures in
    let is : c.in_ok-replay.field-0 ≡ Some r = c.unwrap-recorder.ensures in
    let path : List UnitId = c.as_slice.result.now in
    let unit = c.args.seen.now.last.0 in
    let o = c.args.seen.now.what in
    let shows : Shows img config most path unit o = subst (λ p. Shows img config most p unit o) (sym c.as_slice.ensures.value) c.requires.shown in
    let image_is = subst (λ o. IfSome o (λ (r : Recorded). r.machine.image ≡ img)) is says.image in
    let config_is = subst (λ o. IfSome o (λ (r : Recorded). r.machine.config ≡ config)) is says.config in
    let only = subst (λ o. IfSome o (λ (r : Recorded). LeadsOnly img config most path (standing_of r))) is says.only in
    let few = subst (λ o. IfSome o (λ (r : Recorded). GaveFew (standing_of r))) is says.few in
    let plays = subst (λ o. IfSome o (λ (r : Recorded). PlaysTo img config most (opened_at img config 0) r.entries (standing_of r))) is says.plays in
    let room = room_here img config most path unit o shows r image_is config_is only c.keeps.ensures.legal.here few in
    is_witness img config most path unit o shows r image_is config_is only c.start-start.ensures.sound c.keeps.ensures.reached room plays new
    (has_moved img config most path unit o shows r image_is config_is only new c.make_move-made.result c.make_move-made.ensures.made c.make_move-made.ensures.passed)
    c.entries-legal.ensures.legal
