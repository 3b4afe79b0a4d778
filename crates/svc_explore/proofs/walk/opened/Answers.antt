use Rattle.std.proofs.Common.{◌≡◌, List, [], ap, arith, length, refl, subst, sym, vec_items}
use Rattle.svc_base.specs.declared.config.Config.{Config}
use Rattle.svc_image.specs.Image.{Image}
use Rattle.svc_machine_laws.specs.Standing.{opened_at}
use Rattle.svc_explore.specs.Search.{Place}
use Rattle.svc_explore.specs.Recorders.{Leads}
use Rattle.svc_explore.specs.Tries.{LeadsToKey}
use Rattle.svc_explore.proofs.Counting.{adds_met, adds_one, none_met}
use Rattle.svc_explore.proofs.Founding.{none_witnessed}
use Rattle.svc_explore.proofs.Led.{opening_key}
use Rattle.svc_explore.proofs.walk.opened.Goals as goal

pub returns-clause-opening : goal.returns-clause-opening
returns-clause-opening c = record {
  key = vec_items c.in_ok-key.key;
  has_key = opening_key c.args.image.now c.args.config c.in_ok-mover.mover c.in_ok-mover.ensures.image c.in_ok-mover.ensures.config c.in_ok-mover.ensures.opened (vec_items c.in_ok-key.key) c.in_ok-key.ensures;
  listed = c.in_ok-note_key.ensures.listed;
}

pub returns-clause-sound : goal.returns-clause-sound
returns-clause-sound c = λ most.
    let img : Image = c.args.image.now in
    let config : Config = c.args.config in
    let old : List Place = c.new-keys.result.entries in
    let new : List Place = c.note_key.new.keys.entries in
    let none : old ≡ [] = c.new-keys.ensures.empty in
    let path = c.new.result in
    let key = c.in_ok-key.key in
    let adds = c.in_ok-note_key.ensures.adds in
    let one = adds_one old new key path adds in
    let leads : LeadsToKey img config most (vec_items path) (vec_items key) = record {
      standing = opened_at img config 0;
      leads = subst (λ p. Leads img config most (opened_at img config 0) p (opened_at img config 0)) (sym c.new.ensures.items) refl;
      has_key = opening_key img config c.in_ok-mover.mover c.in_ok-mover.ensures.image c.in_ok-mover.ensures.config c.in_ok-mover.ensures.opened (vec_items key) c.in_ok-key.ensures;
    } in
    record {
      witnessed = none_witnessed img config most c.new-2.result.items c.new-2.ensures.items;
      met = adds_met img config most old new key path adds leads (none_met img config most old none);
      moved = let zero_long = ap length none in omega (arith, one, zero_long);
      mover_image = c.in_ok-mover.ensures.image;
      mover_config = c.in_ok-mover.ensures.config;
    }
