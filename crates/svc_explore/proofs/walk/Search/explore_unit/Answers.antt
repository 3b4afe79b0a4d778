use Rattle.std.proofs.Common.{◌≡◌, ◌≤◌, ◌∙◌, List, Some, ap, arith, subst, sym, slice_get, option_map, option_to_list, vec_items}
use Rattle.std.specs.Map.Iter.{deref_pair}
use Rattle.std.proofs.lemmas.Option.{same_Some}
use Rattle.svc_base.specs.declared.config.Config.{Config}
use Rattle.svc_history.specs.Recorded.{standing_of}
use Rattle.svc_image.specs.Image.{Image}
use Rattle.svc_explore_laws.specs.declared.observation.Observation.{Observation}
use Rattle.svc_explore.specs.Found.{are_seen}
use Rattle.svc_explore.specs.Search.{IsExploredBy, IsLedBy, Place, are_keys, path_at}
use Rattle.svc_explore.specs.Tries.{IsOff, LeadsToKey, Shows, ShowsIt, TriedBy}
use Rattle.svc_explore.proofs.Founding.{adds_grows, adds_witnessed, all_left, all_right, both_in}
use Rattle.svc_explore.proofs.Counting.{adds_met, adds_one}
use Rattle.svc_explore.proofs.Growing.{grows_trans, place_stays}
use Rattle.svc_explore.proofs.walk.Search.explore_unit.Goals as goal

pub returns-in-Rests-clause-explored : goal.returns-in-Rests-clause-explored
returns-in-Rests-clause-explored c = λ ok e h.
    let img : Image = c.args.there.now.machine.image in
    let config : Config = c.args.there.now.machine.config in
    let es : List Place = c.args.self.now.keys.entries in
    let found : List Observation = are_seen c.args.self.now.found.items in
    let here : slice_get es c.args.index ≡ Some (deref_pair c.unwrap.result) = sym c.get_index.ensures.entry ∙ ap (option_map deref_pair) c.unwrap.ensures in
    let led : IsLedBy c.args.most c.as_slice-path.result.now c.args.there.now =
    subst (λ p. IsLedBy c.args.most p c.args.there.now) (sym c.as_slice-path.ensures.value) (c.requires.led (deref_pair c.unwrap.result) here) in
    let tried = subst (TriedBy img config c.args.most c.as_slice-path.result.now c.args.unit.0) c.in-Rests.is (c.in_ok-try_unit.ensures.tried c.as_slice-path.result.now led.only) in
    subst (λ p. IsExploredBy img config c.args.most (are_keys es) found p c.args.unit.0)
    (c.as_slice-path.ensures.value ∙ ap path_at (same_Some (deref_pair c.unwrap.result) e (sym here ∙ h))) (tried (are_keys es) found)

pub returns-in_ok-note_key-in-Moves-clause-explored : goal.returns-in_ok-note_key-in-Moves-clause-explored
returns-in_ok-note_key-in-Moves-clause-explored c = λ ok e h.
    let img : Image = c.args.there.now.machine.image in
    let config : Config = c.args.there.now.machine.config in
    let es : List Place = c.args.self.now.keys.entries in
    let new : List Place = c.note_key.new.keys.entries in
    let mid : List Observation = are_seen c.note_seen.new.found.items in
    let found : List Observation = are_seen c.note_seen-in-Moves.new.found.items in
    let here : slice_get es c.args.index ≡ Some (deref_pair c.unwrap.result) = sym c.get_index.ensures.entry ∙ ap (option_map deref_pair) c.unwrap.ensures in
    let led : IsLedBy c.args.most c.as_slice-path.result.now c.args.there.now =
    subst (λ p. IsLedBy c.args.most p c.args.there.now) (sym c.as_slice-path.ensures.value) (c.requires.led (deref_pair c.unwrap.result) here) in
    let tried = subst (TriedBy img config c.args.most c.as_slice-path.result.now c.args.unit.0) c.in-Moves.is (c.in_ok-try_unit.ensures.tried c.as_slice-path.result.now led.only) in
    let was : slice_get es c.args.index ≡ Some e =
    place_stays img config c.args.most es new found found c.in_ok-note_key-in-Moves.ensures.grows (λ i x e. e) c.args.index e c.requires.inside h in
    subst (λ p. IsExploredBy img config c.args.most (are_keys new) found p c.args.unit.0)
    (c.as_slice-path.ensures.value ∙ ap path_at (same_Some (deref_pair c.unwrap.result) e (sym here ∙ was)))
    (tried (are_keys new) found
    (both_in c.in-Moves.happened c.in-Moves.squashed mid found
    (adds_grows c.note_seen.new.found.items c.note_seen-in-Moves.new.found.items c.in-Moves.squashed c.as_slice-path.result.now c.args.unit c.in_ok-note_seen-in-Moves-2.ensures.adds)
    c.in_ok-note_seen-in-Moves.ensures.listed c.in_ok-note_seen-in-Moves-2.ensures.listed)
    c.in_ok-note_key-in-Moves.ensures.listed)

pub returns-in_ok-note_key-in-Moves-clause-found : goal.returns-in_ok-note_key-in-Moves-clause-found
returns-in_ok-note_key-in-Moves-clause-found c =
    grows_trans (are_seen c.args.self.now.found.items) (are_seen c.note_seen.new.found.items) (are_seen c.note_seen-in-Moves.new.found.items)
    (adds_grows c.args.self.now.found.items c.note_seen.new.found.items c.in-Moves.happened c.as_slice-path.result.now c.args.unit c.in_ok-note_seen-in-Moves.ensures.adds)
    (adds_grows c.note_seen.new.found.items c.note_seen-in-Moves.new.found.items c.in-Moves.squashed c.as_slice-path.result.now c.args.unit c.in_ok-note_seen-in-Moves-2.ensures.adds)

pub returns-in_ok-note_key-in-Moves-clause-sound : goal.returns-in_ok-note_key-in-Moves-clause-sound
returns-in_ok-note_key-in-Moves-clause-sound c =
    let img : Image = c.args.there.now.machine.image in
    let config : Config = c.args.there.now.machine.config in
    let most = c.args.most in
    let path = c.as_slice-path.result.now in
    let here : slice_get c.args.self.now.keys.entries c.args.index ≡ Some (deref_pair c.unwrap.result) = sym c.get_index.ensures.entry ∙ ap (option_map deref_pair) c.unwrap.ensures in
    let led : IsLedBy most path c.args.there.now =
    subst (λ p. IsLedBy most p c.args.there.now) (sym c.as_slice-path.ensures.value) (c.requires.led (deref_pair c.unwrap.result) here) in
    let told = subst (ShowsIt img config most path c.args.unit) c.in-Moves.is (c.in_ok-try_unit.ensures.shown path led.leads) in
    let shown = told.0 in
    let happened : List Observation = option_to_list c.in-Moves.happened in
    let squashed : List Observation = option_to_list c.in-Moves.squashed in
    let P : Observation → Type 0 = Shows img config most path c.args.unit.0 in
    let leads : LeadsToKey img config most (vec_items c.in_ok-next-in-Moves.next) (vec_items c.in-Moves.key) =
    subst (λ p. LeadsToKey img config most p (vec_items c.in-Moves.key)) (sym c.in_ok-next-in-Moves.ensures) told.1 in
    let adds = c.in_ok-note_key-in-Moves.ensures.adds in
    let old = c.args.self.now.keys.entries in
    let new = c.note_key.new.keys.entries in
    let one = adds_one old new c.in-Moves.key c.in_ok-next-in-Moves.next adds in
    record {
      witnessed =
          adds_witnessed img config most c.note_seen.new.found.items c.note_seen-in-Moves.new.found.items c.in-Moves.squashed path c.args.unit c.in_ok-note_seen-in-Moves-2.ensures.adds
          (all_right P happened squashed shown)
          (adds_witnessed img config most c.args.self.now.found.items c.note_seen.new.found.items c.in-Moves.happened path c.args.unit c.in_ok-note_seen-in-Moves.ensures.adds
          (all_left P happened squashed shown) c.requires.sound.witnessed);
      met = adds_met img config most old new c.in-Moves.key c.in_ok-next-in-Moves.next adds leads c.requires.sound.met;
      moved = let was = c.requires.sound.moved in omega (arith, was, one);
      mover_image = c.try_unit.ensures.image;
      mover_config = c.try_unit.ensures.config;
    }

pub returns-in-Rests-clause-sound : goal.returns-in-Rests-clause-sound
returns-in-Rests-clause-sound c = record {
  witnessed = c.requires.sound.witnessed;
  met = c.requires.sound.met;
  moved = c.requires.sound.moved;
  mover_image = c.try_unit.ensures.image;
  mover_config = c.try_unit.ensures.config;
}

pub returns-in-Off-clause-sound : goal.returns-in-Off-clause-sound
returns-in-Off-clause-sound c = record {
  witnessed = c.requires.sound.witnessed;
  met = c.requires.sound.met;
  moved = c.requires.sound.moved;
  mover_image = c.try_unit.ensures.image;
  mover_config = c.try_unit.ensures.config;
}

pub returns-in-Off-clause-stopped : goal.returns-in-Off-clause-stopped
returns-in-Off-clause-stopped c = λ _.
    let config : Config = c.args.there.now.machine.config in
    let es : List Place = c.args.self.now.keys.entries in
    let place : Place = deref_pair c.unwrap.result in
    let here : slice_get es c.args.index ≡ Some place = sym c.get_index.ensures.entry ∙ ap (option_map deref_pair) c.unwrap.ensures in
    let led : IsLedBy c.args.most (path_at place) c.args.there.now = c.requires.led place here in
    let off = subst (λ t. IsOff t → config.events ≤ (standing_of c.args.there.now).plain.accepted) c.in-Off.is c.in_ok-try_unit.ensures.off in
    let full : config.events ≤ (standing_of c.args.there.now).plain.accepted = off tt in
    let short = led.short in
    record { index = c.args.index; place = place; there = here; full = omega (arith, full, short) }
