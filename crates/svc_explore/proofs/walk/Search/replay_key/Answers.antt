use Rattle.std.proofs.Common.{◌≡◌, ◌≤◌, ◌∙◌, ℕ, List, Option, None, Some, IfSome, IsNone, IsSome, refl, ap, length, option_map, slice_get, subst, sym}
use Rattle.std.proofs.lemmas.Option.{same_Some}
use Rattle.std.specs.Map.Iter.{deref_pair}
use Rattle.svc_base.specs.declared.config.Config.{Config}
use Rattle.svc_base.specs.declared.ids.UnitId.{UnitId}
use Rattle.svc_image.specs.Image.{Image}
use Rattle.svc_machine_laws.specs.Standing.{opened_at}
use Rattle.svc_history.specs.Recorded.{Recorded, standing_of}
use Rattle.svc_explore.specs.declared.walk.Search.{Search}
use Rattle.svc_explore.specs.Counts.{IsMet, IsSound}
use Rattle.svc_explore.specs.Recorders.{GaveFew, Leads, LeadsOnly}
use Rattle.svc_explore.specs.Search.{IsLedBy, Place, key_at, path_at}
use Rattle.svc_explore.specs.Tries.{LeadsToKey}
use Rattle.svc_explore.proofs.Led.{led_by}
use Rattle.svc_explore.proofs.Permuting.{all_get}
use Rattle.svc_explore.proofs.walk.Search.replay_key.Goals as goal

-- the schedule of a key leads to it
met_at : (img : Image) (config : Config) (most : ℕ) (s : Search) (index : ℕ) (e : Place) (path : List UnitId) → IsSound img config most s
    → slice_get s.keys.entries index ≡ Some e → path ≡ path_at e → LeadsToKey img config most path (key_at e)
met_at img config most s index e path sound here is =
    subst (λ p. LeadsToKey img config most p (key_at e)) (sym is) (all_get (IsMet img config most) s.keys.entries sound.met.each index e here)

some_of : (o : Option Recorded) → (IsNone o → ⊥) → IsSome o
some_of None h = absurd (h refl)
some_of (Some r) h = refl

pub unwrap-there-requires : goal.unwrap-there-requires
unwrap-there-requires c =
    let place : Place = deref_pair c.unwrap.result in
    let here : slice_get c.args.self.now.keys.entries c.args.index ≡ Some place = sym c.get_index.ensures.entry ∙ ap (option_map deref_pair) c.unwrap.ensures in
    let met = met_at c.args.image.now c.args.config c.args.most c.args.self.now c.args.index place c.as_slice.result.now c.requires.sound here c.as_slice.ensures.value in
    some_of c.in_ok-replay.field-0 (λ none. c.in_ok-replay.ensures.none none met.standing met.leads)

pub returns-clause-image : goal.returns-clause-image
returns-clause-image c =
    subst (λ o. IfSome o (λ (r : Recorded). r.machine.image ≡ c.args.image.now)) c.unwrap-there.ensures c.in_ok-replay.ensures.image

pub returns-clause-config : goal.returns-clause-config
returns-clause-config c =
    subst (λ o. IfSome o (λ (r : Recorded). r.machine.config ≡ c.args.config)) c.unwrap-there.ensures c.in_ok-replay.ensures.config

pub returns-clause-led : goal.returns-clause-led
returns-clause-led c = λ e h.
    let img : Image = c.args.image.now in
    let config : Config = c.args.config in
    let most = c.args.most in
    let path : List UnitId = c.as_slice.result.now in
    let r : Recorded = c.unwrap-there.result in
    let says = c.in_ok-replay.ensures in
    let is : c.in_ok-replay.field-0 ≡ Some r = c.unwrap-there.ensures in
    let place : Place = deref_pair c.unwrap.result in
    let here : slice_get c.args.self.now.keys.entries c.args.index ≡ Some place = sym c.get_index.ensures.entry ∙ ap (option_map deref_pair) c.unwrap.ensures in
    subst (λ p. IsLedBy most p r) (c.as_slice.ensures.value ∙ ap path_at (same_Some place e (sym here ∙ h)))
    (led_by img config most path r
    (subst (λ o. IfSome o (λ (r : Recorded). r.machine.image ≡ img)) is says.image)
    (subst (λ o. IfSome o (λ (r : Recorded). r.machine.config ≡ config)) is says.config)
    (subst (λ o. IfSome o (λ (r : Recorded). GaveFew (standing_of r))) is says.few)
    (subst (λ o. IfSome o (λ (r : Recorded). (standing_of r).plain.accepted ≤ length path)) is says.short)
    (subst (λ o. IfSome o (λ (r : Recorded). Leads img config most (opened_at img config 0) path (standing_of r))) is says.leads)
    (subst (λ o. IfSome o (λ (r : Recorded). LeadsOnly img config most path (standing_of r))) is says.only))
