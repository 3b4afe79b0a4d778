-- A recorder that stands where a schedule leads.
use Rattle.std.proofs.Common.{◌≡◌, ◌<◌, ◌≤◌, ℕ, List, length, sym, subst}
use Rattle.svc_base.specs.declared.config.Config.{Config}
use Rattle.svc_base.specs.declared.ids.UnitId.{UnitId}
use Rattle.svc_image.specs.Image.{Image}
use Rattle.svc_machine_laws.specs.Standing.{Standing, opened_at}
use Rattle.svc_history.specs.Recorded.{Recorded, standing_of}
use Rattle.svc_explore.specs.Recorders.{GaveFew, Leads, LeadsOnly}
use Rattle.svc_explore_laws.specs.declared.observation.Observation.{Observation}
use Rattle.svc_explore.specs.declared.walk.Search.{Search}
use Rattle.svc_explore.specs.Counts.{IsSound}
use Rattle.svc_explore.specs.KeyWords.{HasKey}
use Rattle.svc_explore.specs.Search.{GrowsTo, IsExploredAt, IsLedBy, IsLedThere, Place}
use Rattle.svc_explore.proofs.Growing.{place_stays}

pub led_by : (img : Image) (config : Config) (most : ℕ) (path : List UnitId) (r : Recorded) → r.machine.image ≡ img → r.machine.config ≡ config
    → GaveFew (standing_of r) → (standing_of r).plain.accepted ≤ length path
    → Leads img config most (opened_at img config 0) path (standing_of r) → LeadsOnly img config most path (standing_of r)
    → IsLedBy most path r
led_by img config most path r image same few short leads only = record {
  few = few;
  short = short;
  leads =
      subst (λ (i : Image). Leads i r.machine.config most (opened_at i r.machine.config 0) path (standing_of r)) (sym image)
      (subst (λ (g : Config). Leads img g most (opened_at img g 0) path (standing_of r)) (sym same) leads);
  only =
      subst (λ (i : Image). LeadsOnly i r.machine.config most path (standing_of r)) (sym image)
      (subst (λ (g : Config). LeadsOnly img g most path (standing_of r)) (sym same) only);
}

-- more keys change nothing about it
pub led_stays : (img : Image) (config : Config) (most : ℕ) (places more : List Place) (found : List Observation) (index : ℕ) (r : Recorded)
    → GrowsTo places more → index < length places → IsLedThere most places index r → IsLedThere most more index r
led_stays img config most places more found index r grows inside led e here =
    led e (place_stays img config most places more found found grows (λ i x h. h) index e inside here)

-- its image and configuration by their names
module _ (img : Image) (config : Config) (most : ℕ) (r : Recorded) (image : r.machine.image ≡ img) (same : r.machine.config ≡ config) where
  pub sound_of : (s : Search) → IsSound r.machine.image r.machine.config most s → IsSound img config most s
  sound_of s h = subst (λ (g : Config). IsSound img g most s) same (subst (λ (i : Image). IsSound i r.machine.config most s) image h)

  pub sound_there : (s : Search) → IsSound img config most s → IsSound r.machine.image r.machine.config most s
  sound_there s h =
      subst (λ (i : Image). IsSound i r.machine.config most s) (sym image) (subst (λ (g : Config). IsSound img g most s) (sym same) h)

  pub explored_of : (places : List Place) (found : List Observation) (index unit : ℕ)
      → IsExploredAt r.machine.image r.machine.config most places found index unit → IsExploredAt img config most places found index unit
  explored_of places found index unit h =
      subst (λ (g : Config). IsExploredAt img g most places found index unit) same
      (subst (λ (i : Image). IsExploredAt i r.machine.config most places found index unit) image h)

-- the key of a recorder before any event is that of the opening
pub opening_key : (img : Image) (config : Config) (r : Recorded) → r.machine.image ≡ img → r.machine.config ≡ config → standing_of r ≡ opened_at img config 0
    → (key : List ℕ) → HasKey r.machine.image r.machine.config (standing_of r) key → HasKey img config (opened_at img config 0) key
opening_key img config r image same opened key has =
    subst (λ (s : Standing). HasKey img config s key) opened
    (subst (λ (g : Config). HasKey img g (standing_of r) key) same (subst (λ (i : Image). HasKey i r.machine.config (standing_of r) key) image has))
