-- Which slips and which history make an outcome.
use Rattle.std.specs.Prelude.{◌≡◌, ◌⊎◌, ℕ, zero, suc, ◌==◌, ◌≤◌, ◌<◌, cond, List, [], ◌∷◌, length, drop, get_or}
use Rattle.svc_base.specs.declared.config.Config.{Config}
use Rattle.svc_image.specs.Image.{Image}
use Rattle.svc_history_laws.specs.declared.entry.Entry.{Entry}
use Rattle.svc_history_laws.specs.declared.entry.Slip.{Slip}
use Rattle.svc_history.specs.Recorded.{Recorded, IsLegal}
use Rattle.svc_threads.specs.declared.fault.RunError.{RunError}
use Rattle.svc_threads.specs.declared.fault.RunError.TheVariants.{ForeignImage, Torn}

abbrev pub slip_at : (index : ℕ) → Entry → Slip
slip_at index e = record { index = index; entry = e }

-- the entries of one unit with their indexes, the first entry having this index
abbrev pub slips_from : (index unit : ℕ) → List Entry → List Slip
slips_from index unit [] = []
slips_from index unit (e ∷ es) =
    cond (e.unit.0 == unit) (slip_at index e ∷ slips_from (suc index) unit es) (slips_from (suc index) unit es)

-- the slips of a unit: the entries that it asked for, with their indexes, in order
abbrev pub slips_of : (unit : ℕ) → List Entry → List Slip
slips_of unit es = slips_from 0 unit es

-- the same for each of n units, from one on: a list for each
abbrev pub lists_from : (unit units : ℕ) → List Entry → List (List Slip)
lists_from unit zero es = []
lists_from unit (suc n) es = slips_of unit es ∷ lists_from (suc unit) n es

-- there is one list for each unit, which is that unit's entries with their indexes, in order
abbrev pub AreTheUnits : Recorded → List (List Slip) → Type 0
AreTheUnits r lists = lists ≡ lists_from 0 r.machine.config.units r.entries

-- the recorder is one of this image and configuration
abbrev pub IsGiven : Image → Config → Recorded → Type 0
IsGiven image config r = (r.machine.image ≡ image) × (r.machine.config ≡ config)

-- a legal history of this image and configuration, with each unit's slips as its entries
pub record IsOutcome (image : Image) (config : Config) (r : Recorded) (lists : List (List Slip)) : Type 0 where
  pub given : IsGiven image config r
  pub legal : IsLegal r
  pub units : AreTheUnits r lists

-- why there is no outcome: the image or configuration is another one, or the lists aren't the units'
abbrev pub IsNoOutcome : Image → Config → Recorded → List (List Slip) → RunError → Type 0
IsNoOutcome image config r lists why =
    ((why ≡ ForeignImage) × ¬ (IsGiven image config r))
    ⊎ ((why ≡ Torn) × IsGiven image config r × ¬ (AreTheUnits r lists))

-- what is left of a unit's slips from a place on is what is left of the history from an index on
abbrev pub Left : ℕ → ℕ → List Entry → ℕ → List Slip → Type 0
Left unit index entries next slips = drop next slips ≡ slips_from index unit (drop index entries)

-- the slips up to a place are the unit's entries up to an index; so all agree exactly when the rest does
pub record AgreesTo (unit index : ℕ) (entries : List Entry) (next : ℕ) (slips : List Slip) : Type 0 where
  pub within : next ≤ length slips
  pub hangs :
      ((slips ≡ slips_of unit entries) → Left unit index entries next slips)
      × (Left unit index entries next slips → (slips ≡ slips_of unit entries))

-- the same of each unit's list
abbrev pub AllAgreeTo : ℕ → List Entry → List ℕ → List (List Slip) → Type 0
AllAgreeTo index entries ends lists =
    (unit : ℕ) → unit < length lists → AgreesTo unit index entries (get_or ends unit 0) (get_or lists unit [])
