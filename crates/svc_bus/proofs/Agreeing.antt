-- A call shows that its lines and links are those of its step. Then it keeps the bus in agreement with every table.
use Rattle.std.proofs.Common.{◌≡◌, sym, subst, ap, ◌∙◌, ℕ, ◌<◌, true, Option, length, get_or}
use Rattle.svc_bus_laws.specs.BusLine.{is_dirty_line}
use Rattle.svc_bus_laws.specs.LineTable.{LineTable, unit_at}
use Rattle.svc_bus_laws.specs.BusState.{Agrees, BusState, SameBus}
use Rattle.svc_bus_laws.proofs.SoundSeen.{same_agrees}
use Rattle.svc_links_laws.specs.LinkedBus.{IsLinkedBus, SameButOrder}
use Rattle.svc_links_laws.proofs.LinkedBuses.{relinked_bus, same_by_links}
use Rattle.svc_bus.specs.Lines.{line_in, link_in}
use Rattle.svc_bus.specs.Value.{BusValue, IsSoundBus, state_in}
use Rattle.svc_bus.proofs.Knowing.{units_apart}

-- what a call shows of the state and the links that its step leaves
pub record IsStep (new : BusValue) (after : BusState) (links : ℕ → ℕ → Option ℕ) : Type 0 where
  pub bus : IsLinkedBus after links
  pub same : SameButOrder (state_in new) after
  pub kept : (u a : ℕ) → is_dirty_line (line_in new.caches u a) ≡ true → link_in new.caches u a ≡ links u a

module _ (new : BusValue) (after : BusState) (links : ℕ → ℕ → Option ℕ) (is : IsStep new after links) where
  both : SameBus after (state_in new) × IsLinkedBus (state_in new) (link_in new.caches)
  both = same_by_links (state_in new) after (link_in new.caches) (relinked_bus after links (link_in new.caches) is.bus (λ u a e. is.kept u a (ap is_dirty_line (is.same.lines u a) ∙ e))) is.same

  pub step_linked : IsLinkedBus (state_in new) (link_in new.caches)
  step_linked = both.1

  -- a table that the step's state agrees with is one of the new bus
  pub step_agrees : (t : LineTable) → Agrees after t → Agrees (state_in new) t
  step_agrees t agrees = same_agrees after (state_in new) t both.0 agrees

-- the unit's task stands at one place
pub place_is : (b : BusValue) (t : LineTable) → Agrees (state_in b) t → (p place : ℕ) → IsSoundBus b → p < length b.units → place < length t.units → unit_at t place ≡ get_or b.units p 0 → place ≡ p
place_is b t agrees p place sound here within is =
    units_apart b sound place p (subst (λ us. place < length us) (sym agrees.units) within) here (ap (λ us. get_or us place 0) agrees.units ∙ is)
