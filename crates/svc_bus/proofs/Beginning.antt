-- A beginning on the bus.
use Rattle.std.proofs.Common.{◌≢◌, refl, sym, subst, ap, ◌∙◌, ℕ, ◌<◌, [], ◌∷◌, ◌++◌, length, get_or, arith}
use Rattle.std.specs.List.{Contains}
use Rattle.svc_vol.specs.declared.list.TheConstants.{CAPACITY}
use Rattle.svc_bus_laws.specs.LineTable.{LineTable}
use Rattle.svc_bus_laws.specs.Steps.{begin}
use Rattle.svc_bus_laws.specs.BusState.{Agrees}
use Rattle.svc_bus_laws.specs.BusSteps.{bus_begin}
use Rattle.svc_bus_laws.proofs.AgreeSteps.{begin_agrees}
use Rattle.svc_links_laws.proofs.LinkedBuses.{begin_bus}
use Rattle.svc_retire.proofs.Listing.{read_item}
use Rattle.svc_bus.specs.Lines.{link_in}
use Rattle.svc_bus.specs.Value.{BusValue, IsSoundBus, state_in}
use Rattle.svc_bus.specs.Calls.{IsAtWork}
use Rattle.svc_bus.proofs.Agreeing.{IsStep, step_agrees, step_linked}
use Rattle.svc_bus.proofs.Keeping.{kept_bus}
use Rattle.svc_bus.proofs.Knowing.{units_apart, units_known}
use Rattle.svc_bus.proofs.Places.{has_place}

module _ (b : BusValue) (u : ℕ) (sound : IsSoundBus b) (known : u < length b.caches) (idle : IsAtWork (state_in b) u → ⊥) where
  idle_unit : (p : ℕ) → p < length b.units → get_or b.units p 0 ≢ u
  idle_unit p within is = idle (p, record { within = within; unit_is = is })

  -- the queue has room for the new task, and doesn't hold the unit
  pub begin_room : length b.units < CAPACITY
  begin_room =
      let less : length b.units < length b.caches = has_place b.units (length b.caches) u known (units_known b sound) (units_apart b sound) idle_unit in
      let few = sound.few_caches in
      omega (arith, less, few)

  pub begin_idle : Contains b.units u → ⊥
  begin_idle (p, within, is) = idle_unit p within (read_item b.units p u 0 (sym is) within)

  abbrev begun : BusValue
  begun = record b { units = b.units ++ u ∷ [] }

  is_step : IsStep begun (bus_begin (state_in b) u) (link_in b.caches)
  is_step = record {
    bus = begin_bus (state_in b) (link_in b.caches) u sound.linked known idle_unit;
    same = record { caches = refl; sets = refl; ways = refl; words = refl; lines = λ v a. refl; spill = λ a. refl; backing = λ a. refl; commits = refl; units = refl };
    kept = λ v a e. refl;
  }

  pub begun_bus : IsSoundBus begun
  begun_bus = kept_bus b begun sound (record { caches = record { count = refl; sets = λ v. refl; ways = λ v. refl }; spill = refl; backing = refl }) (step_linked begun (bus_begin (state_in b) u) (link_in b.caches) is_step) sound.few_commits

  pub begun_table : (t : LineTable) → Agrees (state_in b) t → Agrees (state_in begun) (begin t u)
  begun_table t agrees = step_agrees begun (bus_begin (state_in b) u) (link_in b.caches) is_step (begin t u)
      (begin_agrees (state_in b) t u agrees (subst (λ n. u < n) agrees.caches known)
      (λ p within at. idle_unit p (subst (λ us. p < length us) (sym agrees.units) within) (ap (λ us. get_or us p 0) agrees.units ∙ at)))
