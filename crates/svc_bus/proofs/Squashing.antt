-- A squash on the bus.
use Rattle.std.proofs.Common.{◌≡◌, ◌∙◌, refl, sym, subst, ap, ap₂, ℕ, zero, suc, ◌<◌, ◌≤◌, Bool, true, false, cond, ◌&&◌, Option, None, List, length, get_or, take, lt-ltb, arith, eq-eqb, inl, true≢false}
use Rattle.svc_line.specs.Line.{SeenLine}
use Rattle.svc_cache.specs.Lines.{squash_line}
use Rattle.svc_cache.specs.Places.{CacheValue}
use Rattle.svc_bus_laws.specs.LineTable.{LineTable, is_cut, unit_at}
use Rattle.svc_bus_laws.specs.Steps.{squash}
use Rattle.svc_bus_laws.specs.BusLine.{is_active_line}
use Rattle.svc_bus_laws.specs.BusState.{Agrees}
use Rattle.svc_bus_laws.specs.BusSteps.{bus_squash}
use Rattle.svc_bus_laws.specs.Refusals.{is_head}
use Rattle.svc_bus_laws.proofs.AgreeSteps.{squash_agrees}
use Rattle.svc_links_laws.proofs.LinkedBuses.{squash_bus}
use Rattle.svc_vol.proofs.Validity.{HasV, line_valid}
use Rattle.svc_vcl.specs.Described.{bus_line_of}
use Rattle.svc_retire.specs.Caches.{cache_at, held_line, SameSizes}
use Rattle.svc_bus.specs.Lines.{link_in}
use Rattle.svc_bus.specs.Value.{BusValue, IsSoundBus, state_in}
use Rattle.svc_bus.proofs.Agreeing.{IsStep, place_is, step_agrees, step_linked}
use Rattle.svc_bus.proofs.Keeping.{kept_bus}
use Rattle.svc_bus.proofs.Shown.{squashed_shown, link_stays, squash_stays, Stays}

-- a task that isn't the head stands above it
pub later_place : (units : List ℕ) (u n : ℕ) → is_head units u ≡ false → n < length units → get_or units n 0 ≡ u → 0 < n
later_place units u (suc n) later within is = omega arith
later_place units u zero later within is = absurd (true≢false (sym (ap₂ (λ x y. x && y) (lt-ltb 0 (length units) within) (eq-eqb (get_or units 0 0) u is)) ∙ later))

-- a line that is cut, if it is, as callers see it
pub cut_shown : (cut : Bool) (line : Option SeenLine) → HasV line → bus_line_of (cond cut (squash_line line) line) ≡ cond (cut && is_active_line (bus_line_of line)) None (bus_line_of line)
cut_shown true line valid = squashed_shown line valid
cut_shown false line valid = refl

pub cut_stays : (cut : Bool) (line : Option SeenLine) → Stays (cond cut (squash_line line) line) line
cut_stays true line = squash_stays line
cut_stays false line = inl refl

module _ (b : BusValue) (caches : List CacheValue) (n : ℕ) (sound : IsSoundBus b) (above : 0 < n) (within : n < length b.units) (sizes : SameSizes b.caches caches)
    (lines : (u a : ℕ) → held_line caches u a ≡ cond (is_cut b.units n u) (squash_line (held_line b.caches u a)) (held_line b.caches u a)) where
  abbrev squashed : BusValue
  squashed = record b { caches = caches; units = take n b.units }

  few : n ≤ length b.units
  few = omega (arith, within)

  is_step : IsStep squashed (bus_squash (state_in b) n) (link_in b.caches)
  is_step = record {
    bus = squash_bus (state_in b) (link_in b.caches) n sound.linked above few;
    same = record {
      caches = sizes.count;
      sets = sizes.sets 0;
      ways = sizes.ways 0;
      words = refl;
      lines = λ u a. ap bus_line_of (lines u a) ∙ cut_shown (is_cut b.units n u) (held_line b.caches u a) (line_valid (cache_at b.caches u) a);
      spill = λ a. refl;
      backing = λ a. refl;
      commits = refl;
      units = refl;
    };
    kept = λ u a e. link_stays (held_line caches u a) (held_line b.caches u a) (subst (λ (l : Option SeenLine). Stays l (held_line b.caches u a)) (sym (lines u a)) (cut_stays (is_cut b.units n u) (held_line b.caches u a))) e;
  }

  pub squashed_bus : IsSoundBus squashed
  squashed_bus = kept_bus b squashed sound (record { caches = sizes; spill = refl; backing = refl }) (step_linked squashed (bus_squash (state_in b) n) (link_in b.caches) is_step) sound.few_commits

  pub squashed_table : (t : LineTable) (place : ℕ) → Agrees (state_in b) t → place < length t.units → unit_at t place ≡ get_or b.units n 0 → Agrees (state_in squashed) (squash t place)
  squashed_table t place agrees here is = subst (λ q. Agrees (state_in squashed) (squash t q)) (sym (place_is b t agrees n place sound within here is))
      (step_agrees squashed (bus_squash (state_in b) n) (link_in b.caches) is_step (squash t n) (squash_agrees (state_in b) t n agrees above (subst (λ us. n ≤ length us) agrees.units few)))
