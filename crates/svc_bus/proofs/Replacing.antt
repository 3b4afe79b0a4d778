-- A replacement on the bus.
use Rattle.std.proofs.Common.{◌≡◌, ◌∙◌, refl, sym, ap, subst, ℕ, ◌≤◌, ◌^◌, Bool, true, false, cond, not, ◌&&◌, Option, Some, None, get_or, inl, inr}
use Rattle.std.specs.Bool.{◌==◌}
use Rattle.std.specs.Option.{option_or}
use Rattle.svc_line.specs.Line.{SeenLine}
use Rattle.svc_bus_laws.specs.LineTable.{LineTable}
use Rattle.svc_bus_laws.specs.Steps.{with_at, replace}
use Rattle.svc_bus_laws.specs.BusLine.{BusLine, is_active_line, version_of_line}
use Rattle.svc_bus_laws.specs.BusLine as shown
use Rattle.svc_bus_laws.specs.BusState.{Agrees}
use Rattle.svc_bus_laws.specs.BusSteps.{bus_replace}
use Rattle.svc_bus_laws.specs.Refusals.{bus_cache, is_head, is_pinned}
use Rattle.svc_bus_laws.proofs.RefusalProofs.{same_pinned}
use Rattle.svc_bus_laws.proofs.AgreeReads.{replace_agrees}
use Rattle.svc_links_laws.proofs.LinkedBuses.{replace_bus}
use Rattle.svc_vol.proofs.Validity.{HasV, line_valid}
use Rattle.svc_vcl.specs.Described.{bus_line_of}
use Rattle.svc_retire.specs.Caches.{cache_at, held_line}
use Rattle.svc_retire.specs.Purges.{committed_in, purged_line}
use Rattle.svc_bus.specs.Lines.{line_in, link_in, with_line}
use Rattle.svc_bus.specs.Value.{BusValue, IsSoundBus, state_in}
use Rattle.svc_bus.proofs.Agreeing.{IsStep, step_agrees, step_linked}
use Rattle.svc_bus.proofs.Keeping.{KeepsSizes, kept_bus}
use Rattle.svc_bus.proofs.Knowing.{committed_is}
use Rattle.svc_bus.proofs.Shown.{some_shown, purged_shown, link_stays, purge_stays, Stays}

-- what the body does to the unit's line of the word
pub record IsReplaced (old new : BusValue) (unit word : ℕ) (line : SeenLine) : Type 0 where
  pub here : held_line old.caches unit word ≡ Some line
  pub valid : line.bits.valid ≡ true
  pub free : (not line.bits.commit && not (is_head old.units unit)) ≡ false
  pub lines : (u a : ℕ) → held_line new.caches u a ≡ with_line (held_line old.caches) unit word None purged_line u a
  pub memory : (a : ℕ) → get_or new.backing a 0 ≡ with_at (λ x. get_or old.backing x 0) word (committed_in old.caches old.backing word) a
  pub versions : (a : ℕ) → get_or new.spill a None ≡ with_at (λ x. get_or old.spill x None) word (option_or (version_of_line (bus_line_of (Some line))) (get_or old.spill word None)) a
  pub sizes : KeepsSizes old new
  pub commits : new.commits ≡ old.commits
  pub units : new.units ≡ old.units

-- ---- one line put, and the word's others purged

pub put_shown : (here own : Bool) (line old : Option SeenLine) → HasV old → bus_line_of (cond here (cond own line (purged_line old)) old) ≡ cond here (cond own (bus_line_of line) (shown.purged_line (bus_line_of old))) (bus_line_of old)
put_shown false own line old valid = refl
put_shown true true line old valid = refl
put_shown true false line old valid = purged_shown old valid

pub put_stays : (here own : Bool) (line old : Option SeenLine) → (here && own) ≡ false → Stays (cond here (cond own line (purged_line old)) old) old
put_stays false own line old other = inl refl
put_stays true false line old other = purge_stays old
put_stays true true line old other = cc

module _ (old new : BusValue) (unit word : ℕ) (line : SeenLine) (sound : IsSoundBus old) (is : IsReplaced old new unit word line) where
  own_shown : line_in old.caches unit word ≡ bus_line_of (Some line)
  own_shown = ap bus_line_of is.here

  unpinned : is_pinned (bus_cache (state_in old) unit) old.units unit word ≡ false
  unpinned = ap (λ (l : Option BusLine). is_active_line l && not (is_head old.units unit)) (own_shown ∙ some_shown line is.valid) ∙ is.free

  -- nothing is left of the unit's line, so its link says nothing
  all_stay : (here own : Bool) (l : Option SeenLine) → Stays (cond here (cond own None (purged_line l)) l) l
  all_stay false own l = inl refl
  all_stay true false l = purge_stays l
  all_stay true true l = inr refl

  is_step : IsStep new (bus_replace (state_in old) unit word) (link_in old.caches)
  is_step = record {
    bus = replace_bus (state_in old) (link_in old.caches) unit word sound.linked unpinned;
    same = record {
      caches = is.sizes.caches.count;
      sets = is.sizes.caches.sets 0;
      ways = is.sizes.caches.ways 0;
      words = is.sizes.backing;
      lines = λ u a. ap bus_line_of (is.lines u a) ∙ put_shown (a == word) (u == unit) None (held_line old.caches u a) (line_valid (cache_at old.caches u) a);
      spill = λ a. is.versions a ∙ ap (λ (l : Option BusLine). with_at (λ x. get_or old.spill x None) word (option_or (version_of_line l) (get_or old.spill word None)) a) (sym own_shown);
      backing = λ a. is.memory a ∙ ap (λ value. with_at (λ x. get_or old.backing x 0) word value a) (committed_is old sound word);
      commits = is.commits;
      units = is.units;
    };
    kept = λ u a e. link_stays (held_line new.caches u a) (held_line old.caches u a) (subst (λ (l : Option SeenLine). Stays l (held_line old.caches u a)) (sym (is.lines u a)) (all_stay (a == word) (u == unit) (held_line old.caches u a))) e;
  }

  pub replaced_bus : IsSoundBus new
  replaced_bus = kept_bus old new sound is.sizes (step_linked new (bus_replace (state_in old) unit word) (link_in old.caches) is_step)
      (subst (λ n. n ≤ 2 ^ 63) (sym is.commits) sound.few_commits)

  pub replaced_agreed : (t : LineTable) → Agrees (state_in old) t → Agrees (state_in new) (replace t unit word)
  replaced_agreed t agrees = step_agrees new (bus_replace (state_in old) unit word) (link_in old.caches) is_step (replace t unit word)
      (replace_agrees (state_in old) t unit word agrees (sym (same_pinned (state_in old) t unit word agrees) ∙ unpinned))
