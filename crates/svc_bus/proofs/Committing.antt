-- A commit on the bus.
use Rattle.std.proofs.Common.{◌≡◌, ◌∙◌, refl, sym, subst, ap, ℕ, zero, suc, ◌+◌, ◌<◌, ◌^◌, Bool, true, false, cond, Option, None, List, ◌∷◌, length, get_or, set, drop, replicate, unwrap_or, inl, inr, arith, length-set, get_or-set_same, get_or-set_other, eq-eqb, ne_eqb}
use Rattle.std.specs.Bool.{◌==◌}
use Rattle.std.proofs.lemmas.Bool.{cases_eq}
use Rattle.std.proofs.lemmas.List.{length-replicate}
use Rattle.svc_cache.specs.Lines.{commit_line}
use Rattle.svc_cache.specs.Places.{CacheValue, line_of}
use Rattle.svc_bus_laws.specs.LineTable.{LineTable}
use Rattle.svc_bus_laws.specs.Steps.{commit}
use Rattle.svc_bus_laws.specs.BusLine.{settled_line}
use Rattle.svc_bus_laws.specs.BusState.{Agrees}
use Rattle.svc_bus_laws.specs.BusSteps.{bus_commit}
use Rattle.svc_bus_laws.proofs.AgreeSteps.{commit_agrees}
use Rattle.svc_links_laws.proofs.LinkedBuses.{commit_bus}
use Rattle.svc_vol.specs.Lines.{link_of}
use Rattle.svc_vol.proofs.Validity.{line_valid}
use Rattle.svc_vcl.specs.Described.{bus_line_of}
use Rattle.svc_retire.specs.Caches.{no_cache, cache_at, held_line, SameSizes}
use Rattle.svc_bus.specs.Lines.{line_in, link_in}
use Rattle.svc_bus.specs.Value.{BusValue, IsSoundBus, state_in}
use Rattle.svc_bus.proofs.Agreeing.{IsStep, step_agrees, step_linked}
use Rattle.svc_bus.proofs.Keeping.{kept_bus}
use Rattle.svc_bus.proofs.Knowing.{units_known}
use Rattle.svc_bus.proofs.Shown.{settled_shown, link_settled}

-- one cache changed, with its sizes kept
pub one_changed : (caches : List CacheValue) (u : ℕ) (cache : CacheValue) → u < length caches → cache.sets ≡ (cache_at caches u).sets → cache.ways ≡ (cache_at caches u).ways → SameSizes caches (set caches u cache)
one_changed caches u cache known sets ways = record {
  count = length-set caches u cache;
  sets = λ v. elim (cases_eq v u) [
    | inl e ↦ ap (λ w. (cache_at (set caches u cache) w).sets) e ∙ ap (λ (c : CacheValue). c.sets) (get_or-set_same caches u cache no_cache known) ∙ sets ∙ ap (λ w. (cache_at caches w).sets) (sym e)
    | inr ne ↦ ap (λ (c : CacheValue). c.sets) (get_or-set_other caches u v cache no_cache ne)
  ];
  ways = λ v. elim (cases_eq v u) [
    | inl e ↦ ap (λ w. (cache_at (set caches u cache) w).ways) e ∙ ap (λ (c : CacheValue). c.ways) (get_or-set_same caches u cache no_cache known) ∙ ways ∙ ap (λ w. (cache_at caches w).ways) (sym e)
    | inr ne ↦ ap (λ (c : CacheValue). c.ways) (get_or-set_other caches u v cache no_cache ne)
  ];
}

-- nothing is spilled
pub none_spilled : (n a : ℕ) → get_or {A = Option ℕ} (replicate n None) a None ≡ None
none_spilled zero a = refl
none_spilled (suc n) zero = refl
none_spilled (suc n) (suc a) = none_spilled n a

-- what a commit does to the parts of a bus
pub record IsCommit (old new : BusValue) (unit : ℕ) (cache : CacheValue) : Type 0 where
  pub caches : new.caches ≡ set old.caches unit cache
  pub lines : (a : ℕ) → line_of cache a ≡ commit_line (line_of (cache_at old.caches unit) a)
  pub sets : cache.sets ≡ (cache_at old.caches unit).sets
  pub ways : cache.ways ≡ (cache_at old.caches unit).ways
  pub spill : new.spill ≡ replicate (length old.spill) None
  pub memory : (a : ℕ) → get_or new.backing a 0 ≡ unwrap_or (get_or old.spill a None) (get_or old.backing a 0)
  pub words : length new.backing ≡ length old.backing
  pub units : old.units ≡ unit ∷ new.units
  pub commits : new.commits ≡ old.commits + 1

-- the head's unit has a cache
module _ (old : BusValue) (unit : ℕ) (rest : List ℕ) (sound : IsSoundBus old) (units : old.units ≡ unit ∷ rest) where
  pub has_head : 0 < length old.units
  has_head = subst (λ (us : List ℕ). 0 < length us) (sym units) (let h : 0 < suc (length rest) = omega arith in h)

  pub head_is : get_or old.units 0 0 ≡ unit
  head_is = ap (λ (us : List ℕ). get_or us 0 0) units

  pub head_known : unit < length old.caches
  head_known = subst (λ u. u < length old.caches) head_is (units_known old sound 0 has_head)

module _ (old new : BusValue) (unit : ℕ) (cache : CacheValue) (sound : IsSoundBus old) (few : old.commits < 2 ^ 63) (is : IsCommit old new unit cache) where
  known : unit < length old.caches
  known = head_known old unit new.units sound is.units

  here : get_or old.units 0 0 ≡ unit
  here = head_is old unit new.units sound is.units

  some : 0 < length old.units
  some = has_head old unit new.units sound is.units

  sizes : SameSizes old.caches new.caches
  sizes = subst (SameSizes old.caches) (sym is.caches) (one_changed old.caches unit cache known is.sets is.ways)

  held : (v a : ℕ) → held_line new.caches v a ≡ cond (v == get_or old.units 0 0) (commit_line (held_line old.caches v a)) (held_line old.caches v a)
  held v a = ap (λ cs. held_line cs v a) is.caches ∙ elim (cases_eq v unit) [
    | inl e ↦
        ap (λ w. held_line (set old.caches unit cache) w a) e
        ∙ ap (λ (c : CacheValue). line_of c a) (get_or-set_same old.caches unit cache no_cache known)
        ∙ is.lines a
        ∙ ap (λ w. commit_line (held_line old.caches w a)) (sym e)
        ∙ sym (ap (λ x. cond x (commit_line (held_line old.caches v a)) (held_line old.caches v a)) (eq-eqb v (get_or old.units 0 0) (e ∙ sym here)))
    | inr ne ↦
        ap (λ (c : CacheValue). line_of c a) (get_or-set_other old.caches unit v cache no_cache ne)
        ∙ sym (ap (λ x. cond x (commit_line (held_line old.caches v a)) (held_line old.caches v a)) (ne_eqb v (get_or old.units 0 0) (λ e. ne (e ∙ here))))
  ]

  shown : (v a : ℕ) (x : Bool) → bus_line_of (cond x (commit_line (held_line old.caches v a)) (held_line old.caches v a)) ≡ cond x (settled_line (line_in old.caches v a)) (line_in old.caches v a)
  shown v a true = settled_shown (held_line old.caches v a) (line_valid (cache_at old.caches v) a)
  shown v a false = refl

  linked : (v a : ℕ) (x : Bool) → link_of (cond x (commit_line (held_line old.caches v a)) (held_line old.caches v a)) ≡ link_in old.caches v a
  linked v a true = link_settled (held_line old.caches v a)
  linked v a false = refl

  is_step : IsStep new (bus_commit (state_in old)) (link_in old.caches)
  is_step = record {
    bus = commit_bus (state_in old) (link_in old.caches) sound.linked some;
    same = record {
      caches = sizes.count;
      sets = sizes.sets 0;
      ways = sizes.ways 0;
      words = is.words;
      lines = λ v a. ap bus_line_of (held v a) ∙ shown v a (v == get_or old.units 0 0);
      spill = λ a. ap (λ (s : List (Option ℕ)). get_or s a None) is.spill ∙ none_spilled (length old.spill) a;
      backing = is.memory;
      commits = let next : new.commits ≡ suc old.commits = omega (arith, is.commits) in next;
      units = sym (ap (λ (us : List ℕ). drop 1 us) is.units);
    };
    kept = λ v a e. ap link_of (held v a) ∙ linked v a (v == get_or old.units 0 0);
  }

  pub committed_bus : IsSoundBus new
  committed_bus = kept_bus old new sound
      (record { caches = sizes; spill = ap length is.spill ∙ length-replicate (length old.spill) None; backing = is.words })
      (step_linked new (bus_commit (state_in old)) (link_in old.caches) is_step)
      (omega (arith, few, is.commits))

  pub committed_table : (t : LineTable) → Agrees (state_in old) t → Agrees (state_in new) (commit t)
  committed_table t agrees = step_agrees new (bus_commit (state_in old)) (link_in old.caches) is_step (commit t) (commit_agrees (state_in old) t agrees (subst (λ us. 0 < length us) agrees.units some))
