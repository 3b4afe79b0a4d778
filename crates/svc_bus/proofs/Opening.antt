-- An opened bus.
use Rattle.std.proofs.Common.{◌≡◌, ◌∙◌, refl, sym, subst, ap, ℕ, zero, suc, ◌<◌, ◌≤◌, ◌^◌, Option, None, List, [], ◌∷◌, ◌++◌, ◌⊎◌, length, get_or, replicate, inl, inr, arith}
use Rattle.std.proofs.lemmas.Bool.{cases_lt}
use Rattle.std.proofs.lemmas.List.{length-replicate, get_or_past}
use Rattle.svc_base.specs.declared.config.TheConstants.{MAX_WAYS}
use Rattle.svc_vol.specs.declared.list.TheConstants.{CAPACITY}
use Rattle.svc_cache.specs.Lines.{LineMap, no_lines}
use Rattle.svc_cache.specs.Places.{CacheValue, line_among, line_of}
use Rattle.svc_bus_laws.specs.LineTable.{opening_table}
use Rattle.svc_bus_laws.specs.BusState.{Agrees}
use Rattle.svc_bus_laws.specs.BusSteps.{bus_opened}
use Rattle.svc_bus_laws.proofs.SeenLaws.{opened_agrees}
use Rattle.svc_links_laws.proofs.LinkedBuses.{opened_bus as opened_bus_law}
use Rattle.svc_vcl.specs.Described.{bus_line_of}
use Rattle.svc_retire.specs.Caches.{no_cache, cache_at}
use Rattle.svc_bus.specs.Lines.{link_in}
use Rattle.svc_bus.specs.Value.{BusValue, IsSoundBus, state_in}
use Rattle.svc_bus.specs.Opened.{AreEmpty}
use Rattle.svc_bus.proofs.Agreeing.{IsStep, step_agrees, step_linked}
use Rattle.svc_bus.proofs.Committing.{none_spilled}

-- there is no line where there is no cache
no_line : (a : ℕ) → line_of no_cache a ≡ None
unfolding line_of line_among
no_line a = refl

pub none_empty : (sets ways : ℕ) → AreEmpty [] sets ways
none_empty sets ways = record {
  sets_are = λ u h. absurd (omega (arith, h));
  ways_are = λ u h. absurd (omega (arith, h));
  lines = λ u a. no_line a;
}

-- a cache of a list with one more
pushed : (caches : List CacheValue) (new : CacheValue) (u : ℕ) → u < length (caches ++ new ∷ []) → (cache_at (caches ++ new ∷ []) u ≡ new) ⊎ ((u < length caches) × (cache_at (caches ++ new ∷ []) u ≡ cache_at caches u))
pushed [] new zero h = inl refl
pushed [] new (suc u) h = absurd (omega (arith, h))
pushed (c ∷ cs) new zero h = inr (omega arith, refl)
pushed (c ∷ cs) new (suc u) h = elim (pushed cs new u (omega (arith, h))) [
  | inl e ↦ inl e
  | inr (low, e) ↦ inr (omega (arith, low), e)
]

pub one_more_empty : (caches : List CacheValue) (new : CacheValue) (sets ways : ℕ) → AreEmpty caches sets ways → new.sets ≡ sets → new.ways ≡ ways → line_of new ≡ no_lines → AreEmpty (caches ++ new ∷ []) sets ways
one_more_empty caches new sets ways empty has_sets has_ways has_lines = record {
  sets_are = λ u h. elim (pushed caches new u h) [
    | inl e ↦ ap (λ (c : CacheValue). c.sets) e ∙ has_sets
    | inr (low, e) ↦ ap (λ (c : CacheValue). c.sets) e ∙ empty.sets_are u low
  ];
  ways_are = λ u h. elim (pushed caches new u h) [
    | inl e ↦ ap (λ (c : CacheValue). c.ways) e ∙ has_ways
    | inr (low, e) ↦ ap (λ (c : CacheValue). c.ways) e ∙ empty.ways_are u low
  ];
  lines = λ u a. elim (cases_lt u (length (caches ++ new ∷ []))) [
    | inl low ↦ elim (pushed caches new u low) [
      | inl e ↦ ap (λ (c : CacheValue). line_of c a) e ∙ ap (λ (f : LineMap). f a) has_lines
      | inr (low, e) ↦ ap (λ (c : CacheValue). line_of c a) e ∙ empty.lines u a
    ]
    | inr past ↦ ap (λ (c : CacheValue). line_of c a) (get_or_past (caches ++ new ∷ []) u no_cache (omega (arith, past))) ∙ no_line a
  ];
}

module _ (b : BusValue) (units sets ways : ℕ) (some : 1 ≤ units) (few : units ≤ CAPACITY) (narrow : ways ≤ MAX_WAYS) (words : length b.backing < 2 ^ 32)
    (count : length b.caches ≡ units) (empty : AreEmpty b.caches sets ways) (spill : b.spill ≡ replicate (length b.backing) None)
    (no_commits : b.commits ≡ 0) (idle : b.units ≡ []) where
  first : 0 < length b.caches
  first = omega (arith, some, count)

  is_step : IsStep b (bus_opened units sets ways b.backing) (link_in b.caches)
  is_step = record {
    bus = opened_bus_law units sets ways b.backing (link_in b.caches);
    same = record {
      caches = count;
      sets = empty.sets_are 0 first;
      ways = empty.ways_are 0 first;
      words = refl;
      lines = λ u a. ap bus_line_of (empty.lines u a);
      spill = λ a. ap (λ (s : List (Option ℕ)). get_or s a None) spill ∙ none_spilled (length b.backing) a;
      backing = λ a. refl;
      commits = no_commits;
      units = idle;
    };
    kept = λ u a e. refl;
  }

  pub opened_bus : IsSoundBus b
  opened_bus = record {
    linked = step_linked b (bus_opened units sets ways b.backing) (link_in b.caches) is_step;
    some_caches = first;
    few_caches = subst (λ n. n ≤ CAPACITY) (sym count) few;
    one_size = λ u h. empty.sets_are u h ∙ sym (empty.sets_are 0 first);
    one_width = λ u h. empty.ways_are u h ∙ sym (empty.ways_are 0 first);
    few_ways = subst (λ n. n ≤ MAX_WAYS) (sym (empty.ways_are 0 first)) narrow;
    spills = ap length spill ∙ length-replicate (length b.backing) None;
    few_words = words;
    few_commits = omega (arith, no_commits);
  }

  pub opened_table : Agrees (state_in b) (opening_table units sets ways b.backing)
  opened_table = step_agrees b (bus_opened units sets ways b.backing) (link_in b.caches) is_step (opening_table units sets ways b.backing) (opened_agrees units sets ways b.backing)
