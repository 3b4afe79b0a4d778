use Rattle.std.proofs.Common.{◌≡◌, ◌∙◌, ◌<◌, ◌^◌, refl, sym, ap, ℕ, ◌+◌, ◌∷◌, List, None, length, get_or, set, unwrap_or}
use Rattle.std.proofs.lemmas.List.{with_items_is}
use Rattle.svc_cache.specs.Places.{CacheValue, line_of}
use Rattle.svc_cache.specs.Lines.{commit_line}
use Rattle.svc_retire.specs.Caches.{no_cache, cache_at}
use Rattle.svc_retire.proofs.Listing.{read_item}
use Rattle.svc_bus.specs.Value.{BusValue}
use Rattle.svc_bus.specs.State.{bus_state}
use Rattle.svc_bus.proofs.Committing.{IsCommit, head_known, committed_bus, committed_table}
use Rattle.svc_bus.proofs.bus.Bus.commit_head.Goals as goal

pub invariant_of-self : goal.invariant_of-self
unfolding bus_state
invariant_of-self c =
    let inside = c.self.inside in
    let old : BusValue = record { caches = inside.caches.items; spill = inside.spill; backing = inside.backing.items; units = inside.queue; commits = inside.commits; probes = inside.probes } in
    let unit : ℕ = c.pop_head-unit.result.0 in
    let cache : CacheValue = c.commit_lines.new.cache in
    let backing : List ℕ = c.write_back.new.backing in
    let new : BusValue = record { caches = set old.caches unit cache; spill = c.write_back.new.self; backing = backing; units = c.pop_head-unit.new.self; commits = inside.commits + 1; probes = inside.probes } in
    let few : inside.commits < 2 ^ 63 = rw (← c.self.view_is) at c.requires.few in
    let units : old.units ≡ unit ∷ new.units = c.pop_head-unit.ensures in
    let was : cache_at old.caches unit ≡ c.index_mut.result.now = read_item old.caches unit c.index_mut.result.now no_cache c.index_mut.ensures.value (head_known old unit new.units c.self.invariant units) in
    let memory : c.deref_mut.result.now ≡ old.backing = c.deref_mut.ensures.value in
    let words : length backing ≡ length old.backing = c.write_back.auto.backing ∙ ap (λ (xs : List ℕ). length xs) memory in
    let is : IsCommit old new unit cache = record {
      caches = refl;
      lines = λ a. c.commit_lines.ensures.lines a ∙ sym (ap (λ (x : CacheValue). commit_line (line_of x a)) was);
      sets = c.commit_lines.ensures.sets ∙ sym (ap (λ (x : CacheValue). x.sets) was);
      ways = c.commit_lines.ensures.ways ∙ sym (ap (λ (x : CacheValue). x.ways) was);
      spill = c.write_back.ensures.empty;
      memory = λ a. c.write_back.ensures.memory a ∙ ap (λ (xs : List ℕ). unwrap_or (get_or old.spill a None) (get_or xs a 0)) memory;
      words = words;
      units = units;
      commits = refl;
    } in
    rw (with_items_is inside.backing backing (words ∙ sym inside.backing.ok.0)) (committed_bus old new unit cache c.self.invariant few is)

pub returns-clause-table : goal.returns-clause-table
unfolding bus_state
returns-clause-table c =
    let inside = c.self.inside in
    let old : BusValue = record { caches = inside.caches.items; spill = inside.spill; backing = inside.backing.items; units = inside.queue; commits = inside.commits; probes = inside.probes } in
    let unit : ℕ = c.pop_head-unit.result.0 in
    let cache : CacheValue = c.commit_lines.new.cache in
    let backing : List ℕ = c.write_back.new.backing in
    let new : BusValue = record { caches = set old.caches unit cache; spill = c.write_back.new.self; backing = backing; units = c.pop_head-unit.new.self; commits = inside.commits + 1; probes = inside.probes } in
    let few : inside.commits < 2 ^ 63 = rw (← c.self.view_is) at c.requires.few in
    let units : old.units ≡ unit ∷ new.units = c.pop_head-unit.ensures in
    let was : cache_at old.caches unit ≡ c.index_mut.result.now = read_item old.caches unit c.index_mut.result.now no_cache c.index_mut.ensures.value (head_known old unit new.units c.self.invariant units) in
    let memory : c.deref_mut.result.now ≡ old.backing = c.deref_mut.ensures.value in
    let words : length backing ≡ length old.backing = c.write_back.auto.backing ∙ ap (λ (xs : List ℕ). length xs) memory in
    let is : IsCommit old new unit cache = record {
      caches = refl;
      lines = λ a. c.commit_lines.ensures.lines a ∙ sym (ap (λ (x : CacheValue). commit_line (line_of x a)) was);
      sets = c.commit_lines.ensures.sets ∙ sym (ap (λ (x : CacheValue). x.sets) was);
      ways = c.commit_lines.ensures.ways ∙ sym (ap (λ (x : CacheValue). x.ways) was);
      spill = c.write_back.ensures.empty;
      memory = λ a. c.write_back.ensures.memory a ∙ ap (λ (xs : List ℕ). unwrap_or (get_or old.spill a None) (get_or xs a 0)) memory;
      words = words;
      units = units;
      commits = refl;
    } in
    rw (with_items_is inside.backing backing (words ∙ sym inside.backing.ok.0), ← c.self.view_is) (committed_table old new unit cache c.self.invariant few is)
