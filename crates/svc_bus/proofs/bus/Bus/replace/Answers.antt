use Rattle.std.proofs.Common.{◌≡◌, ◌∙◌, refl, sym, ap, ap₂, subst, ℕ, ◌+◌, ◌<◌, Some, None, List, length, get_or}
use Rattle.std.proofs.lemmas.List.{with_items_is}
use Rattle.svc_line.specs.Line.{seen_line}
use Rattle.svc_cache.specs.Places.{CacheValue, line_of}
use Rattle.svc_vol.specs.Lines.{HasRoomForEach, CountsOneOfEach}
use Rattle.svc_bus_laws.specs.Steps.{with_at}
use Rattle.svc_retire.specs.Caches.{no_cache, cache_at, held_line, SameSizes}
use Rattle.svc_retire.specs.Purges.{committed_in, purged_line, HasRoomFor}
use Rattle.svc_retire.proofs.Listing.{read_item}
use Rattle.svc_bus.specs.Lines.{with_line}
use Rattle.svc_bus.specs.Value.{BusValue}
use Rattle.svc_bus.specs.State.{bus_state}
use Rattle.svc_bus.proofs.Keeping.{KeepsSizes}
use Rattle.svc_bus.proofs.Requests.{AreFew, bus_request, one_look, listable, room_to_list, room_to_change}
use Rattle.svc_bus.proofs.Knowing.{in_memory}
use Rattle.svc_bus.proofs.Replacing.{IsReplaced, replaced_bus, replaced_agreed}
use Rattle.svc_bus.proofs.bus.Bus.replace.Goals as goal

pub fill-requires-clause-room : goal.fill-requires-clause-room
unfolding bus_state
fill-requires-clause-room c =
    let inside = c.self.inside in
    let old : BusValue = record { caches = inside.caches.items; spill = inside.spill; backing = inside.backing.items; units = inside.queue; commits = inside.commits; probes = inside.probes } in
    let known : c.args.unit.0 < length old.caches = rw (← c.self.view_is) at c.requires.known in
    let was : cache_at old.caches c.args.unit.0 ≡ c.index.result.now = read_item old.caches c.args.unit.0 c.index.result.now no_cache c.index.ensures known in
    let few : AreFew c.lookup.new.probes = one_look old c.self.invariant c.args.unit.0 c.index.result.now c.new-probes.result c.lookup.new.probes known was c.new-probes.ensures.searches c.new-probes.ensures.places c.lookup.ensures.counted in
    subst (HasRoomForEach c.lookup.new.probes) (sym c.deref.ensures.value) (room_to_list old c.self.invariant c.lookup.new.probes few)

pub fill-requires-clause-listed : goal.fill-requires-clause-listed
fill-requires-clause-listed c = listable _ c.self.invariant c.deref.result.now c.deref.ensures.value c.args.word.0

pub take_line-requires-clause-request : goal.take_line-requires-clause-request
unfolding bus_state
take_line-requires-clause-request c =
    let inside = c.self.inside in
    let old : BusValue = record { caches = inside.caches.items; spill = inside.spill; backing = inside.backing.items; units = inside.queue; commits = inside.commits; probes = inside.probes } in
    let known : c.args.unit.0 < length old.caches = rw (← c.self.view_is) at c.requires.known in
    let was : cache_at old.caches c.args.unit.0 ≡ c.index.result.now = read_item old.caches c.args.unit.0 c.index.result.now no_cache c.index.ensures known in
    let here : held_line old.caches c.args.unit.0 c.args.word.0 ≡ Some (seen_line c.in-Some.line) = ap (λ (cache : CacheValue). line_of cache c.args.word.0) was ∙ sym c.in-Some.ensures.line in
    bus_request old c.self.invariant c.deref_mut.result.now c.deref_mut.ensures.value c.deref_mut-2.result.now c.deref_mut-2.ensures.value c.args.unit.0 c.args.word.0 c.fill.new.self c.deref.result.now c.deref.ensures.value c.fill.ensures.list known (in_memory old c.self.invariant c.args.unit.0 c.args.word.0 (seen_line c.in-Some.line) here)

pub take_line-requires-clause-room : goal.take_line-requires-clause-room
unfolding bus_state
take_line-requires-clause-room c =
    let inside = c.self.inside in
    let old : BusValue = record { caches = inside.caches.items; spill = inside.spill; backing = inside.backing.items; units = inside.queue; commits = inside.commits; probes = inside.probes } in
    let known : c.args.unit.0 < length old.caches = rw (← c.self.view_is) at c.requires.known in
    let was : cache_at old.caches c.args.unit.0 ≡ c.index.result.now = read_item old.caches c.args.unit.0 c.index.result.now no_cache c.index.ensures known in
    let few : AreFew c.lookup.new.probes = one_look old c.self.invariant c.args.unit.0 c.index.result.now c.new-probes.result c.lookup.new.probes known was c.new-probes.ensures.searches c.new-probes.ensures.places c.lookup.ensures.counted in
    let counted : CountsOneOfEach c.lookup.new.probes c.fill.new.probes old.caches = subst (CountsOneOfEach c.lookup.new.probes c.fill.new.probes) c.deref.ensures.value c.fill.ensures.counted in
    subst (λ (xs : List CacheValue). HasRoomFor c.fill.new.probes xs (1 + length xs)) (sym c.deref_mut.ensures.value) (room_to_change old c.self.invariant c.lookup.new.probes c.fill.new.probes few counted)

pub spill_version-requires-clause-known : goal.spill_version-requires-clause-known
unfolding bus_state
spill_version-requires-clause-known c =
    let inside = c.self.inside in
    let old : BusValue = record { caches = inside.caches.items; spill = inside.spill; backing = inside.backing.items; units = inside.queue; commits = inside.commits; probes = inside.probes } in
    let known : c.args.unit.0 < length old.caches = rw (← c.self.view_is) at c.requires.known in
    let was : cache_at old.caches c.args.unit.0 ≡ c.index.result.now = read_item old.caches c.args.unit.0 c.index.result.now no_cache c.index.ensures known in
    let here : held_line old.caches c.args.unit.0 c.args.word.0 ≡ Some (seen_line c.in-Some.line) = ap (λ (cache : CacheValue). line_of cache c.args.word.0) was ∙ sym c.in-Some.ensures.line in
    subst (λ n. c.args.word.0 < n) (sym c.self.invariant.spills) (in_memory old c.self.invariant c.args.unit.0 c.args.word.0 (seen_line c.in-Some.line) here)

-- the bus before and after
abbrev before : goal.After-spill_version → BusValue
before c = let inside = c.self.inside in record { caches = inside.caches.items; spill = inside.spill; backing = inside.backing.items; units = inside.queue; commits = inside.commits; probes = inside.probes }

abbrev after : goal.After-spill_version → BusValue
after c = record (before c) { caches = c.take_line.new.caches; spill = c.spill_version.new.spill; backing = c.take_line.new.backing }

sizes_are : (c : goal.After-spill_version) → KeepsSizes (before c) (after c)
sizes_are c = record {
  caches = subst (λ (xs : List CacheValue). SameSizes xs c.take_line.new.caches) c.deref_mut.ensures.value c.take_line.ensures.sizes;
  spill = c.spill_version.ensures.size;
  backing = c.take_line.auto.backing ∙ ap (λ (xs : List ℕ). length xs) c.deref_mut-2.ensures.value;
}

replaced : (c : goal.After-spill_version) → c.args.unit.0 < length (before c).caches → IsReplaced (before c) (after c) c.args.unit.0 c.args.word.0 (seen_line c.in-Some.line)
replaced c known =
    let was : cache_at (before c).caches c.args.unit.0 ≡ c.index.result.now = read_item (before c).caches c.args.unit.0 c.index.result.now no_cache c.index.ensures known in
    let caches : c.deref_mut.result.now ≡ (before c).caches = c.deref_mut.ensures.value in
    let memory : c.deref_mut-2.result.now ≡ (before c).backing = c.deref_mut-2.ensures.value in
    record {
      here = ap (λ (cache : CacheValue). line_of cache c.args.word.0) was ∙ sym c.in-Some.ensures.line;
      valid = c.in-Some.ensures.valid;
      free = sym c.if-is_pinned.ensures;
      lines = λ u a. c.take_line.ensures.lines u a ∙ ap (λ (xs : List CacheValue). with_line (held_line xs) c.args.unit.0 c.args.word.0 None purged_line u a) caches;
      memory = λ a. c.take_line.ensures.memory a ∙ ap₂ (λ (xs : List ℕ) (ys : List CacheValue). with_at (λ x. get_or xs x 0) c.args.word.0 (committed_in ys xs c.args.word.0) a) memory caches;
      versions = c.spill_version.ensures.versions;
      sizes = sizes_are c;
      commits = refl;
      units = refl;
    }

pub invariant_of-self : goal.invariant_of-self
unfolding bus_state
invariant_of-self c =
    let inside = c.self.inside in
    let known : c.args.unit.0 < length inside.caches.items = rw (← c.self.view_is) at c.requires.known in
    let count : length c.take_line.new.caches ≡ inside.caches.len = (sizes_are c).caches.count ∙ sym inside.caches.ok.0 in
    let words : length c.take_line.new.backing ≡ inside.backing.len = (sizes_are c).backing ∙ sym inside.backing.ok.0 in
    rw (with_items_is inside.caches c.take_line.new.caches count, with_items_is inside.backing c.take_line.new.backing words)
    (replaced_bus (before c) (after c) c.args.unit.0 c.args.word.0 (seen_line c.in-Some.line) c.self.invariant (replaced c known))

pub returns-clause-table : goal.returns-clause-table
unfolding bus_state
returns-clause-table c =
    let inside = c.self.inside in
    let known : c.args.unit.0 < length inside.caches.items = rw (← c.self.view_is) at c.requires.known in
    let count : length c.take_line.new.caches ≡ inside.caches.len = (sizes_are c).caches.count ∙ sym inside.caches.ok.0 in
    let words : length c.take_line.new.backing ≡ inside.backing.len = (sizes_are c).backing ∙ sym inside.backing.ok.0 in
    rw (with_items_is inside.caches c.take_line.new.caches count, with_items_is inside.backing c.take_line.new.backing words, ← c.self.view_is)
    (replaced_agreed (before c) (after c) c.args.unit.0 c.args.word.0 (seen_line c.in-Some.line) c.self.invariant (replaced c known))
