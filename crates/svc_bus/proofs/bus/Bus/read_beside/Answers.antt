use Rattle.std.proofs.Common.{◌≡◌, ◌∙◌, refl, sym, ap, ap₂, subst, ℕ, ◌+◌, ◌<◌, false, Some, None, List, Option, length, get_or, option_map, arith}
use Rattle.std.proofs.lemmas.List.{with_items_is}
use Rattle.svc_base.specs.declared.ids.UnitId.{UnitId}
use Rattle.svc_base.specs.declared.refusal.Refusal.TheVariants as refusal
use Rattle.svc_line.specs.Bits.{bits_of}
use Rattle.svc_line.specs.Line.{SeenLine, seen_line as seen_of}
use Rattle.svc_cache.specs.Places.{CacheValue, line_of}
use Rattle.svc_cache.specs.Lines.{EndsBelow}
use Rattle.svc_cache.specs.declared.probes.Probes.{Probes}
use Rattle.svc_vol.specs.Lines.{HasRoomForEach, CountsEachOther, CountsOneOfEach, lines_in}
use Rattle.svc_retire.specs.Caches.{cache_at, held_line, SameSizes}
use Rattle.svc_retire.specs.Purges.{committed_in, HasRoomFor}
use Rattle.svc_retire.proofs.Listing.{read_item}
use Rattle.svc_bus.specs.Value.{BusValue}
use Rattle.svc_bus.specs.State.{bus_state}
use Rattle.svc_bus.specs.Looking.{CountsUpTo, IsOne}
use Rattle.svc_bus.specs.Room.{full_in}
use Rattle.svc_bus.specs.Carried.{lines_after, memory_after, is_hit}
use Rattle.svc_bus.proofs.Full.{lines_end, full_shown}
use Rattle.svc_bus.proofs.Keeping.{KeepsSizes}
use Rattle.svc_bus.proofs.Requests.{AreFew, bus_request, listed_describes, room_to_list, room_to_change, listable}
use Rattle.svc_bus.proofs.Knowing.{units_known}
use Rattle.svc_bus.proofs.Reading.{IsPlanned, never_refused, plan_clear, IsLookedUp, asked, own_asked, planned_read, read_bus, read_kept, served_seen, value_seen}
use Rattle.svc_bus.proofs.Counting.{look_ups}
use Rattle.svc_bus.proofs.Hitting.{never_hit}
use Rattle.svc_bus.proofs.bus.Bus.read_beside.Goals as goal

pub fill_beside-requires-clause-room : goal.fill_beside-requires-clause-room
fill_beside-requires-clause-room c =
    let inside = c.self.inside in
    let old : BusValue = record { caches = inside.caches.items; spill = inside.spill; backing = inside.backing.items; units = inside.queue; commits = inside.commits; probes = inside.probes } in
    let one : IsOne c.args.probes = c.requires.one in
    let few : AreFew c.args.probes = record { searches = omega (arith, one.searches); places = one.places } in
    subst (HasRoomForEach c.args.probes) (sym c.deref.ensures.value) (room_to_list old c.self.invariant c.args.probes few)

pub fill_beside-requires-clause-listed : goal.fill_beside-requires-clause-listed
fill_beside-requires-clause-listed c = listable _ c.self.invariant c.deref.result.now c.deref.ensures.value c.args.word.0

pub carry_out-requires-clause-request : goal.carry_out-requires-clause-request
unfolding bus_state
carry_out-requires-clause-request c =
    let inside = c.self.inside in
    let old : BusValue = record { caches = inside.caches.items; spill = inside.spill; backing = inside.backing.items; units = inside.queue; commits = inside.commits; probes = inside.probes } in
    let cached : c.args.unit.0 < length old.caches = subst (λ u. u < length old.caches) c.place_of-place.ensures.at_work (units_known old c.self.invariant c.place_of-place.result c.place_of-place.ensures.within) in
    let known : c.args.word.0 < length old.backing = rw (← c.self.view_is) at c.requires.in_memory in
    bus_request old c.self.invariant c.deref_mut.result.now c.deref_mut.ensures.value c.deref_mut-2.result.now c.deref_mut-2.ensures.value c.args.unit.0 c.args.word.0 c.fill_beside.new.self c.deref.result.now c.deref.ensures.value c.fill_beside.ensures.list cached known

pub carry_out-requires-clause-ends : goal.carry_out-requires-clause-ends
carry_out-requires-clause-ends c =
    let inside = c.self.inside in
    let old : BusValue = record { caches = inside.caches.items; spill = inside.spill; backing = inside.backing.items; units = inside.queue; commits = inside.commits; probes = inside.probes } in
    let cached : c.args.unit.0 < length old.caches = subst (λ u. u < length old.caches) c.place_of-place.ensures.at_work (units_known old c.self.invariant c.place_of-place.result c.place_of-place.ensures.within) in
    subst (λ (xs : List CacheValue). EndsBelow (line_of (cache_at xs c.args.unit.0)) (length c.deref_mut-2.result.now)) (sym c.deref_mut.ensures.value)
    (subst (λ (ws : List ℕ). EndsBelow (line_of (cache_at old.caches c.args.unit.0)) (length ws)) (sym c.deref_mut-2.ensures.value) (lines_end old c.args.unit.0 c.self.invariant cached))

-- the bus before, and the plan
abbrev old : goal.After-probes-2-1 → BusValue
old c = let inside = c.self.inside in record { caches = inside.caches.items; spill = inside.spill; backing = inside.backing.items; units = inside.queue; commits = inside.commits; probes = inside.probes }

looked : (c : goal.After-probes-2-1) → c.args.word.0 < length (old c).backing → IsLookedUp (old c) c.fill_beside.new.self c.place_of-place.result c.args.word.0 c.args.unit.0 c.index-backing.result.now c.get.result
unfolding bus_state
looked c known = record {
  in_memory = known;
  described = listed_describes (old c) c.self.invariant c.deref.result.now c.deref.ensures.value c.args.word.0 c.fill_beside.new.self c.fill_beside.ensures.list.committed c.fill_beside.ensures.list.active;
  within = c.place_of-place.ensures.within;
  at_work = c.place_of-place.ensures.at_work;
  spill_is = c.get.ensures;
  backing_is = sym (read_item (old c).backing c.args.word.0 c.index-backing.result.now 0 c.index-backing.ensures known);
}

looked_plan : (c : goal.After-probes-2-1) → c.args.word.0 < length (old c).backing → IsPlanned (old c) c.place_of-place.result c.args.word.0 c.plan_read-plan.result.served c.plan_read-plan.result.line.value (bits_of c.plan_read-plan.result.line.bits)
unfolding bus_state
looked_plan c known =
    planned_read (old c) c.fill_beside.new.self c.place_of-place.result c.args.word.0 c.args.unit.0 c.index-backing.result.now c.get.result c.plan_read-plan.result.served c.plan_read-plan.result.line.value (bits_of c.plan_read-plan.result.line.bits)
    c.self.invariant (looked c known) c.plan_read-plan.ensures.served c.plan_read-plan.ensures.line c.plan_read-plan.ensures.valid

pub carry_out-requires-clause-valid : goal.carry_out-requires-clause-valid
unfolding bus_state
carry_out-requires-clause-valid c =
    let known : c.args.word.0 < length (old c).backing = rw (← c.self.view_is) at c.requires.in_memory in
    c.plan_read-plan.ensures.valid (bus_state (old c)) c.self.invariant.linked.table c.args.word.0
    (own_asked (old c) c.fill_beside.new.self c.place_of-place.result c.args.word.0 c.args.unit.0 c.index-backing.result.now c.get.result c.self.invariant (looked c known))

pub carry_out-requires-clause-active : goal.carry_out-requires-clause-active
unfolding bus_state
carry_out-requires-clause-active c =
    let known : c.args.word.0 < length (old c).backing = rw (← c.self.view_is) at c.requires.in_memory in
    plan_clear (old c) c.self.invariant c.place_of-place.result c.args.word.0 c.plan_read-plan.result.served c.plan_read-plan.result.line.value (bits_of c.plan_read-plan.result.line.bits) (looked_plan c known)

pub carry_out-requires-clause-room : goal.carry_out-requires-clause-room
carry_out-requires-clause-room c =
    let one : IsOne c.args.probes = c.requires.one in
    let each : CountsEachOther c.args.probes c.fill_beside.new.probes (old c).caches = subst (CountsEachOther c.args.probes c.fill_beside.new.probes) c.deref.ensures.value c.fill_beside.ensures.counted in
    -- the look into the unit's own cache and those beside it are one look into each
    let first : Probes = record { searches = 0; places = c.args.probes.places } in
    let few : AreFew first = record { searches = omega arith; places = one.places } in
    let counted : CountsOneOfEach first c.fill_beside.new.probes (old c).caches = record { searches = omega (arith, each.searches, one.searches); places = each.places } in
    subst (λ (xs : List CacheValue). HasRoomFor c.fill_beside.new.probes xs (1 + length xs)) (sym c.deref_mut.ensures.value) (room_to_change (old c) c.self.invariant first c.fill_beside.new.probes few counted)

pub returns-in-Err-clause-refused : goal.returns-in-Err-clause-refused
unfolding bus_state
returns-in-Err-clause-refused c =
    let inside = c.self.inside in
    let old : BusValue = record { caches = inside.caches.items; spill = inside.spill; backing = inside.backing.items; units = inside.queue; commits = inside.commits; probes = inside.probes } in
    let unit : ℕ = c.args.unit.0 in
    let cached : unit < length old.caches = subst (λ u. u < length old.caches) c.place_of-place.ensures.at_work (units_known old c.self.invariant c.place_of-place.result c.place_of-place.ensures.within) in
    let named : full_in old.caches unit (length old.backing) c.args.word.0 ≡ Some c.in-Err.field-0.0.0 = ap₂ (λ (xs : List CacheValue) (ws : List ℕ). full_in xs unit (length ws) c.args.word.0) (sym c.deref_mut.ensures.value) (sym c.deref_mut-2.ensures.value) ∙ c.in-Err.ensures.refused in
    rw (← c.self.view_is) (ap (option_map (λ word. refusal.SetFull (record { 0 = word }))) (sym (full_shown old unit c.self.invariant cached c.args.word.0) ∙ named))

-- the bus before and after
abbrev before : goal.After-self-3-1 → BusValue
before c = let inside = c.self.inside in record { caches = inside.caches.items; spill = inside.spill; backing = inside.backing.items; units = inside.queue; commits = inside.commits; probes = inside.probes }

-- whatever it tells of look-ups
abbrev after : goal.After-self-3-1 → ℕ → BusValue
after c told = record (before c) { caches = c.carry_out.new.caches; backing = c.carry_out.new.backing; probes = told }

seen : (c : goal.After-self-3-1) → c.args.word.0 < length (before c).backing → IsLookedUp (before c) c.fill_beside.new.self c.place_of-place.result c.args.word.0 c.args.unit.0 c.index-backing.result.now c.get.result
unfolding bus_state
seen c known = record {
  in_memory = known;
  described = listed_describes (before c) c.self.invariant c.deref.result.now c.deref.ensures.value c.args.word.0 c.fill_beside.new.self c.fill_beside.ensures.list.committed c.fill_beside.ensures.list.active;
  within = c.place_of-place.ensures.within;
  at_work = c.place_of-place.ensures.at_work;
  spill_is = c.get.ensures;
  backing_is = sym (read_item (before c).backing c.args.word.0 c.index-backing.result.now 0 c.index-backing.ensures known);
}

seen_plan : (c : goal.After-self-3-1) → c.args.word.0 < length (before c).backing → IsPlanned (before c) c.place_of-place.result c.args.word.0 c.plan_read-plan.result.served c.plan_read-plan.result.line.value (bits_of c.plan_read-plan.result.line.bits)
unfolding bus_state
seen_plan c known =
    planned_read (before c) c.fill_beside.new.self c.place_of-place.result c.args.word.0 c.args.unit.0 c.index-backing.result.now c.get.result c.plan_read-plan.result.served c.plan_read-plan.result.line.value (bits_of c.plan_read-plan.result.line.bits)
    c.self.invariant (seen c known) c.plan_read-plan.ensures.served c.plan_read-plan.ensures.line c.plan_read-plan.ensures.valid

sizes_are : (c : goal.After-self-3-1) (told : ℕ) → KeepsSizes (before c) (after c told)
sizes_are c told = record {
  caches = subst (λ (xs : List CacheValue). SameSizes xs c.carry_out.new.caches) c.deref_mut.ensures.value c.in_default.ensures.sizes;
  spill = refl;
  backing = c.carry_out.auto.backing ∙ ap (λ (xs : List ℕ). length xs) c.deref_mut-2.ensures.value;
}

-- the unit's line after the read
abbrev line_after : goal.After-self-3-1 → Option SeenLine
line_after c = Some (record { value = c.plan_read-plan.result.line.value; bits = bits_of c.plan_read-plan.result.line.bits; next = None })

lines_are : (c : goal.After-self-3-1) (u a : ℕ) → held_line c.carry_out.new.caches u a ≡ lines_after c.plan_read-plan.result.served (held_line (before c).caches) (get_or (before c).units c.place_of-place.result 0) c.args.word.0 (line_after c) u a
lines_are c u a =
    let plan = c.plan_read-plan.result in
    c.in_default.ensures.lines u a
    ∙ ap (λ (next : Option UnitId). lines_after plan.served (held_line c.deref_mut.result.now) c.args.unit.0 c.args.word.0 (Some (record (seen_of plan.line) { next = option_map (λ (unit : UnitId). unit.0) next })) u a) c.plan_read-plan.ensures.unlinked
    ∙ ap₂ (λ (xs : List CacheValue) (unit : ℕ). lines_after plan.served (held_line xs) unit c.args.word.0 (line_after c) u a) c.deref_mut.ensures.value (sym c.place_of-place.ensures.at_work)

memory_is : (c : goal.After-self-3-1) (a : ℕ) → get_or c.carry_out.new.backing a 0 ≡ memory_after c.plan_read-plan.result.served (λ x. get_or (before c).backing x 0) c.args.word.0 (committed_in (before c).caches (before c).backing c.args.word.0) a
memory_is c a =
    c.in_default.ensures.memory a
    ∙ ap₂ (λ (xs : List CacheValue) (ws : List ℕ). memory_after c.plan_read-plan.result.served (λ x. get_or ws x 0) c.args.word.0 (committed_in xs ws c.args.word.0) a) c.deref_mut.ensures.value c.deref_mut-2.ensures.value

pub invariant_of-self-2 : goal.invariant_of-self-2
unfolding bus_state
invariant_of-self-2 c =
    let inside = c.self.inside in
    let known : c.args.word.0 < length (before c).backing = rw (← c.self.view_is) at c.requires.in_memory in
    let count : length c.carry_out.new.caches ≡ inside.caches.len = (sizes_are c 0).caches.count ∙ sym inside.caches.ok.0 in
    let words : length c.carry_out.new.backing ≡ inside.backing.len = (sizes_are c 0).backing ∙ sym inside.backing.ok.0 in
    rw (with_items_is inside.caches c.carry_out.new.caches count, with_items_is inside.backing c.carry_out.new.backing words)
    (read_bus (before c) c.self.invariant c.place_of-place.result c.args.word.0 c.plan_read-plan.result.served c.plan_read-plan.result.line.value (bits_of c.plan_read-plan.result.line.bits) (seen_plan c known) (after c _) (sizes_are c _) refl refl refl (lines_are c) (memory_is c))

pub returns-clause-refused : goal.returns-clause-refused
unfolding bus_state
returns-clause-refused c =
    let unit : ℕ = get_or (before c).units c.place_of-place.result 0 in
    let known : c.args.word.0 < length (before c).backing = rw (← c.self.view_is) at c.requires.in_memory in
    let room : is_hit c.plan_read-plan.result.served ≡ false → full_in (before c).caches unit (length (before c).backing) c.args.word.0 ≡ None = λ other.
    ap₂ (λ (xs : List CacheValue) (ws : List ℕ). full_in xs unit (length ws) c.args.word.0) (sym c.deref_mut.ensures.value) (sym c.deref_mut-2.ensures.value)
    ∙ ap (λ u. full_in c.deref_mut.result.now u (length c.deref_mut-2.result.now) c.args.word.0) c.place_of-place.ensures.at_work ∙ c.in_default.ensures.refused other in
    let none : full_in (before c).caches unit (length (before c).backing) c.args.word.0 ≡ None =
    never_refused (before c) c.self.invariant c.place_of-place.result c.args.word.0 c.plan_read-plan.result.served c.plan_read-plan.result.line.value (bits_of c.plan_read-plan.result.line.bits) (seen_plan c known) room in
    let shown = full_shown (before c) unit c.self.invariant (units_known (before c) c.self.invariant c.place_of-place.result c.place_of-place.ensures.within) c.args.word.0 in
    rw (← c.self.view_is, ← c.place_of-place.ensures.at_work) (ap (option_map (λ word. refusal.SetFull (record { 0 = word }))) (sym shown ∙ none))

pub returns-clause-value : goal.returns-clause-value
unfolding bus_state
returns-clause-value c =
    let known : c.args.word.0 < length (before c).backing = rw (← c.self.view_is) at c.requires.in_memory in
    rw (← c.self.view_is) (λ t place runs.
    value_seen (before c) c.self.invariant t runs.agrees c.place_of-place.result place c.args.word.0 c.place_of-place.ensures.within runs.within (runs.unit_is ∙ sym c.place_of-place.ensures.at_work) c.plan_read-plan.result.line.value
    (c.plan_read-plan.ensures.value (bus_state (before c)) t c.args.word.0 (asked (before c) t c.fill_beside.new.self c.place_of-place.result c.args.word.0 c.args.unit.0 c.index-backing.result.now c.get.result runs.agrees (seen c known))))

pub returns-clause-served : goal.returns-clause-served
unfolding bus_state
returns-clause-served c =
    let known : c.args.word.0 < length (before c).backing = rw (← c.self.view_is) at c.requires.in_memory in
    rw (← c.self.view_is) (λ t place runs.
    served_seen (before c) c.self.invariant t runs.agrees c.place_of-place.result place c.args.word.0 c.place_of-place.ensures.within runs.within (runs.unit_is ∙ sym c.place_of-place.ensures.at_work) c.plan_read-plan.result.served
    (c.plan_read-plan.ensures.served (bus_state (before c)) t c.args.word.0 (asked (before c) t c.fill_beside.new.self c.place_of-place.result c.args.word.0 c.args.unit.0 c.index-backing.result.now c.get.result runs.agrees (seen c known))))

pub returns-clause-table : goal.returns-clause-table
unfolding bus_state
returns-clause-table c =
    let inside = c.self.inside in
    let known : c.args.word.0 < length (before c).backing = rw (← c.self.view_is) at c.requires.in_memory in
    let count : length c.carry_out.new.caches ≡ inside.caches.len = (sizes_are c 0).caches.count ∙ sym inside.caches.ok.0 in
    let words : length c.carry_out.new.backing ≡ inside.backing.len = (sizes_are c 0).backing ∙ sym inside.backing.ok.0 in
    rw (with_items_is inside.caches c.carry_out.new.caches count, with_items_is inside.backing c.carry_out.new.backing words, ← c.self.view_is) (λ t place runs.
    read_kept (before c) c.self.invariant c.place_of-place.result c.args.word.0 c.plan_read-plan.result.served c.plan_read-plan.result.line.value (bits_of c.plan_read-plan.result.line.bits) (seen_plan c known) (after c _) (sizes_are c _) refl refl refl (lines_are c) (memory_is c)
    t place runs.agrees runs.within (runs.unit_is ∙ sym c.place_of-place.ensures.at_work))

pub returns-clause-probes : goal.returns-clause-probes
unfolding bus_state
returns-clause-probes c =
    let known : c.args.word.0 < length (before c).backing = rw (← c.self.view_is) at c.requires.in_memory in
    let one : IsOne c.args.probes = c.requires.one in
    let each : CountsEachOther c.args.probes c.fill_beside.new.probes (before c).caches = subst (CountsEachOther c.args.probes c.fill_beside.new.probes) c.deref.ensures.value c.fill_beside.ensures.counted in
    let changed : CountsUpTo c.fill_beside.new.probes c.carry_out.new.probes (length (before c).caches) = subst (λ (xs : List CacheValue). CountsUpTo c.fill_beside.new.probes c.carry_out.new.probes (length xs)) c.deref_mut.ensures.value c.in_default.ensures.searches in
    let found : lines_in (before c).caches c.args.word.0 (get_or (before c).units c.place_of-place.result 0) ≡ option_map seen_of c.args.line = rw (← c.self.view_is, ← c.place_of-place.ensures.at_work) at c.requires.line in
    let miss = never_hit (before c) c.self.invariant c.place_of-place.result c.args.word.0 c.plan_read-plan.result.served c.plan_read-plan.result.line.value (bits_of c.plan_read-plan.result.line.bits) (seen_plan c known) c.args.line found c.requires.idle in
    rw (← c.self.view_is) (look_ups c.plan_read-plan.result.served (length (before c).caches) c.fill_beside.new.probes c.carry_out.new.probes miss c.self.invariant.some_caches (omega (arith, each.searches, one.searches)) changed)
