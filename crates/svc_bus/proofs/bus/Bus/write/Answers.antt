use Rattle.std.proofs.Common.{rules, ◌≡◌, ◌∙◌, ◌<◌, refl, sym, ap, ap₂, subst, ℕ, Option, Some, List, length, get_or, option_map, arith}
use Rattle.std.proofs.lemmas.List.{with_items_is}
use Rattle.svc_vol.specs.declared.held_line.HeldLine.{HeldLine}
use Rattle.svc_base.specs.declared.ids.UnitId.{UnitId}
use Rattle.svc_base.specs.declared.refusal.Refusal.TheVariants as refusal
use Rattle.svc_line.specs.Line.{SeenLine, seen_line}
use Rattle.svc_cache.specs.Places.{CacheValue}
use Rattle.svc_vol.specs.Lines.{CountsOneOfEach}
use Rattle.svc_bus_laws.specs.Steps.{with_at}
use Rattle.svc_retire.specs.Caches.{held_line, SameSizes}
use Rattle.svc_retire.specs.Purges.{committed_in}
use Rattle.svc_bus.specs.Value.{BusValue}
use Rattle.svc_bus.specs.State.{bus_state}
use Rattle.svc_bus.specs.Calls.{full_refusal}
use Rattle.svc_bus.specs.Looking.{CountsUpTo}
use Rattle.svc_bus.specs.Stores.{CanChange, left_line, stored_line}
use Rattle.svc_bus.proofs.Keeping.{KeepsSizes}
use Rattle.svc_bus.proofs.Full.{all_end}
use Rattle.svc_bus.proofs.Knowing.{units_known}
use Rattle.svc_bus.proofs.Requests.{bus_request, listable}
use Rattle.svc_bus.proofs.Rooms.{room_for_each}
use Rattle.svc_bus.proofs.Planning.{HasList, listed, room_to_store, refusal_is, unit_known, chosen_within, left_is, chosen_shown, held_lines, once_each, planned, line_active}
use Rattle.svc_bus.proofs.Writing.{IsPlanned, IsWritten, written_bus, written_agreed}
use Rattle.svc_bus.proofs.bus.Bus.write.Goals as goal

pub place_of-place-requires : goal.place_of-place-requires
unfolding bus_state
place_of-place-requires c =
    let work = rw (← c.self.view_is) at c.requires.at_work in
    (work.0, work.1.within, work.1.unit_is)

pub fill-requires-clause-room : goal.fill-requires-clause-room
fill-requires-clause-room c = room_for_each _ c.self.invariant c.new-probes.result c.deref.result.now c.new-probes.ensures.searches c.new-probes.ensures.places c.deref.ensures.value

pub fill-requires-clause-listed : goal.fill-requires-clause-listed
fill-requires-clause-listed c = listable _ c.self.invariant c.deref.result.now c.deref.ensures.value c.args.word.0

pub store_line-requires-clause-request : goal.store_line-requires-clause-request
unfolding bus_state
store_line-requires-clause-request c =
    let unit = unit_known _ c.self.invariant c.args.unit.0 c.place_of-place.result c.place_of-place.ensures.within c.place_of-place.ensures.at_work in
    let known : c.args.word.0 < length c.self.inside.backing.items = rw (← c.self.view_is) at c.requires.in_memory in
    bus_request _ c.self.invariant c.deref_mut.result.now c.deref_mut.ensures.value c.deref_mut-2.result.now c.deref_mut-2.ensures.value c.args.unit.0 c.args.word.0 c.fill.new.self c.deref.result.now c.deref.ensures.value c.fill.ensures.list unit known

pub store_line-requires-clause-ends : goal.store_line-requires-clause-ends
store_line-requires-clause-ends c = all_end _ c.self.invariant c.deref_mut.result.now c.deref_mut.ensures.value c.deref_mut-2.result.now c.deref_mut-2.ensures.value

pub store_line-requires-clause-units : goal.store_line-requires-clause-units
store_line-requires-clause-units c = rw c.deref_mut.ensures.value (units_known _ c.self.invariant)

pub store_line-requires-clause-change : goal.store_line-requires-clause-change
store_line-requires-clause-change c =
    let list = listed _ c.self.invariant c.args.word.0 c.fill.new.self c.deref.result.now c.deref.ensures.value c.fill.ensures.list in
    let changed = c.plan_write-plan.new.changed.items in
    let can : CanChange c.deref_mut.result.now c.args.unit.0 c.args.word.0 changed = record {
      held = held_lines _ c.self.invariant c.args.unit.0 c.place_of-place.result c.args.word.0 c.place_of-place.ensures.within c.place_of-place.ensures.at_work c.fill.new.self list changed c.plan_write-plan.ensures.listed c.deref_mut.result.now c.deref_mut.ensures.value;
      once = once_each _ c.self.invariant c.args.unit.0 c.place_of-place.result c.args.word.0 c.place_of-place.ensures.within c.place_of-place.ensures.at_work c.fill.new.self list changed c.plan_write-plan.ensures.listed c.deref_mut.result.now c.deref_mut.ensures.value;
    } in
    rw c.deref-2.ensures.0 can

pub store_line-requires-clause-active : goal.store_line-requires-clause-active
unfolding bus_state
store_line-requires-clause-active c =
    let list = listed _ c.self.invariant c.args.word.0 c.fill.new.self c.deref.result.now c.deref.ensures.value c.fill.ensures.list in
    let known : c.args.word.0 < length c.self.inside.backing.items = rw (← c.self.view_is) at c.requires.in_memory in
    line_active _ c.self.invariant c.args.unit.0 c.place_of-place.result c.args.word.0 c.place_of-place.ensures.within c.place_of-place.ensures.at_work c.fill.new.self list c.plan_write-plan.new.changed.items c.plan_write-plan.ensures.listed c.args.value c.unwrap_or-left.result (seen_line c.plan_write-plan.result.line) (option_map (λ (u : UnitId). u.0) c.plan_write-plan.result.previous)
    (left_is _ c.self.invariant c.args.unit.0 c.place_of-place.result c.args.word.0 c.place_of-place.ensures.within c.place_of-place.ensures.at_work c.fill.new.self list c.plan_write-plan.result.victim c.len-tasks.result c.len-tasks.ensures.count c.plan_write-plan.ensures.victim c.unwrap_or-left.result c.unwrap_or-left.ensures)
    c.plan_write-plan.ensures.value c.plan_write-plan.ensures.valid c.plan_write-plan.ensures.line c.plan_write-plan.ensures.others c.plan_write-plan.ensures.next c.plan_write-plan.ensures.previous c.plan_write-plan.ensures.linked known

pub store_line-requires-clause-room : goal.store_line-requires-clause-room
store_line-requires-clause-room c = room_to_store _ c.self.invariant c.deref_mut.result.now c.deref_mut.ensures.value c.new-probes.result c.fill.new.probes c.new-probes.ensures.searches c.new-probes.ensures.places (subst (CountsOneOfEach c.new-probes.result c.fill.new.probes) c.deref.ensures.value c.fill.ensures.counted)

pub returns-in_err-store_line-clause-refused : goal.returns-in_err-store_line-clause-refused
unfolding bus_state
returns-in_err-store_line-clause-refused c =
    let known = unit_known _ c.self.invariant c.args.unit.0 c.place_of-place.result c.place_of-place.ensures.within c.place_of-place.ensures.at_work in
    let answer = refusal_is _ c.self.invariant c.args.unit.0 c.args.word.0 known c.deref_mut.result.now c.deref_mut.ensures.value c.deref_mut-2.result.now c.deref_mut-2.ensures.value in
    let refused : full_refusal (bus_state c.args.self.now) c.args.unit.0 c.args.word.0 ≡ Some c.in_err-store_line.field-0.0 = rw (← c.self.view_is) (sym answer ∙ c.in_err-store_line.ensures.refused) in
    search rules

pub empty_spill-requires : goal.empty_spill-requires
unfolding bus_state
empty_spill-requires c = rw c.self.invariant.spills (rw (← c.self.view_is) at c.requires.in_memory)

pub victim_of-requires-clause-within : goal.victim_of-requires-clause-within
victim_of-requires-clause-within c =
    let list = listed _ c.self.invariant c.args.word.0 c.fill.new.self c.deref.result.now c.deref.ensures.value c.fill.ensures.list in
    chosen_within _ c.self.invariant c.args.unit.0 c.place_of-place.result c.args.word.0 c.place_of-place.ensures.within c.place_of-place.ensures.at_work c.fill.new.self list c.plan_write-plan.result.victim c.len-tasks.result c.len-tasks.ensures.count c.plan_write-plan.ensures.victim

abbrev before : goal.After-victim_of → BusValue
before c = let inside = c.self.inside in record { caches = inside.caches.items; spill = inside.spill; backing = inside.backing.items; units = inside.queue; commits = inside.commits; probes = inside.probes }

-- whatever it tells of look-ups
abbrev after : goal.After-victim_of → ℕ → BusValue
after c told = record (before c) { caches = c.store_line.new.caches; spill = c.empty_spill.new.spill; backing = c.store_line.new.backing; units = c.cut_from.new.self; probes = told }

abbrev line : goal.After-victim_of → SeenLine
line c = seen_line c.plan_write-plan.result.line

abbrev previous : goal.After-victim_of → Option ℕ
previous c = option_map (λ (u : UnitId). u.0) c.plan_write-plan.result.previous

abbrev changed : goal.After-victim_of → List HeldLine
changed c = c.plan_write-plan.new.changed.items

plan_of : (c : goal.After-victim_of) → IsPlanned (before c) c.place_of-place.result c.args.word.0 c.args.value (line c) (previous c) (changed c) c.unwrap_or-left.result
plan_of c =
    let list : HasList (before c) c.args.word.0 c.fill.new.self = listed (before c) c.self.invariant c.args.word.0 c.fill.new.self c.deref.result.now c.deref.ensures.value c.fill.ensures.list in
    planned (before c) c.self.invariant c.args.unit.0 c.place_of-place.result c.args.word.0 c.place_of-place.ensures.within c.place_of-place.ensures.at_work c.fill.new.self list
    c.plan_write-plan.new.changed.items c.plan_write-plan.ensures.listed c.args.value c.unwrap_or-left.result (seen_line c.plan_write-plan.result.line) (option_map (λ (u : UnitId). u.0) c.plan_write-plan.result.previous)
    (left_is (before c) c.self.invariant c.args.unit.0 c.place_of-place.result c.args.word.0 c.place_of-place.ensures.within c.place_of-place.ensures.at_work c.fill.new.self list c.plan_write-plan.result.victim c.len-tasks.result c.len-tasks.ensures.count c.plan_write-plan.ensures.victim c.unwrap_or-left.result c.unwrap_or-left.ensures)
    c.plan_write-plan.ensures.value c.plan_write-plan.ensures.valid c.plan_write-plan.ensures.line c.plan_write-plan.ensures.others c.plan_write-plan.ensures.next c.plan_write-plan.ensures.previous c.plan_write-plan.ensures.linked

sizes_are : (c : goal.After-victim_of) (told : ℕ) → KeepsSizes (before c) (after c told)
sizes_are c told = record {
  caches = subst (λ (xs : List CacheValue). SameSizes xs c.store_line.new.caches) c.deref_mut.ensures.value c.store_line.ensures.sizes;
  spill = c.empty_spill.ensures.size;
  backing = c.store_line.auto.backing ∙ ap (λ (xs : List ℕ). length xs) c.deref_mut-2.ensures.value;
}

written : (c : goal.After-victim_of) (told : ℕ) → IsWritten (before c) (after c told) c.place_of-place.result c.args.word.0 (line c) (previous c) (changed c) c.unwrap_or-left.result
written c told =
    let caches : c.deref_mut.result.now ≡ (before c).caches = c.deref_mut.ensures.value in
    let memory : c.deref_mut-2.result.now ≡ (before c).backing = c.deref_mut-2.ensures.value in
    record {
      lines = λ u a.
          c.in_ok-store_line.ensures.lines u a
          ∙ ap₂ (λ (xs : List CacheValue) (us : List HeldLine). left_line (before c).units c.unwrap_or-left.result u (stored_line (held_line xs) c.args.unit.0 c.args.word.0 (Some (line c)) (previous c) us u a)) caches c.deref-2.ensures.0
          ∙ ap (λ unit. left_line (before c).units c.unwrap_or-left.result u (stored_line (held_line (before c).caches) unit c.args.word.0 (Some (line c)) (previous c) (changed c) u a)) (sym c.place_of-place.ensures.at_work);
      memory = λ a. c.in_ok-store_line.ensures.memory a ∙ ap₂ (λ (xs : List ℕ) (ys : List CacheValue). with_at (λ x. get_or xs x 0) c.args.word.0 (committed_in ys xs c.args.word.0) a) memory caches;
      versions = c.empty_spill.ensures.versions;
      sizes = sizes_are c told;
      commits = refl;
      units = c.cut_from.ensures;
    }

pub invariant_of-self-2 : goal.invariant_of-self-2
unfolding bus_state
invariant_of-self-2 c =
    let inside = c.self.inside in
    let known : c.args.word.0 < length inside.backing.items = rw (← c.self.view_is) at c.requires.in_memory in
    let count : length c.store_line.new.caches ≡ inside.caches.len = (sizes_are c 0).caches.count ∙ sym inside.caches.ok.0 in
    let words : length c.store_line.new.backing ≡ inside.backing.len = (sizes_are c 0).backing ∙ sym inside.backing.ok.0 in
    rw (with_items_is inside.caches c.store_line.new.caches count, with_items_is inside.backing c.store_line.new.backing words)
    (written_bus (before c) c.self.invariant c.place_of-place.result c.args.word.0 c.args.value (line c) (previous c) (changed c) c.unwrap_or-left.result c.place_of-place.ensures.within known (plan_of c) (after c _) (written c _))

pub returns-clause-refused : goal.returns-clause-refused
unfolding bus_state
returns-clause-refused c =
    let known = unit_known (before c) c.self.invariant c.args.unit.0 c.place_of-place.result c.place_of-place.ensures.within c.place_of-place.ensures.at_work in
    let answer = refusal_is (before c) c.self.invariant c.args.unit.0 c.args.word.0 known c.deref_mut.result.now c.deref_mut.ensures.value c.deref_mut-2.result.now c.deref_mut-2.ensures.value in
    rw (← c.self.view_is) (sym answer ∙ ap (option_map (λ (named : ℕ). refusal.SetFull (record { 0 = named }))) c.in_ok-store_line.ensures.refused)

pub returns-clause-victim : goal.returns-clause-victim
unfolding bus_state
returns-clause-victim c =
    let list : HasList (before c) c.args.word.0 c.fill.new.self = listed (before c) c.self.invariant c.args.word.0 c.fill.new.self c.deref.result.now c.deref.ensures.value c.fill.ensures.list in
    rw (← c.self.view_is) (λ s p runs. c.victim_of.ensures ∙ chosen_shown (before c) c.self.invariant c.args.unit.0 c.place_of-place.result c.args.word.0 c.place_of-place.ensures.within c.place_of-place.ensures.at_work c.fill.new.self list c.plan_write-plan.result.victim c.len-tasks.result c.len-tasks.ensures.count c.plan_write-plan.ensures.victim s p runs.agrees runs.within runs.unit_is)

pub returns-clause-table : goal.returns-clause-table
unfolding bus_state
returns-clause-table c =
    let inside = c.self.inside in
    let known : c.args.word.0 < length inside.backing.items = rw (← c.self.view_is) at c.requires.in_memory in
    let count : length c.store_line.new.caches ≡ inside.caches.len = (sizes_are c 0).caches.count ∙ sym inside.caches.ok.0 in
    let words : length c.store_line.new.backing ≡ inside.backing.len = (sizes_are c 0).backing ∙ sym inside.backing.ok.0 in
    rw (with_items_is inside.caches c.store_line.new.caches count, with_items_is inside.backing c.store_line.new.backing words, ← c.self.view_is)
    (λ s p runs. written_agreed (before c) c.self.invariant c.place_of-place.result c.args.word.0 c.args.value (line c) (previous c) (changed c) c.unwrap_or-left.result c.place_of-place.ensures.within known (plan_of c) (after c _) (written c _) s p runs.agrees runs.within (runs.unit_is ∙ sym c.place_of-place.ensures.at_work))

pub returns-clause-probes : goal.returns-clause-probes
unfolding bus_state
returns-clause-probes c =
    let each : CountsOneOfEach c.new-probes.result c.fill.new.probes (before c).caches = subst (CountsOneOfEach c.new-probes.result c.fill.new.probes) c.deref.ensures.value c.fill.ensures.counted in
    let changed : CountsUpTo c.fill.new.probes c.store_line.new.probes (length (before c).caches) = subst (λ (xs : List CacheValue). CountsUpTo c.fill.new.probes c.store_line.new.probes (length xs)) c.deref_mut.ensures.value c.in_ok-store_line.ensures.searches in
    rw (← c.self.view_is) (record {
      some = omega (arith, c.new-probes.ensures.searches, each.searches, changed.kept);
      few = omega (arith, c.new-probes.ensures.searches, each.searches, changed.few);
    })
