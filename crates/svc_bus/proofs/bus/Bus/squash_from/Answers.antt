use Rattle.std.proofs.Common.{◌≡◌, ◌∙◌, ◌<◌, refl, sym, ap, subst, false, cond, ℕ, List, length}
use Rattle.std.proofs.lemmas.List.{with_items_is}
use Rattle.svc_cache.specs.Lines.{squash_line}
use Rattle.svc_cache.specs.Places.{CacheValue}
use Rattle.svc_bus_laws.specs.LineTable.{is_cut}
use Rattle.svc_bus_laws.specs.Refusals.{is_head}
use Rattle.svc_retire.specs.Caches.{held_line, SameSizes}
use Rattle.svc_bus.specs.State.{bus_state}
use Rattle.svc_bus.proofs.Squashing.{later_place, squashed_bus, squashed_table}
use Rattle.svc_bus.proofs.bus.Bus.squash_from.Goals as goal

pub invariant_of-self : goal.invariant_of-self
unfolding bus_state
invariant_of-self c =
    let queue : List ℕ = c.self.inside.queue in
    let at = (c.in-Some.ensures c.in-Some.position).0 refl in
    let later : is_head queue c.args.unit.0 ≡ false = rw (← c.self.view_is) at c.requires.later in
    let above : 0 < c.in-Some.position = later_place queue c.args.unit.0 c.in-Some.position later at.0 at.1 in
    let was : c.deref_mut.result.now ≡ c.self.inside.caches.items = c.deref_mut.ensures.value in
    let size : length c.squash_lines.new.caches ≡ c.self.inside.caches.len = c.squash_lines.auto.caches ∙ ap length was ∙ sym c.self.inside.caches.ok.0 in
    rw (with_items_is c.self.inside.caches c.squash_lines.new.caches size, c.cut_from.ensures)
    (squashed_bus _ c.squash_lines.new.caches c.in-Some.position c.self.invariant above at.0
    (subst (λ (cs : List CacheValue). SameSizes cs c.squash_lines.new.caches) was c.squash_lines.ensures.sizes)
    (subst (λ (cs : List CacheValue). (u a : ℕ) → held_line c.squash_lines.new.caches u a ≡ cond (is_cut queue c.in-Some.position u) (squash_line (held_line cs u a)) (held_line cs u a)) was c.squash_lines.ensures.lines))

pub returns-clause-table : goal.returns-clause-table
unfolding bus_state
returns-clause-table c =
    let queue : List ℕ = c.self.inside.queue in
    let at = (c.in-Some.ensures c.in-Some.position).0 refl in
    let later : is_head queue c.args.unit.0 ≡ false = rw (← c.self.view_is) at c.requires.later in
    let above : 0 < c.in-Some.position = later_place queue c.args.unit.0 c.in-Some.position later at.0 at.1 in
    let was : c.deref_mut.result.now ≡ c.self.inside.caches.items = c.deref_mut.ensures.value in
    let size : length c.squash_lines.new.caches ≡ c.self.inside.caches.len = c.squash_lines.auto.caches ∙ ap length was ∙ sym c.self.inside.caches.ok.0 in
    rw (with_items_is c.self.inside.caches c.squash_lines.new.caches size, c.cut_from.ensures, ← c.self.view_is)
    (λ t place runs. squashed_table _ c.squash_lines.new.caches c.in-Some.position c.self.invariant above at.0
    (subst (λ (cs : List CacheValue). SameSizes cs c.squash_lines.new.caches) was c.squash_lines.ensures.sizes)
    (subst (λ (cs : List CacheValue). (u a : ℕ) → held_line c.squash_lines.new.caches u a ≡ cond (is_cut queue c.in-Some.position u) (squash_line (held_line cs u a)) (held_line cs u a)) was c.squash_lines.ensures.lines) t place runs.agrees runs.within (runs.unit_is ∙ sym at.1))
