use Rattle.svc_bus.specs.State.{bus_state}
use Rattle.std.proofs.Common.{None, replicate, ap, refl, ◌∙◌}
use Rattle.svc_bus.proofs.Opening.{opened_bus, opened_table}
use Rattle.svc_bus.proofs.bus.Bus.open.Goals as goal

pub invariant_of-result : goal.invariant_of-result
unfolding bus_state
invariant_of-result c =
    opened_bus _ c.args.units c.args.sets c.args.ways c.requires.some_units c.requires.few_units c.requires.few_ways c.requires.few_words c.in_ok-caches.ensures.count c.in_ok-caches.ensures.empty
    (c.in_ok-spill.ensures ∙ ap (λ n. replicate n None) (c.len.ensures ∙ c.args.memory.ok.0)) refl c.new.ensures

pub returns-clause-table : goal.returns-clause-table
unfolding bus_state
returns-clause-table c =
    opened_table _ c.args.units c.args.sets c.args.ways c.requires.some_units c.requires.few_units c.requires.few_ways c.requires.few_words c.in_ok-caches.ensures.count c.in_ok-caches.ensures.empty
    (c.in_ok-spill.ensures ∙ ap (λ n. replicate n None) (c.len.ensures ∙ c.args.memory.ok.0)) refl c.new.ensures
