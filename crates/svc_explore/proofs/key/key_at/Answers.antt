use Rattle.std.proofs.Common.{◌≡◌, ◌≤◌, ◌∙◌, List, ap, arith, length, subst, sym}
use Rattle.std.proofs.lemmas.List.{length-map}
use Rattle.svc_base.specs.declared.ids.UnitId.{UnitId}
use Rattle.svc_bus.specs.State.{bus_state}
use Rattle.svc_machine.specs.Value.{MachineValue}
use Rattle.svc_observations.specs.Rosters.{unit_numbers}
use Rattle.svc_renaming_laws.specs.Orders.{by_order}
use Rattle.svc_explore.specs.KeyWords.{named_words}
use Rattle.svc_explore.proofs.Exploring.{if_ok}
use Rattle.svc_explore.proofs.key.key_at.Goals as goal

pub key_by-requires-clause-few : goal.key_by-requires-clause-few
key_by-requires-clause-few c =
    let m : MachineValue = c.args.machine.now in
    let us : List UnitId = c.in_ok-order.order.items in
    let long : length us ≡ m.config.units = sym (length-map us (λ (u : UnitId). u.0)) ∙ c.in_ok-order.ensures.count in
    let few : m.config.units ≤ 16 = m.config.few_units in
    subst (λ (vs : List UnitId). length vs ≤ 16) (sym c.as_slice.ensures.value) (omega (arith, long, few))

pub returns : goal.returns
returns c =
    let m : MachineValue = c.args.machine.now in
    let us : List UnitId = c.in_ok-order.order.items in
    let value : c.as_slice.result.now ≡ us = c.as_slice.ensures.value in
    let long : length c.as_slice.result.now ≡ m.config.units = ap length value ∙ sym (length-map us (λ (u : UnitId). u.0)) ∙ c.in_ok-order.ensures.count in
    if_ok c.key_by.result _ _
    (λ key e. record {
      order = unit_numbers us;
      is_order = c.in_ok-order.ensures;
      key_is = e ∙ (λ i. named_words (by_order (unit_numbers (value i))) (long i) (c.words_of-words.ensures i) m.plain (bus_state m.bus));
    }) c.key_by.ensures
