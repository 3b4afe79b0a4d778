use Rattle.std.proofs.Common.{◌<◌, ◌∙◌, ◌++◌, List, ℕ, ap, arith, get_or, length, sym}
use Rattle.svc_base.specs.declared.ids.UnitId.{UnitId}
use Rattle.svc_bus_laws.specs.BusState.{BusState}
use Rattle.svc_bus.specs.State.{bus_state}
use Rattle.svc_observations.specs.Rosters.{unit_numbers}
use Rattle.svc_renaming_laws.specs.Orders.{by_order}
use Rattle.svc_explore.specs.KeyWords.{line_code, lines_words, named_lines, slot_words}
use Rattle.svc_explore.proofs.KeyLists.{added, more_named}
use Rattle.svc_explore.proofs.key.push_lines.Goals as goal

pub loop-name-preserved : goal.loop-name-preserved
loop-name-preserved c =
    let b : BusState = bus_state c.args.machine.now.bus in
    let us : List UnitId = c.args.order.now in
    let old : List ℕ = c.args.key.now.items in
    let n : ℕ = c.loop-name.name in
    let words : ℕ = c.args.words in
    let inside : n < length us = omega arith in
    added old c.loop-name.key.items (lines_words n words (named_lines (by_order (unit_numbers us)) b)) (slot_words n words (λ a. line_code (b.lines (get_or us n (record { 0 = 0 })).0 a)))
    c.push_unit.new.key.items c.loop-name.invariant c.in_ok-push_unit.ensures.ok
    ∙ ap (λ (ws : List ℕ). old ++ ws) (sym (more_named us n words b (record { 0 = 0 }) inside))
