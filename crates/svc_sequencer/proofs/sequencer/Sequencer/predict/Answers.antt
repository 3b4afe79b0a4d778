use Rattle.std.proofs.Common.{◌≡◌, ◌∙◌, ℕ, List, Option, Some, ap, ap₂, sym, subst, unwrap_or, length, slice_get, get_or, arith, ◌-◌}
use Rattle.svc_core_laws.specs.Program.{due_after}
use Rattle.svc_machine_laws.specs.Guess.{youngest, entry_after}
use Rattle.svc_machine_laws.specs.Guide.{Guide, guess_of, successor_in}
use Rattle.svc_sequencer.specs.Tables.{IsIndex}
use Rattle.svc_sequencer.proofs.Placed.{as_long, place_of_youngest, some_active}
use Rattle.svc_sequencer.proofs.Guided.{youngest_last, predicted}
use Rattle.svc_sequencer.proofs.sequencer.Sequencer.predict.Goals as goal

-- the youngest handed on
pub returns-in-Some-handed_on : goal.returns-in-Some-handed_on
returns-in-Some-handed_on c =
    let active = c.self.inside.active.items in
    let entries = c.self.inside.entries.items in
    let successors = c.self.inside.successors.items in
    let e = c.in-Some.field-0.now in
    let last : youngest active ≡ Some e =
    sym (youngest_last active) ∙ sym (c.in-Some.ensures.value ∙ ap (λ xs. slice_get xs (length xs - 1)) c.deref.ensures.0) in
    let on : Some c.in-Some-handed_on.entry ≡ due_after c.args.ended = c.in-Some-handed_on.ensures in
    predicted (record { entries = entries; due = c.self.inside.due; successors = successors; active = active }) c.args.ended e c.in-Some-handed_on.entry last
    (ap (λ o. unwrap_or o (unwrap_or (successor_in entries successors e) (entry_after entries e))) on)
    ∙ ap (guess_of c.args.ended) c.self.view_is

-- it didn't
pub bounds-deref-len : goal.bounds-deref-len
bounds-deref-len c =
    let active = c.self.inside.active.items in
    let indices = c.self.inside.indices.items in
    let last : youngest active ≡ Some c.in-Some.field-0.now =
    sym (youngest_last active) ∙ sym (c.in-Some.ensures.value ∙ ap (λ xs. slice_get xs (length xs - 1)) c.deref.ensures.0) in
    let some = some_active active c.in-Some.field-0.now last in
    let long = as_long c.self.inside.entries.items active indices c.self.invariant.placed in
    let same = ap (λ (ps : List ℕ). length ps) c.deref-in-None-handed_on.ensures.0 in
    omega (arith, some, long, same, c.len.ensures.value)

pub following-requires-clause-index : goal.following-requires-clause-index
following-requires-clause-index c =
    let active = c.self.inside.active.items in
    let indices = c.self.inside.indices.items in
    let e = c.in-Some.field-0.now in
    let last : youngest active ≡ Some e =
    sym (youngest_last active) ∙ sym (c.in-Some.ensures.value ∙ ap (λ xs. slice_get xs (length xs - 1)) c.deref.ensures.0) in
    let index = place_of_youngest c.self.inside.entries.items active indices e c.self.invariant.placed last in
    let there : get_or c.deref-in-None-handed_on.result.now (c.len.result - 1) 0 ≡ get_or indices (length active - 1) 0 =
    ap (λ (ps : List ℕ). get_or ps (c.len.result - 1) 0) c.deref-in-None-handed_on.ensures.0 ∙ ap (λ (n : ℕ). get_or indices (n - 1) 0) c.len.ensures.value in
    subst (λ (xs : List ℕ). IsIndex xs e (get_or c.deref-in-None-handed_on.result.now (c.len.result - 1) 0)) (sym c.deref-in-None-handed_on-2.ensures.value)
    (subst (IsIndex c.self.inside.entries.items e) (sym there) index)

pub returns-in-None-handed_on : goal.returns-in-None-handed_on
returns-in-None-handed_on c =
    let active = c.self.inside.active.items in
    let entries = c.self.inside.entries.items in
    let successors = c.self.inside.successors.items in
    let e = c.in-Some.field-0.now in
    let last : youngest active ≡ Some e =
    sym (youngest_last active) ∙ sym (c.in-Some.ensures.value ∙ ap (λ xs. slice_get xs (length xs - 1)) c.deref.ensures.0) in
    let is : c.following.result ≡ unwrap_or (successor_in entries successors e) (entry_after entries e) =
    c.following.ensures
    ∙ ap₂ (λ (xs : List ℕ) (os : List (Option ℕ)). unwrap_or (successor_in xs os e) (entry_after xs e)) c.deref-in-None-handed_on-2.ensures.value c.deref-in-None-handed_on-3.ensures.value in
    predicted (record { entries = entries; due = c.self.inside.due; successors = successors; active = active }) c.args.ended e c.following.result last
    (is ∙ ap (λ o. unwrap_or o (unwrap_or (successor_in entries successors e) (entry_after entries e))) c.in-None-handed_on.ensures)
    ∙ ap (guess_of c.args.ended) c.self.view_is
