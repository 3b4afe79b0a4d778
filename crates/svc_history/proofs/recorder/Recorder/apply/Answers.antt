use Rattle.std.proofs.Common.{◌≡◌, ◌<◌, ◌∙◌, [], ◌∷◌, ◌++◌, Result, Ok, Err, true, is_ok, sym, ap, subst, arith, vec_len, vec_capacity, length, slice_index_or}
use Rattle.std.proofs.lemmas.List.{get_or_push}
use Rattle.std.proofs.lemmas.Result.{err_from_is_err_and}
use Rattle.svc_base.specs.declared.refusal.Refusal.{Refusal}
use Rattle.svc_machine_laws.specs.Standing.{Standing, after_event}
use Rattle.svc_machine_laws.proofs.Given.{given}
use Rattle.svc_machine.specs.Events.{event_of}
use Rattle.svc_history_laws.specs.declared.entry.Slip.{Slip}
use Rattle.svc_history.specs.Applying.{IsApplied}
use Rattle.svc_history.specs.Recorded.{Recorded, standing_of}
use Rattle.svc_history.specs.Kept.{IsKept}
use Rattle.svc_history.proofs.Recording.{Follows, counts, recorded, sequential, leads_there, stayed, entry_is, below_limit}
use Rattle.svc_history.proofs.Small.{small}
use Rattle.svc_history.proofs.recorder.Recorder.apply.Goals as goal

pub telling-entry-requires : goal.telling-entry-requires
telling-entry-requires c =
    let r : Recorded = record { machine = c.self.inside.machine; entries = c.self.inside.entries.items } in
    let kept : IsKept r = c.self.invariant.0 in
    let says = c.in_ok-reply.ensures {u = tt} in
    let config = r.machine.config in
    small r.machine.image (given r.machine.image kept.image) config config.few_events config.few_units (standing_of r) kept.reached
    (event_of c.args.event) c.fields_of-fields.ensures.sound (says.refused (standing_of r) kept.legal.here) c.in_ok-reply.reply (says.reply (standing_of r) kept.legal.here)

-- after it
abbrev before_push_i : goal.After-index-arg-1 → Recorded
before_push_i c = record { machine = c.self.inside.machine; entries = c.self.inside.entries.items }

follows_i : (c : goal.After-index-arg-1) → Follows (before_push_i c) (event_of c.args.event) c.step.new.self c.telling-entry.result
follows_i c =
    let here = c.self.invariant.0.legal.here in
    let s : Standing = standing_of (before_push_i c) in
    record {
      event = c.fields_of-fields.ensures.sound;
      accepted = (c.in_ok-reply.ensures {u = tt}).refused s here;
      image = c.step.ensures.image;
      config = c.step.ensures.config;
      at = c.step.ensures.standing s here;
      entry = entry_is (event_of c.args.event) c.in_ok-reply.reply _ _ c.telling-entry.result c.fields_of-fields.ensures.entry ((c.in_ok-reply.ensures {u = tt}).reply s here) c.telling-entry.ensures;
    }

-- there was room for the entry
fits_i : (c : goal.After-index-arg-1) → is_ok c.push-pushed.result ≡ true
fits_i c =
    let i = c.self.invariant in
    let room = below_limit (before_push_i c).machine.image (before_push_i c).machine.config (standing_of (before_push_i c)) (event_of c.args.event) (follows_i c).accepted in
    let free : vec_len c.self.inside.entries < vec_capacity c.self.inside.entries = omega (arith, room, i.0.accepted, i.1, c.self.inside.entries.ok.0) in
    c.push-pushed.ensures.succeeds free

pub index-requires : goal.index-requires
index-requires c = let ok = fits_i c in omega (arith, c.len-index.ensures, rw ok at c.push-pushed.ensures.len)

-- after it
abbrev before_push : goal.After-result-1 → Recorded
before_push c = record { machine = c.self.inside.machine; entries = c.self.inside.entries.items }

follows : (c : goal.After-result-1) → Follows (before_push c) (event_of c.args.event) c.step.new.self c.telling-entry.result
follows c =
    let here = c.self.invariant.0.legal.here in
    let s : Standing = standing_of (before_push c) in
    record {
      event = c.fields_of-fields.ensures.sound;
      accepted = (c.in_ok-reply.ensures {u = tt}).refused s here;
      image = c.step.ensures.image;
      config = c.step.ensures.config;
      at = c.step.ensures.standing s here;
      entry = entry_is (event_of c.args.event) c.in_ok-reply.reply _ _ c.telling-entry.result c.fields_of-fields.ensures.entry ((c.in_ok-reply.ensures {u = tt}).reply s here) c.telling-entry.ensures;
    }

-- there was room for the entry
fits : (c : goal.After-result-1) → is_ok c.push-pushed.result ≡ true
fits c =
    let i = c.self.invariant in
    let room = below_limit (before_push c).machine.image (before_push c).machine.config (standing_of (before_push c)) (event_of c.args.event) (follows c).accepted in
    let free : vec_len c.self.inside.entries < vec_capacity c.self.inside.entries = omega (arith, room, i.0.accepted, i.1, c.self.inside.entries.ok.0) in
    c.push-pushed.ensures.succeeds free

pushed : (c : goal.After-result-1) → c.push-pushed.new.self.items ≡ c.self.inside.entries.items ++ c.telling-entry.result ∷ []
pushed c = let ok = fits c in rw ok at c.push-pushed.ensures.items

abbrev after : goal.After-result-1 → Recorded
after c = record { machine = c.step.new.self; entries = c.push-pushed.new.self.items }

kept_after : (c : goal.After-result-1) → IsKept (after c)
kept_after c = subst (λ es. IsKept (record { machine = c.step.new.self; entries = es })) (sym (pushed c)) (recorded (before_push c) (event_of c.args.event) c.step.new.self c.telling-entry.result c.self.invariant.0 (follows c))

led : (c : goal.After-result-1) → standing_of (after c) ≡ after_event (before_push c).machine.image (before_push c).machine.config (standing_of (before_push c)) (event_of c.args.event)
led c =
    ap (λ es. standing_of (record { machine = c.step.new.self; entries = es })) (pushed c) ∙ leads_there (before_push c) (event_of c.args.event) c.step.new.self c.telling-entry.result c.self.invariant.0 (follows c)

pub invariant_of-self-2 : goal.invariant_of-self-2
invariant_of-self-2 c = (kept_after c, omega (arith, c.self.invariant.1, c.push-pushed.ensures.capacity, ap (λ g. g.events) c.step.ensures.config))

-- a refused event
pub returns-in_err-reply : goal.returns-in_err-reply
returns-in_err-reply c =
    let r : Recorded = record { machine = c.self.inside.machine; entries = c.self.inside.entries.items } in
    let after : Recorded = record { machine = c.step.new.self; entries = c.self.inside.entries.items } in
    let x = event_of c.args.event in
    let kept : IsKept r = c.self.invariant.0 in
    let says = c.in_err-reply.ensures {u = tt} in
    let because = says.refused (standing_of r) kept.legal.here in
    let told = err_from_is_err_and c.from_residual.result c.from_residual.ensures.1 in
    let same : c.from_residual.result ≡ Err c.in_err-reply.field-0.0 = told.1 ∙ ap Err told.2 in
    subst (λ (old : Recorded). IsApplied old after x c.from_residual.result) c.self.view_is
    (subst (λ (answer : Result Slip Refusal). IsApplied r after x answer) (sym same) (stayed r x c.step.new.self _ kept because says.unchanged))

-- the entry that was pushed last
kept_entry : (c : goal.After-result-1) → c.index.result.now ≡ c.telling-entry.result
kept_entry c =
    let old = c.self.inside.entries.items in
    let at : c.len-index.result ≡ length old = omega (arith, c.len-index.ensures, c.self.inside.entries.ok.0) in
    c.index.ensures ∙ ap (λ es. slice_index_or es c.len-index.result c.index.result.now) (pushed c) ∙ get_or_push old c.telling-entry.result c.index.result.now c.len-index.result (sym at)

-- an accepted one
pub returns : goal.returns
returns c =
    let r = before_push c in
    let kept = kept_after c in
    let f = follows c in
    let x = event_of c.args.event in
    let done : IsApplied r (after c) x (Ok (record { index = c.len-index.result; entry = c.telling-entry.result })) = record {
      refused = f.accepted;
      index = omega (arith, c.len-index.ensures, c.self.inside.entries.ok.0);
      entry = f.entry;
      entries = pushed c;
      standing = led c;
      image = f.image;
      config = f.config;
      unchanged = tt;
      was_legal = c.self.invariant.0.legal;
      legal = kept.legal;
      counted = counts (after c) kept;
      headline = sequential (after c) kept;
    } in
    subst (λ (old : Recorded). IsApplied old (after c) x (Ok (record { index = c.len-index.result; entry = c.index.result.now }))) c.self.view_is
    (subst (λ e. IsApplied r (after c) x (Ok (record { index = c.len-index.result; entry = e }))) (sym (kept_entry c)) done)
