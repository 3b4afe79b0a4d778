use Rattle.std.proofs.Common.{◌≡◌, ◌∙◌, List, false, subst, sym, vec_items}
use Rattle.svc_explore_laws.specs.Closed.{IsIn}
use Rattle.svc_explore.specs.Counts.{AddsPlace}
use Rattle.svc_explore.specs.Search.{GrowsTo, Place, are_keys}
use Rattle.svc_explore.proofs.Counting.{adds_grow, adds_place, holds}
use Rattle.svc_explore.proofs.Growing.{found_listed, insert_listed, put}
use Rattle.svc_explore.proofs.walk.note_key.Goals as goal

pub returns-then-contains_key-clause-listed : goal.returns-then-contains_key-clause-listed
returns-then-contains_key-clause-listed c =
    subst (λ k. IsIn k (are_keys c.args.keys.now.entries)) c.as_slice.ensures.value
    (found_listed c.as_slice.result.now c.args.keys.now.entries (sym c.contains_key.ensures ∙ c.if-contains_key.true))

pub returns-clause-listed : goal.returns-clause-listed
returns-clause-listed c =
    subst (λ (es : List Place). IsIn (vec_items c.args.key) (are_keys es)) (sym c.in_ok-insert.ensures.entries) (insert_listed c.args.key c.args.path c.args.keys.now.entries)

pub returns-clause-adds : goal.returns-clause-adds
returns-clause-adds c =
    let fresh : holds c.args.key c.args.keys.now.entries ≡ false =
    subst (λ k. Rattle.std.proofs.Common.is_some (Rattle.std.specs.Map.lookup (λ a. Rattle.std.specs.Str.bytes_eq k (vec_items a)) c.args.keys.now.entries) ≡ false) c.as_slice.ensures.value
    (sym c.contains_key.ensures ∙ c.if-contains_key.false) in
    subst (λ (es : List Place). AddsPlace c.args.keys.now.entries es c.args.key c.args.path) (sym c.in_ok-insert.ensures.entries) (adds_place c.args.key c.args.path c.args.keys.now.entries fresh)

pub returns-clause-grows : goal.returns-clause-grows
returns-clause-grows c =
    let fresh : holds c.args.key c.args.keys.now.entries ≡ false =
    subst (λ k. Rattle.std.proofs.Common.is_some (Rattle.std.specs.Map.lookup (λ a. Rattle.std.specs.Str.bytes_eq k (vec_items a)) c.args.keys.now.entries) ≡ false) c.as_slice.ensures.value
    (sym c.contains_key.ensures ∙ c.if-contains_key.false) in
    subst (λ (es : List Place). GrowsTo c.args.keys.now.entries es) (sym c.in_ok-insert.ensures.entries)
    (adds_grow c.args.keys.now.entries (put c.args.key c.args.path c.args.keys.now.entries) c.args.key c.args.path (adds_place c.args.key c.args.path c.args.keys.now.entries fresh))
