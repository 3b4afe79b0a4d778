use Rattle.std.proofs.Common.{◌≡◌, ◌∷◌, ◌++◌, ◌+◌, ◌∙◌, ◌<◌, [], ℕ, List, Bool, Some, None, length, take, drop, get_or, sym, ap, add-one, drop-cons, append_assoc}
use Rattle.std.specs.Prelude.{if◌then◌else◌}
use Rattle.std.proofs.lemmas.Bool.{lt-ltb}
use Rattle.std.proofs.lemmas.List.{take_more}
use Rattle.svc_record_limit.specs.Places.{gauge_after, passed}
use Rattle.svc_record_limit.proofs.Limits.{gauge_none, gauge_some}
use Rattle.svc_record_limit.proofs.gauge.Gauge.pass_all.Goals as goal

onward : (bytes : List ℕ) (k : ℕ) (rest : List ℕ) → k < length bytes → drop k bytes ++ rest ≡ get_or bytes k 0 ∷ (drop (k + 1) bytes ++ rest)
onward bytes k rest low = ap (λ (t : List ℕ). t ++ rest) (drop-cons bytes k 0 low) ∙ ap (λ (j : ℕ). get_or bytes k 0 ∷ (drop j bytes ++ rest)) (sym (add-one k))

one_more : (bytes : List ℕ) (k : ℕ) (xs : List ℕ) → k < length bytes → take k bytes ++ (get_or bytes k 0 ∷ xs) ≡ take (k + 1) bytes ++ xs
one_more bytes k xs low = sym (ap (λ (t : List ℕ). t ++ xs) (take_more bytes k 0 low) ∙ append_assoc (take k bytes) (get_or bytes k 0 ∷ []) xs)

pub returns-then-not-pass-clause-passes : goal.returns-then-not-pass-clause-passes
returns-then-not-pass-clause-passes c rest =
    let l = c.loop-count in
    let bytes = c.args.bytes.now in
    let low = c.loop-count-test.true in
    let ended : gauge_after l.self (get_or bytes l.count 0) ≡ None = c.pass.ensures ∙ ap (λ (b : Bool). if b then Some c.pass.new.self else None) c.if-not-pass.true in
    rw (lt-ltb _ _ low) (l.invariant rest ∙ ap (λ t. take l.count bytes ++ t)
    (ap (passed (Some l.self)) (onward bytes l.count rest low) ∙ gauge_none l.self (get_or bytes l.count 0) (drop (l.count + 1) bytes ++ rest) ended))

pub loop-count-preserved : goal.loop-count-preserved
loop-count-preserved c rest =
    let l = c.loop-count in
    let bytes = c.args.bytes.now in
    let low = c.loop-count-test.true in
    let next = c.pass.new.self in
    let on : gauge_after l.self (get_or bytes l.count 0) ≡ Some next = c.pass.ensures ∙ ap (λ (b : Bool). if b then Some next else None) c.if-not-pass.false in
    l.invariant rest ∙ ap (λ t. take l.count bytes ++ t)
    (ap (passed (Some l.self)) (onward bytes l.count rest low) ∙ gauge_some l.self next (get_or bytes l.count 0) (drop (l.count + 1) bytes ++ rest) on)
    ∙ one_more bytes l.count (passed (Some next) (drop (l.count + 1) bytes ++ rest)) low
