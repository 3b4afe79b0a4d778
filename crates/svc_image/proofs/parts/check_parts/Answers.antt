use Rattle.std.proofs.Common.{◌≡◌, ◌∙◌, sym, ap, refl, length, Option, List, ℕ}
use Rattle.std.proofs.lemmas.Result.{err_from_is_err_and}
use Rattle.svc_image.specs.declared.error.ImageError.{ImageError}
use Rattle.svc_image.specs.Format.{first_of, each_of}
use Rattle.svc_image.specs.Reading.{unless_fault}
use Rattle.svc_image.specs.Parts.{size_checks, place_checks, start_checks, limit_checks}
use Rattle.svc_image.proofs.Checks.{checked-Err, checked-Ok}
use Rattle.svc_image.proofs.Made.{fault-sizes, fault-places, fault-start, fault-listed}
use Rattle.svc_image.proofs.parts.check_parts.Goals as goal

-- the first fault of some entries
abbrev run_of : List ℕ → List ℕ → Option ImageError
run_of entries text = first_of (each_of (place_checks entries (length text)) (length entries))

pub returns-in_err-check_sizes-clause-value : goal.returns-in_err-check_sizes-clause-value
returns-in_err-check_sizes-clause-value c =
    let p = err_from_is_err_and c.from_residual.result c.from_residual.ensures.1 in
    let here = checked-Err (first_of (size_checks c.args.parts.now)) tt _ c.in_err-check_sizes.ensures in
    rw (p.1, p.2, fault-sizes c.args.parts.now _ here) refl

pub returns-in_err-check_places-clause-value : goal.returns-in_err-check_places-clause-value
returns-in_err-check_places-clause-value c =
    let parts = c.args.parts.now in
    let entries = c.as_slice-entries.ensures.value in
    let text = c.as_slice-text.ensures.value in
    let sizes = checked-Ok (first_of (size_checks parts)) tt _ c.in_ok-check_sizes.ensures in
    let same : run_of c.as_slice-entries.result.now c.as_slice-text.result.now ≡ run_of parts.entries.items parts.text.items = λ i. run_of (entries i) (text i) in
    let p = err_from_is_err_and c.from_residual-in_err-check_places.result c.from_residual-in_err-check_places.ensures.1 in
    let here = checked-Err (run_of c.as_slice-entries.result.now c.as_slice-text.result.now) tt _ c.in_err-check_places.ensures in
    rw (p.1, p.2, fault-places parts _ sizes.0 (sym same ∙ here)) refl

pub returns-in_err-check_start-clause-value : goal.returns-in_err-check_start-clause-value
returns-in_err-check_start-clause-value c =
    let parts = c.args.parts.now in
    let entries = c.as_slice-entries.ensures.value in
    let text = c.as_slice-text.ensures.value in
    let sizes = checked-Ok (first_of (size_checks parts)) tt _ c.in_ok-check_sizes.ensures in
    let same : run_of c.as_slice-entries.result.now c.as_slice-text.result.now ≡ run_of parts.entries.items parts.text.items = λ i. run_of (entries i) (text i) in
    let places = checked-Ok (run_of c.as_slice-entries.result.now c.as_slice-text.result.now) tt _ c.in_ok-check_places.ensures in
    let at = ap (λ (es : List ℕ). first_of (start_checks es parts.start)) entries in
    let p = err_from_is_err_and c.from_residual-in_err-check_start.result c.from_residual-in_err-check_start.ensures.1 in
    let here = checked-Err (first_of (start_checks c.as_slice-entries.result.now parts.start)) tt _ c.in_err-check_start.ensures in
    rw (p.1, p.2, fault-start parts _ sizes.0 (sym same ∙ places.0) (sym at ∙ here)) refl

pub returns-clause-value : goal.returns-clause-value
returns-clause-value c =
    let parts = c.args.parts.now in
    let entries = c.as_slice-entries.ensures.value in
    let text = c.as_slice-text.ensures.value in
    let sizes = checked-Ok (first_of (size_checks parts)) tt _ c.in_ok-check_sizes.ensures in
    let same : run_of c.as_slice-entries.result.now c.as_slice-text.result.now ≡ run_of parts.entries.items parts.text.items = λ i. run_of (entries i) (text i) in
    let places = checked-Ok (run_of c.as_slice-entries.result.now c.as_slice-text.result.now) tt _ c.in_ok-check_places.ensures in
    let at = ap (λ (es : List ℕ). first_of (start_checks es parts.start)) entries in
    let start = checked-Ok (first_of (start_checks c.as_slice-entries.result.now parts.start)) tt _ c.in_ok-check_start.ensures in
    let all = fault-listed parts sizes.0 (sym same ∙ places.0) (sym at ∙ start.0) in
    c.check_limits.ensures ∙ ap (λ (limits : List ℕ). unless_fault (first_of (limit_checks limits)) tt) c.limit_list.ensures ∙ ap (λ (o : Option ImageError). unless_fault o tt) (sym all)
