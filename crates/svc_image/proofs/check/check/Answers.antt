use Rattle.std.proofs.Common.{◌≡◌, ◌∙◌, sym, ap, refl, ℕ, List, None, Ok}
use Rattle.std.proofs.lemmas.Result.{err_from_is_err_and}
use Rattle.svc_image.specs.declared.header.Header.{Header}
use Rattle.svc_image.specs.Format.{header_checks, entry_checks, each_of, start_checks, end_checks, first_of}
use Rattle.svc_image.specs.Reading.{unless_fault, header_in}
use Rattle.svc_image.proofs.Checks.{EntriesPass, entries_run, limits_run, checked-Err, checked-Ok, fault-header, fault-entries, fault-start, fault-limits, fault-end}
use Rattle.svc_image.proofs.check.check.Goals as goal

-- the header of a file whose header has no fault
of_header : (bytes : List ℕ) (header : Header) → Ok header ≡ unless_fault (first_of (header_checks bytes)) (header_in bytes)
    → (first_of (header_checks bytes) ≡ None) × (header ≡ header_in bytes)
of_header bytes header same = checked-Ok (first_of (header_checks bytes)) (header_in bytes) header same

-- the entries, by the header's count
entries_of : (bytes : List ℕ) (header : Header) → header ≡ header_in bytes
    → first_of (each_of (entry_checks bytes) header.entries) ≡ first_of (entries_run bytes)
entries_of bytes header same = ap (λ (h : Header). first_of (each_of (entry_checks bytes) h.entries)) same

-- header and entries pass
passed : (bytes : List ℕ) (header : Header) → Ok header ≡ unless_fault (first_of (header_checks bytes)) (header_in bytes)
    → first_of (each_of (entry_checks bytes) header.entries) ≡ None → EntriesPass bytes
passed bytes header here after =
    let head = of_header bytes header here in
    record { header = head.0; entries = sym (entries_of bytes header head.1) ∙ after }

pub returns-in_err-header-clause-value : goal.returns-in_err-header-clause-value
returns-in_err-header-clause-value c =
    let p = err_from_is_err_and c.from_residual.result c.from_residual.ensures.1 in
    let here = checked-Err (first_of (header_checks c.args.bytes.now)) (header_in c.args.bytes.now) _ c.in_err-header.ensures.value in
    rw (p.1, p.2, fault-header c.args.bytes.now _ here) refl

pub returns-in_err-check_entries-clause-value : goal.returns-in_err-check_entries-clause-value
returns-in_err-check_entries-clause-value c =
    let p = err_from_is_err_and c.from_residual-in_err-check_entries.result c.from_residual-in_err-check_entries.ensures.1 in
    let header = of_header c.args.bytes.now c.in_ok-header.header c.in_ok-header.ensures.value in
    let here = checked-Err (first_of (each_of (entry_checks c.args.bytes.now) c.in_ok-header.header.entries)) tt _ c.in_err-check_entries.ensures.value in
    let all = fault-entries c.args.bytes.now _ header.0 (sym (entries_of c.args.bytes.now c.in_ok-header.header header.1) ∙ here) in
    rw (p.1, p.2, all) refl

pub check_start-requires-clause-header : goal.check_start-requires-clause-header
check_start-requires-clause-header c = (of_header c.args.bytes.now c.in_ok-header.header c.in_ok-header.ensures.value).1

pub check_limits-requires-clause-header : goal.check_limits-requires-clause-header
check_limits-requires-clause-header c = (of_header c.args.bytes.now c.in_ok-header.header c.in_ok-header.ensures.value).1

pub check_end-requires-clause-header : goal.check_end-requires-clause-header
check_end-requires-clause-header c = (of_header c.args.bytes.now c.in_ok-header.header c.in_ok-header.ensures.value).1

pub returns-in_err-check_start-clause-value : goal.returns-in_err-check_start-clause-value
returns-in_err-check_start-clause-value c =
    let entries = checked-Ok (first_of (each_of (entry_checks c.args.bytes.now) c.in_ok-header.header.entries)) tt _ c.in_ok-check_entries.ensures.value in
    let front = passed c.args.bytes.now c.in_ok-header.header c.in_ok-header.ensures.value entries.0 in
    let p = err_from_is_err_and c.from_residual-in_err-check_start.result c.from_residual-in_err-check_start.ensures.1 in
    let here = checked-Err (first_of (start_checks c.args.bytes.now)) tt _ c.in_err-check_start.ensures in
    rw (p.1, p.2, fault-start c.args.bytes.now _ front here) refl

pub returns-in_err-check_limits-clause-value : goal.returns-in_err-check_limits-clause-value
returns-in_err-check_limits-clause-value c =
    let entries = checked-Ok (first_of (each_of (entry_checks c.args.bytes.now) c.in_ok-header.header.entries)) tt _ c.in_ok-check_entries.ensures.value in
    let front = passed c.args.bytes.now c.in_ok-header.header c.in_ok-header.ensures.value entries.0 in
    let p = err_from_is_err_and c.from_residual-in_err-check_limits.result c.from_residual-in_err-check_limits.ensures.1 in
    let start = checked-Ok (first_of (start_checks c.args.bytes.now)) tt _ c.in_ok-check_start.ensures in
    let here = checked-Err (first_of (limits_run c.args.bytes.now)) tt _ c.in_err-check_limits.ensures.value in
    rw (p.1, p.2, fault-limits c.args.bytes.now _ front start.0 here) refl

pub returns-in_err-check_end-clause-value : goal.returns-in_err-check_end-clause-value
returns-in_err-check_end-clause-value c =
    let entries = checked-Ok (first_of (each_of (entry_checks c.args.bytes.now) c.in_ok-header.header.entries)) tt _ c.in_ok-check_entries.ensures.value in
    let front = passed c.args.bytes.now c.in_ok-header.header c.in_ok-header.ensures.value entries.0 in
    let p = err_from_is_err_and c.from_residual-in_err-check_end.result c.from_residual-in_err-check_end.ensures.1 in
    let start = checked-Ok (first_of (start_checks c.args.bytes.now)) tt _ c.in_ok-check_start.ensures in
    let limits = checked-Ok (first_of (limits_run c.args.bytes.now)) tt _ c.in_ok-check_limits.ensures.value in
    let here = checked-Err (first_of (end_checks c.args.bytes.now)) tt _ c.in_err-check_end.ensures.value in
    rw (p.1, p.2, fault-end c.args.bytes.now front start.0 limits.0 ∙ here) refl

pub returns-clause-value : goal.returns-clause-value
returns-clause-value c =
    let entries = checked-Ok (first_of (each_of (entry_checks c.args.bytes.now) c.in_ok-header.header.entries)) tt _ c.in_ok-check_entries.ensures.value in
    let front = passed c.args.bytes.now c.in_ok-header.header c.in_ok-header.ensures.value entries.0 in
    let header = of_header c.args.bytes.now c.in_ok-header.header c.in_ok-header.ensures.value in
    let start = checked-Ok (first_of (start_checks c.args.bytes.now)) tt _ c.in_ok-check_start.ensures in
    let limits = checked-Ok (first_of (limits_run c.args.bytes.now)) tt _ c.in_ok-check_limits.ensures.value in
    let here = checked-Ok (first_of (end_checks c.args.bytes.now)) tt _ c.in_ok-check_end.ensures.value in
    let all = fault-end c.args.bytes.now front start.0 limits.0 ∙ here.0 in
    rw (all, header.1) refl
