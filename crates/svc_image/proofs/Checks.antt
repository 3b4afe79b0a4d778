-- The first fault of checks in a row.
use Rattle.std.proofs.Common.{◌≡◌, ℕ, zero, suc, ◌<◌, ◌≤◌, Bool, true, false, cond, not, ◌&&◌, List, [], ◌∷◌, ◌++◌, length, drop, Option, Some, None, Ok, Err, nat_eq, nat_le, nat_lt, refl, ◌∙◌, ap, inl, inr, arith}
use Rattle.std.proofs.lemmas.Bool.{cases_eq, and_parts, and_from, not-false, le-leb, leb-true, le-ltb, lt-ltb}
use Rattle.std.specs.List.{list_any}
use Rattle.svc_image.specs.declared.error.ImageError.{ImageError}
use Rattle.svc_image.specs.declared.error.ImageError.TheVariants.{Start, Short, Trailing}
use Rattle.svc_image.specs.declared.header.Header.{Header}
use Rattle.svc_image.specs.Format.{Check, first_of, header_checks, entry_checks, each_of, start_checks, limit_checks, end_checks, checks_after_entries, fault, is_outside, words_in, entry_count_in, listed_in, start_in, entries_in, end_place}
use Rattle.svc_image.specs.Reading.{unless_fault, header_in, size_of}

-- checks that pass hand on to those after them
pub first_of-append-none : (xs ys : List Check) → first_of xs ≡ None → first_of (xs ++ ys) ≡ first_of ys
first_of-append-none [] ys none = refl
first_of-append-none (x ∷ xs) ys none =
    let step = elim x.0 as (λ (b : Bool). cond b (Some x.1) (first_of xs) ≡ None → cond b (Some x.1) (first_of (xs ++ ys)) ≡ first_of ys) [
      | true ↦ λ failed. absurd (cc)
      | false ↦ λ passed. first_of-append-none xs ys passed
    ] in
    step none

-- a fault stays the first
pub first_of-append-some : (xs ys : List Check) (e : ImageError) → first_of xs ≡ Some e → first_of (xs ++ ys) ≡ Some e
first_of-append-some [] ys e some = cc
first_of-append-some (x ∷ xs) ys e some =
    let step = elim x.0 as (λ (b : Bool). cond b (Some x.1) (first_of xs) ≡ Some e → cond b (Some x.1) (first_of (xs ++ ys)) ≡ Some e) [
      | true ↦ λ failed. failed
      | false ↦ λ passed. first_of-append-some xs ys e passed
    ] in
    step some

-- where checks pass, those in front pass
pub first_of-append-parts : (xs ys : List Check) → first_of (xs ++ ys) ≡ None → (first_of xs ≡ None) × (first_of ys ≡ None)
first_of-append-parts [] ys none = (refl, none)
first_of-append-parts (x ∷ xs) ys none =
    let step = elim x.0 as (λ (b : Bool). cond b (Some x.1) (first_of (xs ++ ys)) ≡ None → (cond b (Some x.1) (first_of xs) ≡ None) × (first_of ys ≡ None)) [
      | true ↦ λ failed. absurd (cc)
      | false ↦ λ passed. first_of-append-parts xs ys passed
    ] in
    step none

-- a first check that passes, and those after it
pub first_of-cons : (b : Bool) (e : ImageError) (rest : Option ImageError) → cond b (Some e) rest ≡ None → (b ≡ false) × (rest ≡ None)
first_of-cons true e rest none = absurd (cc)
first_of-cons false e rest none = (refl, none)

-- the first fault of one of a run is the fault of the run
pub each-first : (checks : ℕ → List Check) (n k : ℕ) (e : ImageError) → k < n → first_of (each_of checks k) ≡ None
    → first_of (checks k) ≡ Some e → first_of (each_of checks n) ≡ Some e
unfolding each_of
each-first checks zero k e low none some = absurd (omega arith)
each-first checks (suc n) k e low none some = elim (cases_eq k n) [
  | inl last ↦
      let before : first_of (each_of checks n) ≡ None = rw (← last) none in
      let fault : first_of (checks n) ≡ Some e = rw (← last) some in
      first_of-append-none (each_of checks n) (checks n) before ∙ fault
  | inr earlier ↦
      first_of-append-some (each_of checks n) (checks n) e (each-first checks n k e (omega (arith, earlier)) none some)
]

-- one more of a run passes
pub each-more : (checks : ℕ → List Check) (k : ℕ) → first_of (each_of checks k) ≡ None → first_of (checks k) ≡ None → first_of (each_of checks (suc k)) ≡ None
unfolding each_of
each-more checks k before here = first_of-append-none (each_of checks k) (checks k) before ∙ here

-- where a run passes, each of it does
pub each-one : (checks : ℕ → List Check) (n k : ℕ) → k < n → first_of (each_of checks n) ≡ None → first_of (checks k) ≡ None
unfolding each_of
each-one checks zero k low none = absurd (omega arith)
each-one checks (suc n) k low none =
    let parts = first_of-append-parts (each_of checks n) (checks n) none in
    elim (cases_eq k n) [
      | inl last ↦ rw last parts.1
      | inr earlier ↦ each-one checks n k (omega (arith, earlier)) parts.0
    ]

-- where each passes, the run does
pub each-all : (checks : ℕ → List Check) (n : ℕ) → ((k : ℕ) → k < n → first_of (checks k) ≡ None) → first_of (each_of checks n) ≡ None
unfolding each_of
each-all checks zero each = refl
each-all checks (suc n) each = each-more checks n (each-all checks n (λ k low. each k (omega arith))) (each n (omega arith))

-- a count within its limits, both ways
pub outside-false : (most n : ℕ) → is_outside most n ≡ false → (1 ≤ n) × (n ≤ most)
unfolding is_outside
outside-false most n inside =
    let parts = and_parts (nat_le 1 n) (nat_le n most) (not-false (nat_le 1 n && nat_le n most) inside) in
    (leb-true 1 n parts.0, leb-true n most parts.1)

pub inside-outside : (most n : ℕ) → 1 ≤ n → n ≤ most → is_outside most n ≡ false
unfolding is_outside
inside-outside most n low high = ap not (and_from (nat_le 1 n) (nat_le n most) (le-leb 1 n low) (le-leb n most high))

-- what an answer of checks says of them
pub checked-Err : {T : Type 0} (o : Option ImageError) (value : T) (e : ImageError) → Err e ≡ unless_fault o value → o ≡ Some e
checked-Err None value e same = absurd (cc)
checked-Err (Some x) value e same = cc

pub checked-Ok : {T : Type 0} (o : Option ImageError) (value x : T) → Ok x ≡ unless_fault o value → (o ≡ None) × (x ≡ value)
checked-Ok None value x same = (refl, cc)
checked-Ok (Some e) value x same = absurd (cc)

-- the checks of the entries, and of the limits
abbrev pub entries_run : List ℕ → List Check
entries_run bytes = each_of (entry_checks bytes) (entry_count_in bytes)

abbrev pub limits_run : List ℕ → List Check
limits_run bytes = each_of (limit_checks bytes) (listed_in bytes)

-- the first fault, by the part of the file where it is
pub fault-header : (bytes : List ℕ) (e : ImageError) → first_of (header_checks bytes) ≡ Some e → fault bytes ≡ Some e
unfolding fault
fault-header bytes e some = first_of-append-some (header_checks bytes) (entries_run bytes ++ checks_after_entries bytes) e some

pub fault-entries : (bytes : List ℕ) (e : ImageError) → first_of (header_checks bytes) ≡ None → first_of (entries_run bytes) ≡ Some e → fault bytes ≡ Some e
unfolding fault
fault-entries bytes e header some =
    first_of-append-none (header_checks bytes) (entries_run bytes ++ checks_after_entries bytes) header
    ∙ first_of-append-some (entries_run bytes) (checks_after_entries bytes) e some

-- header and entries pass
pub record EntriesPass (bytes : List ℕ) : Type 0 where
  pub header : first_of (header_checks bytes) ≡ None
  pub entries : first_of (entries_run bytes) ≡ None

after-entries : (bytes : List ℕ) → EntriesPass bytes → fault bytes ≡ first_of (checks_after_entries bytes)
unfolding fault
after-entries bytes pass =
    first_of-append-none (header_checks bytes) (entries_run bytes ++ checks_after_entries bytes) pass.header
    ∙ first_of-append-none (entries_run bytes) (checks_after_entries bytes) pass.entries

pub fault-start : (bytes : List ℕ) (e : ImageError) → EntriesPass bytes → first_of (start_checks bytes) ≡ Some e → fault bytes ≡ Some e
fault-start bytes e pass some = after-entries bytes pass ∙ first_of-append-some (start_checks bytes) (limits_run bytes ++ end_checks bytes) e some

pub fault-limits : (bytes : List ℕ) (e : ImageError) → EntriesPass bytes → first_of (start_checks bytes) ≡ None → first_of (limits_run bytes) ≡ Some e → fault bytes ≡ Some e
fault-limits bytes e pass start some =
    after-entries bytes pass ∙ first_of-append-none (start_checks bytes) (limits_run bytes ++ end_checks bytes) start
    ∙ first_of-append-some (limits_run bytes) (end_checks bytes) e some

pub fault-end : (bytes : List ℕ) → EntriesPass bytes → first_of (start_checks bytes) ≡ None → first_of (limits_run bytes) ≡ None → fault bytes ≡ first_of (end_checks bytes)
fault-end bytes pass start limits =
    after-entries bytes pass ∙ first_of-append-none (start_checks bytes) (limits_run bytes ++ end_checks bytes) start
    ∙ first_of-append-none (limits_run bytes) (end_checks bytes) limits

-- where there is no fault, no part has one
pub record AllPass (bytes : List ℕ) : Type 0 where
  pub front : EntriesPass bytes
  pub start : first_of (start_checks bytes) ≡ None
  pub limits : first_of (limits_run bytes) ≡ None
  pub end : first_of (end_checks bytes) ≡ None

pub fault-parts : (bytes : List ℕ) → fault bytes ≡ None → AllPass bytes
unfolding fault
fault-parts bytes none =
    let header = first_of-append-parts (header_checks bytes) (entries_run bytes ++ checks_after_entries bytes) none in
    let entries = first_of-append-parts (entries_run bytes) (checks_after_entries bytes) header.1 in
    let start = first_of-append-parts (start_checks bytes) (limits_run bytes ++ end_checks bytes) entries.1 in
    let limits = first_of-append-parts (limits_run bytes) (end_checks bytes) start.1 in
    record { front = record { header = header.0; entries = entries.0 }; start = start.0; limits = limits.0; end = limits.1 }

-- the start is among the entries
abbrev pub has_start : List ℕ → Bool
has_start bytes = list_any (λ e. nat_eq e (start_in bytes)) (entries_in bytes)

-- what the check of the start says
pub start-Start : (bytes : List ℕ) → has_start bytes ≡ false → first_of (start_checks bytes) ≡ Some Start
unfolding start_checks
start-Start bytes absent = rw absent refl

pub start-None : (bytes : List ℕ) → has_start bytes ≡ true → first_of (start_checks bytes) ≡ None
unfolding start_checks
start-None bytes found = rw found refl

-- what the last checks say
pub end-Short : (bytes : List ℕ) → length bytes < end_place bytes → first_of (end_checks bytes) ≡ Some Short
unfolding end_checks
end-Short bytes short = rw (lt-ltb (length bytes) (end_place bytes) short) refl

pub end-Trailing : (bytes : List ℕ) → end_place bytes < length bytes → first_of (end_checks bytes) ≡ Some Trailing
unfolding end_checks
end-Trailing bytes long =
    let whole : nat_lt (length bytes) (end_place bytes) ≡ false = le-ltb (length bytes) (end_place bytes) (omega (arith, long)) in
    rw (whole, lt-ltb (end_place bytes) (length bytes) long) refl

pub end-None : (bytes : List ℕ) → length bytes ≡ end_place bytes → first_of (end_checks bytes) ≡ None
unfolding end_checks
end-None bytes size =
    let whole : nat_lt (length bytes) (end_place bytes) ≡ false = le-ltb (length bytes) (end_place bytes) (omega (arith, size)) in
    let over : nat_lt (end_place bytes) (length bytes) ≡ false = le-ltb (end_place bytes) (length bytes) (omega (arith, size)) in
    rw (whole, over) refl

-- the same numbers, by the header
pub header-start : (bytes : List ℕ) (h : Header) → h ≡ header_in bytes → list_any (λ e. nat_eq e h.start) (words_in h.entries (drop 148 bytes)) ≡ has_start bytes
header-start bytes h same = ap (λ (x : Header). list_any (λ e. nat_eq e x.start) (words_in x.entries (drop 148 bytes))) same

pub header-end : (bytes : List ℕ) (h : Header) → h ≡ header_in bytes → size_of h ≡ end_place bytes
header-end bytes h same = ap size_of same
