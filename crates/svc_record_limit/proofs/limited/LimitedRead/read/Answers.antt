use Rattle.std.proofs.Common.{◌≡◌, ◌++◌, ◌<◌, ◌≤◌, ◌∙◌, [], ℕ, List, Bool, Option, Some, None, length, take, ap, sym, arith, refl, suc, zero, inl, inr, take-take, length-take-le}
use Rattle.std.proofs.lemmas.Bool.{cases_Bool, lt-ltb, ltb-true}
use Rattle.std.specs.Prelude.{if◌then◌else◌, nat_lt, option_map}
use Rattle.std.specs.Io.KnownBytes.{Consumes, IsAtEnd}
use Rattle.svc_record_limit.specs.Places.{passed, passed_from}
use Rattle.svc_record_limit.specs.declared.gauge.Gauge.{Gauge}
use Rattle.svc_record_limit.proofs.limited.LimitedRead.read.Goals as goal
use Rattle.svc_record_limit.proofs.limited.LimitedRead.read.Goals.{then-passed-count, else-passed-count}

none_passed : (o : Option Gauge) → passed o [] ≡ []
unfolding passed_from
none_passed None = refl
none_passed (Some g) = refl

-- nothing is passed on only at the end, or where nothing more will be
at_end : (o : Option Gauge) (ys : List ℕ) (count n : ℕ) → (count ≡ 0 → ys ≡ []) → (n < count → o ≡ None) → n ≡ 0 → passed o ys ≡ []
at_end o ys zero n end less none = ap (passed o) (end refl) ∙ none_passed o
at_end o ys (suc k) n end less none = rw (less (omega (arith, none))) refl

passes_on : (a b : Option (List ℕ)) (g : Gauge) (o : Option Gauge) (count n : ℕ) (buf : List ℕ) → count ≤ length buf → Consumes a b (take count buf) → (count ≡ 0 → 0 < length buf → IsAtEnd b)
    → n ≤ length (take count buf) → (n < length (take count buf) → o ≡ None) → ((rest : List ℕ) → passed (Some g) (take count buf ++ rest) ≡ take n (take count buf) ++ passed o rest)
    → Consumes (option_map (passed (Some g)) a) (option_map (passed o) b) (take n buf) × (n ≡ 0 → 0 < length buf → IsAtEnd (option_map (passed o) b))
passes_on None None g o count n buf fits read end most less on = (tt, λ _ _. tt)
passes_on None (Some ys) g o count n buf fits read end most less on =
    let len = length-take-le count buf fits in
    (tt, λ none some. at_end o ys count n (λ zero. end zero some) (λ low. less (omega (arith, len))) none)
passes_on (Some xs) None g o count n buf fits read end most less on = absurd read
passes_on (Some xs) (Some ys) g o count n buf fits read end most less on =
    let len = length-take-le count buf fits in
    let front : take n (take count buf) ≡ take n buf = take-take n count buf (omega (arith, len, most)) in (
      ap (passed (Some g)) read ∙ on ys ∙ ap (λ (t : List ℕ). t ++ passed o ys) front,
      λ none some. at_end o ys count n (λ zero. end zero some) (λ low. less (omega (arith, len))) none,
    )

-- what is left of the gauge: nothing where fewer bytes were passed than were read
abbrev left : Gauge → ℕ → ℕ → Option Gauge
left g n count = if nat_lt n count then None else Some g

pub returns-clause-bytes : goal.returns-clause-bytes
returns-clause-bytes g c =
    let read = c.in_ok-count.ensures in
    let all = c.pass_all-passed.ensures in
    let bytes = take c.in_ok-count.count c.read.new.buf in
    let gauge = c.pass_all-passed.new.self in
    let n = c.pass_all-passed.result in
    let is_left : c.if-passed-count.self ≡ left gauge n (length bytes) = elim c.if-passed-count.branch [
      | then-passed-count w ↦ w.self-is ∙ ap (λ (b : Bool). if b then None else Some gauge) (sym (lt-ltb n (length bytes) (omega (arith, w.if-passed-count, read.bound.1))))
      | else-passed-count w ↦ elim (cases_Bool (nat_lt n (length bytes))) [
        | inl low ↦ absurd (omega (arith, ltb-true n (length bytes) low, w.if-passed-count, read.bound.1))
        | inr high ↦ w.self-is ∙ ap (λ (b : Bool). if b then None else Some gauge) (sym high)
      ]
    ] in
    rw (c.in-Some.is, is_left) (passes_on _ _ c.in-Some.gauge (left gauge n (length bytes)) c.in_ok-count.count n c.read.new.buf read.bound.0 read.bytes.0 read.bytes.1 all.count (λ low. rw (lt-ltb _ _ low) refl) all.passes)
