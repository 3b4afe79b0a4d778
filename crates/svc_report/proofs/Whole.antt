-- A text whose records are short is read whole.
use Rattle.std.proofs.Common.{◌≡◌, ◌∷◌, ◌++◌, ◌+◌, ◌*◌, ◌<◌, ◌≤◌, ◌==◌, [], ℕ, List, Some, None, Bool, true, false, refl, sym, ap, subst, inl, inr, arith, length, zero-le}
use Rattle.std.specs.Prelude.{◌||◌, if◌then◌else◌, nat_lt}
use Rattle.std.specs.Bool.{MatchBool}
use Rattle.std.specs.List.{AllByRecursion}
use Rattle.std.proofs.lemmas.Bool.{cases_Bool, lt-ltb, ltb-false}
use Rattle.std.proofs.lemmas.List.{length-append}
use Rattle.csv.specs.Machine.{Read, ends_at_end, field_after, fields_after, is_end, next_record, step}
use Rattle.csv.specs.Reading.{AreRecords, Reached, default_config, strip_bom}
use Rattle.csv.specs.declared.parser.Action.{Action}
use Rattle.csv.specs.declared.parser.Action.TheVariants as act
use Rattle.csv.specs.declared.parser.State.{State}
use Rattle.csv.specs.declared.parser.State.TheVariants as st
use Rattle.svc_record_limit.specs.Limit.{is_between, most_bytes, readable_from}
use Rattle.svc_report.specs.Records.{IsRead, IsText}
use Rattle.svc_record_limit.proofs.Limits.{IsUsual, leads, plain_step, quote_step, quoted_step, start_step}

-- no record of these fields takes more bytes: each field may have two for each of its own, two quotes and a comma
abbrev pub weight : List (List ℕ) → ℕ
weight [] = 0
weight (f ∷ fs) = 2 * length f + 3 + weight fs

-- a record of these fields is shorter than the most bytes
abbrev pub IsShort : List (List ℕ) → Type 0
IsShort fs = weight fs < most_bytes

weight_more : (fs : List (List ℕ)) (f : List ℕ) → weight (fs ++ (f ∷ [])) ≡ weight fs + 2 * length f + 3
weight_more [] f = omega arith
weight_more (g ∷ fs) f = let e = weight_more fs f in omega (arith, e)

-- the quotes that were read of the field at hand, at most
abbrev spent : State → ℕ
spent st.InField = 2
spent st.InQuoted = 1
spent st.AfterQuote = 2
spent _ = 0

-- no more bytes of a record were read than this
abbrev pub cost : State → List (List ℕ) → List ℕ → ℕ
cost s fs f = weight fs + 2 * length f + spent s

spent_low : (s : State) → spent s ≤ 2
spent_low st.StartRecord = omega arith
spent_low st.AfterCr = omega arith
spent_low st.StartField = omega arith
spent_low st.InField = omega arith
spent_low st.InQuoted = omega arith
spent_low st.AfterQuote = omega arith
spent_low st.InEscape = omega arith
spent_low st.InComment = omega arith

-- a byte costs one more, unless it is a line end between records; and it ends a record only so
abbrev Grows : State → List (List ℕ) → List ℕ → ℕ → State × Action → Type 0
Grows s fs f b m =
    MatchBool (is_end m.1) ((is_between m.0 ≡ true) × (cost s fs f ≤ weight (fields_after m.1 fs f)))
    (MatchBool (is_between m.0) ((is_between s ≡ true) × (cost s fs f ≤ cost m.0 (fields_after m.1 fs f) (field_after m.1 b f))) (cost s fs f + 1 ≤ cost m.0 (fields_after m.1 fs f) (field_after m.1 b f)))

longer : (f : List ℕ) (b : ℕ) → length (f ++ (b ∷ [])) ≡ length f + 1
longer f b = length-append f (b ∷ [])

plain_grows : (s : State) (fs : List (List ℕ)) (f : List ℕ) (b : ℕ) (c r l : Bool) → Grows s fs f b (plain_step c r l)
plain_grows s fs f b true r l = omega (arith, weight_more fs f, spent_low s)
plain_grows s fs f b false true l = (refl, omega (arith, weight_more fs f, spent_low s))
plain_grows s fs f b false false true = (refl, omega (arith, weight_more fs f, spent_low s))
plain_grows s fs f b false false false = omega (arith, longer f b, spent_low s)

start_grows : (s : State) (fs : List (List ℕ)) (f : List ℕ) (b : ℕ) (q c r l : Bool) → spent s ≡ 0 → Grows s fs f b (start_step q c r l)
start_grows s fs f b true c r l none = omega (arith, none)
start_grows s fs f b false c r l none = plain_grows s fs f b c r l

abbrev record_step : Bool → Bool → Bool → Bool → State × Action
record_step q c r l = if r || l then (st.StartRecord, act.Skip) else start_step q c r l

record_grows : (s : State) (fs : List (List ℕ)) (f : List ℕ) (b : ℕ) (q c r l : Bool) → spent s ≡ 0 → is_between s ≡ true → Grows s fs f b (record_step q c r l)
record_grows s fs f b q c true l none between = (between, omega (arith, none))
record_grows s fs f b q c false true none between = (between, omega (arith, none))
record_grows s fs f b q c false false none between = start_grows s fs f b q c false false none

abbrev return_step : Bool → Bool → Bool → Bool → State × Action
return_step q c r l = if l then (st.StartRecord, act.Skip) else record_step q c r l

return_grows : (s : State) (fs : List (List ℕ)) (f : List ℕ) (b : ℕ) (q c r l : Bool) → spent s ≡ 0 → is_between s ≡ true → Grows s fs f b (return_step q c r l)
return_grows s fs f b q c r true none between = (between, omega (arith, none))
return_grows s fs f b q c r false none between = record_grows s fs f b q c r false none between

quoted_grows : (fs : List (List ℕ)) (f : List ℕ) (b : ℕ) (q : Bool) → Grows st.InQuoted fs f b (quoted_step q)
quoted_grows fs f b true = omega arith
quoted_grows fs f b false = omega (arith, longer f b)

quote_grows : (fs : List (List ℕ)) (f : List ℕ) (b : ℕ) (q c r l : Bool) → Grows st.AfterQuote fs f b (quote_step q c r l)
quote_grows fs f b true c r l = omega (arith, longer f b)
quote_grows fs f b false c r l = plain_grows st.AfterQuote fs f b c r l

grows : (s : State) (fs : List (List ℕ)) (f : List ℕ) (b : ℕ) → IsUsual s → Grows s fs f b (step default_config s b)
grows st.StartRecord fs f b u = record_grows st.StartRecord fs f b (b == 34) (b == 44) (b == 13) (b == 10) refl refl
grows st.AfterCr fs f b u = return_grows st.AfterCr fs f b (b == 34) (b == 44) (b == 13) (b == 10) refl refl
grows st.StartField fs f b u = start_grows st.StartField fs f b (b == 34) (b == 44) (b == 13) (b == 10) refl
grows st.InField fs f b u = plain_grows st.InField fs f b (b == 44) (b == 13) (b == 10)
grows st.InQuoted fs f b u = quoted_grows fs f b (b == 34)
grows st.AfterQuote fs f b u = quote_grows fs f b (b == 34) (b == 44) (b == 13) (b == 10)
grows st.InEscape fs f b u = absurd u
grows st.InComment fs f b u = absurd u

-- the end of a text ends a record
at_end : (s : State) (fs : List (List ℕ)) (f : List ℕ) (q : Read) → next_record default_config s fs f [] ≡ Some q → (fs ++ (f ∷ []), st.StartRecord, []) ≡ q
unfolding next_record
at_end s fs f q e = elim (cases_Bool (ends_at_end s)) [
  | inl t ↦ cc (rw t at e)
  | inr t ↦ cc (rw t at e)
]

-- a record costs no less than its front
front_costs : (s : State) (fs : List (List ℕ)) (f : List ℕ) (xs : List ℕ) (q : Read) → IsUsual s → next_record default_config s fs f xs ≡ Some q → cost s fs f ≤ weight q.0
unfolding next_record
front_costs s fs f [] q u e = subst (λ (z : Read). cost s fs f ≤ weight z.0) (at_end s fs f q e) (omega (arith, weight_more fs f, spent_low s))
front_costs s fs f (b ∷ rest) q u e =
    let to = leads s b u in
    let g = grows s fs f b u in
    elim (cases_Bool (is_end (step default_config s b).1)) [
      | inl t ↦
          let same : (fields_after (step default_config s b).1 fs f, (step default_config s b).0, rest) ≡ q = cc (rw t at e) in
          let out = rw t at g in
          subst (λ (z : Read). cost s fs f ≤ weight z.0) same out.1
      | inr t ↦
          let after = front_costs (step default_config s b).0 (fields_after (step default_config s b).1 fs f) (field_after (step default_config s b).1 b f) rest q to.1 (rw t at e) in
          elim (cases_Bool (is_between (step default_config s b).0)) [
            | inl w ↦ let between = rw (t, w) at g in omega (arith, between.1, after)
            | inr w ↦ let up = rw (t, w) at g in omega (arith, up, after)
          ]
    ]

-- what is left of a text after one record of what is readable
abbrev Left : State → ℕ → List ℕ → Read → Type 0
Left s n xs q = IsUsual q.1 × (zs : List ℕ) × (q.2 ≡ readable_from q.1 0 zs) × (readable_from q.1 0 zs ≡ zs → readable_from s n xs ≡ xs)

no_end_inside : (s : State) → IsUsual s → is_between s ≡ false → ends_at_end s ≡ true
no_end_inside st.StartRecord u w = cc w
no_end_inside st.AfterCr u w = cc w
no_end_inside st.StartField u w = refl
no_end_inside st.InField u w = refl
no_end_inside st.InQuoted u w = refl
no_end_inside st.AfterQuote u w = refl
no_end_inside st.InEscape u w = absurd u
no_end_inside st.InComment u w = absurd u

-- a record that has begun ends
ends_inside : (s : State) (fs : List (List ℕ)) (f : List ℕ) (xs : List ℕ) → IsUsual s → is_between s ≡ false → next_record default_config s fs f xs ≡ None → ⊥
unfolding next_record
ends_inside s fs f [] u w e = cc (rw (no_end_inside s u w) at e)
ends_inside s fs f (b ∷ rest) u w e =
    let to = leads s b u in
    let g = grows s fs f b u in
    elim (cases_Bool (is_end (step default_config s b).1)) [
      | inl t ↦ cc (rw t at e)
      | inr t ↦ elim (cases_Bool (is_between (step default_config s b).0)) [
        | inl v ↦ let between = rw (t, v) at g in cc (between.0, w)
        | inr v ↦ ends_inside (step default_config s b).0 (fields_after (step default_config s b).1 fs f) (field_after (step default_config s b).1 b f) rest to.1 v (rw t at e)
      ]
    ]

-- where no record is left, all is readable
no_record : (s : State) (fs : List (List ℕ)) (f : List ℕ) (xs : List ℕ) → IsUsual s → next_record default_config s fs f (readable_from s 0 xs) ≡ None → readable_from s 0 xs ≡ xs
unfolding next_record readable_from
no_record s fs f [] u e = refl
no_record s fs f (b ∷ rest) u e =
    let to = leads s b u in
    elim (cases_Bool (is_between (step default_config s b).0)) [
      | inl w ↦ elim (cases_Bool (is_end (step default_config s b).1)) [
        | inl t ↦ cc (rw (w, t) at e)
        | inr t ↦
            let same = no_record (step default_config s b).0 (fields_after (step default_config s b).1 fs f) (field_after (step default_config s b).1 b f) rest to.1 (rw (w, t) at e) in
            rw w (ap (λ (r : List ℕ). b ∷ r) same)
      ]
      | inr w ↦ elim (cases_Bool (is_end (step default_config s b).1)) [
        | inl t ↦ cc (rw (w, t) at e)
        | inr t ↦ absurd (ends_inside (step default_config s b).0 (fields_after (step default_config s b).1 fs f) (field_after (step default_config s b).1 b f) _ to.1 w (rw (w, t) at e))
      ]
    ]

-- one record of what is readable, which is short, is one of the text
one_record : (s : State) (n : ℕ) (fs : List (List ℕ)) (f : List ℕ) (xs : List ℕ) (q : Read) → IsUsual s → n ≤ cost s fs f → IsShort q.0
    → next_record default_config s fs f (readable_from s n xs) ≡ Some q → Left s n xs q
unfolding next_record readable_from
one_record s n fs f [] q u low short e = subst (λ (z : Read). Left s n [] z) (at_end s fs f q e) (tt, [], refl, λ d. refl)
one_record s n fs f (b ∷ rest) q u low short e =
    let to = leads s b u in
    let g = grows s fs f b u in
    elim (cases_Bool (is_between (step default_config s b).0)) [
      | inl w ↦ elim (cases_Bool (is_end (step default_config s b).1)) [
        | inl t ↦
            let same : (fields_after (step default_config s b).1 fs f, (step default_config s b).0, readable_from (step default_config s b).0 0 rest) ≡ q = cc (rw (w, t) at e) in
            subst (λ (z : Read). Left s n (b ∷ rest) z) same (to.1, rest, refl, λ d. rw w (ap (λ (r : List ℕ). b ∷ r) d))
        | inr t ↦
            let (usual, zs, at, back) = one_record (step default_config s b).0 0 (fields_after (step default_config s b).1 fs f) (field_after (step default_config s b).1 b f) rest q to.1 zero-le short (rw (w, t) at e) in
            (usual, zs, at, λ d. rw w (ap (λ (r : List ℕ). b ∷ r) (back d)))
      ]
      | inr w ↦ elim (cases_Bool (is_end (step default_config s b).1)) [
        | inl t ↦ let out = rw t at g in cc (out.0, w)
        | inr t ↦ elim (cases_Bool (nat_lt n most_bytes)) [
          | inl l ↦
              let up = rw (t, w) at g in
              let (usual, zs, at, back) = one_record (step default_config s b).0 (n + 1) (fields_after (step default_config s b).1 fs f) (field_after (step default_config s b).1 b f) rest q to.1 (omega (arith, up, low)) short (rw (w, l, t) at e) in
              (usual, zs, at, λ d. rw (w, l) (ap (λ (r : List ℕ). b ∷ r) (back d)))
          | inr l ↦
              let most = ltb-false n most_bytes l in
              let same = at_end s fs f q (rw (w, l) at e) in
              let costs : cost s fs f ≤ weight q.0 = subst (λ (z : Read). cost s fs f ≤ weight z.0) same (omega (arith, weight_more fs f, spent_low s)) in
              absurd (omega (arith, low, short, most, costs))
        ]
      ]
    ]

-- one record of a text, which is short, is readable
pub reads_record : (s : State) (n : ℕ) (fs : List (List ℕ)) (f : List ℕ) (xs : List ℕ) (q : Read) → IsUsual s → n ≤ cost s fs f → IsShort q.0
    → next_record default_config s fs f xs ≡ Some q → readable_from q.1 0 q.2 ≡ q.2 → readable_from s n xs ≡ xs
unfolding next_record readable_from
reads_record s n fs f [] q u low short e rest_read = refl
reads_record s n fs f (b ∷ rest) q u low short e rest_read =
    let to = leads s b u in
    let g = grows s fs f b u in
    let costs = front_costs s fs f (b ∷ rest) q u e in
    elim (cases_Bool (is_end (step default_config s b).1)) [
      | inl t ↦
          let out = rw t at g in
          let same : (fields_after (step default_config s b).1 fs f, (step default_config s b).0, rest) ≡ q = cc (rw t at e) in
          let tail : readable_from (step default_config s b).0 0 rest ≡ rest = subst (λ (z : Read). readable_from z.1 0 z.2 ≡ z.2) (sym same) rest_read in
          rw out.0 (ap (λ (r : List ℕ). b ∷ r) tail)
      | inr t ↦ elim (cases_Bool (is_between (step default_config s b).0)) [
        | inl w ↦
            let tail = reads_record (step default_config s b).0 0 (fields_after (step default_config s b).1 fs f) (field_after (step default_config s b).1 b f) rest q to.1 zero-le short (rw t at e) rest_read in
            rw w (ap (λ (r : List ℕ). b ∷ r) tail)
        | inr w ↦
            let up = rw (t, w) at g in
            let fits : nat_lt n most_bytes ≡ true = lt-ltb n most_bytes (omega (arith, low, short, costs)) in
            let tail = reads_record (step default_config s b).0 (n + 1) (fields_after (step default_config s b).1 fs f) (field_after (step default_config s b).1 b f) rest q to.1 (omega (arith, up, low)) short (rw t at e) rest_read in
            rw (w, fits) (ap (λ (r : List ℕ). b ∷ r) tail)
      ]
    ]

all_records : (rows : List (List (List ℕ))) (s : State) (xs : List ℕ) (s2 : State) (ys : List ℕ) → IsUsual s → AllByRecursion IsShort rows
    → Reached default_config s (readable_from s 0 xs) rows s2 ys → next_record default_config s2 [] [] ys ≡ None → readable_from s 0 xs ≡ xs
unfolding Reached
all_records [] s xs s2 ys u short r none = no_record s [] [] xs u (rw (r.1, r.0) none)
all_records (fields ∷ rows) s xs s2 ys u short r none =
    let (q, first, same, others) = r in
    let small : IsShort q.0 = subst IsShort same short.0 in
    let (usual, zs, at, back) = one_record s 0 [] [] xs q u zero-le small first in
    let next = subst (λ (t : List ℕ). Reached default_config q.1 t rows s2 ys) at others in
    back (all_records rows q.1 zs s2 ys usual short.1 next none)

-- a text is what is read of it where that has short records alone
pub whole_text : (text : List ℕ) (rows : List (List (List ℕ))) → AllByRecursion IsShort rows → IsRead text rows → IsText text rows
whole_text text rows short read =
    let (s2, ys, reached, none) = read in
    let same = all_records rows st.StartRecord (strip_bom text) s2 ys tt short reached none in
    subst (λ (t : List ℕ). AreRecords default_config st.StartRecord t rows) same read
