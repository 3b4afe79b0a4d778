-- The rows of meetings: what they add up to, and that a map keeps them.
use Rattle.std.proofs.Common.{Less, Equal, ◌≡◌, ◌∙◌, ◌+◌, ◌<◌, ◌≤◌, ◌^◌, ◌∷◌, [], ℕ, suc, List, Bool, true, false, cond, Option, Some, length, get_or, drop, drop-cons, refl, ap, sym, arith}
use Rattle.std.specs.Prelude.{unwrap_or}
use Rattle.std.specs.BTreeMap.{insert_entry, is_at}
use Rattle.std.specs.Cmp.{IsTotalOrder, nat_cmp_total, on_total, then_total}
use Rattle.std.specs.List.{AllByRecursion, sum_by}
use Rattle.std.specs.List.Sorted.{IsStrictlySortedBy}
use Rattle.std.specs.Map.{keys_of, lookup}
use Rattle.std.specs.Ordering.{is_eq, match_ordering}
use Rattle.std.specs.declared.cmp.Ordering.{Ordering}
use Rattle.std.specs.declared.cmp.Ordering.TheVariants as ordering
use Rattle.std.proofs.lemmas.List.{drop_all}
use Rattle.std.proofs.lemmas.List.Sums.{sum_by-cons}
use Rattle.std.proofs.lemmas.Map.{lookup-none}
use Rattle.std.proofs.lemmas.Map.Keys.{sorted_head, sorted_tail}
use Rattle.svc_profile.specs.declared.meetings.Meeting.{Meeting}
use Rattle.svc_profile.specs.declared.met.Met.{Met}
use Rattle.svc_profile.specs.Met.{by_between, met_again, met_at, never_met, with_meeting, with_meetings}

abbrev pub Row : Type 0
Row = ((ℕ × ℕ) × ℕ) × Met

-- ---- sums

-- a count of a row, and what a meeting adds to it
pub record IsCounted (f : Met → ℕ) (g : Meeting → ℕ) : Type 0 where
  pub none : f never_met ≡ 0
  pub more : (k : Met) (m : Meeting) → f (met_again k m) ≡ f k + g m

pub are_times : IsCounted (λ k. k.times) (λ m. 1)
are_times = record { none = refl; more = λ k m. refl }

pub are_turns : IsCounted (λ k. k.turns) (λ m. m.turns)
are_turns = record { none = refl; more = λ k m. refl }

abbrev pub rows_sum : (Met → ℕ) → List Row → ℕ
rows_sum f rs = sum_by (λ (r : Row). f r.1) rs

with_one : (f : Met → ℕ) (g : Meeting → ℕ) → IsCounted f g → (m : Meeting) (rs : List Row) → rows_sum f (with_meeting m rs) ≡ rows_sum f rs + g m
with_one f g is m [] =
    let one = sum_by-cons (λ (r : Row). f r.1) (m.between, met_again never_met m) [] in
    let more = is.more never_met m in
    let none = is.none in
    omega (arith, one, more, none)
with_one f g is m (r ∷ rs) = by (by_between m.between r.0) (with_one f g is m rs)
  where
    by : (o : Ordering) → rows_sum f (with_meeting m rs) ≡ rows_sum f rs + g m
        → rows_sum f (match_ordering o ((m.between, met_again never_met m) ∷ r ∷ rs) ((r.0, met_again r.1 m) ∷ rs) (r ∷ with_meeting m rs)) ≡ rows_sum f (r ∷ rs) + g m
    by ordering.Less rest =
        let one = sum_by-cons (λ (r : Row). f r.1) (m.between, met_again never_met m) (r ∷ rs) in
        let more = is.more never_met m in
        let none = is.none in
        omega (arith, one, more, none)
    by ordering.Equal rest =
        let one = sum_by-cons (λ (r : Row). f r.1) (r.0, met_again r.1 m) rs in
        let was = sum_by-cons (λ (r : Row). f r.1) r rs in
        let more = is.more r.1 m in
        omega (arith, one, was, more)
    by ordering.Greater rest =
        let one = sum_by-cons (λ (r : Row). f r.1) r (with_meeting m rs) in
        let was = sum_by-cons (λ (r : Row). f r.1) r rs in
        omega (arith, one, was, rest)

pub with_all : (f : Met → ℕ) (g : Meeting → ℕ) → IsCounted f g → (ms : List Meeting) (rs : List Row) → rows_sum f (with_meetings rs ms) ≡ rows_sum f rs + sum_by g ms
with_all f g is [] rs = omega arith
with_all f g is (m ∷ ms) rs =
    let first = with_one f g is m rs in
    let rest = with_all f g is ms (with_meeting m rs) in
    let all = sum_by-cons g m ms in
    omega (arith, first, rest, all)

-- ---- room

found_part : (f : Met → ℕ) → f never_met ≡ 0 → (k : (ℕ × ℕ) × ℕ) (rs : List Row) → f (met_at k rs) ≤ rows_sum f rs
found_part f none k [] = omega (arith, none)
found_part f none k (r ∷ rs) = by (is_at (by_between k) r.0) (found_part f none k rs)
  where
    by : (b : Bool) → f (met_at k rs) ≤ rows_sum f rs → f (unwrap_or (cond b (Some r.1) (lookup (is_at (by_between k)) rs)) never_met) ≤ rows_sum f (r ∷ rs)
    by true rest = let all = sum_by-cons (λ (r : Row). f r.1) r rs in omega (arith, all)
    by false rest = let all = sum_by-cons (λ (r : Row). f r.1) r rs in omega (arith, all, rest)

-- one of the meetings that are left has room
pub room : (f : Met → ℕ) (g : Meeting → ℕ) → IsCounted f g → (all : List Meeting) (i : ℕ) (d : Meeting) (rs : List Row) → i < length all
    → with_meetings rs (drop i all) ≡ with_meetings [] all → sum_by g all < 2 ^ 64
    → f (met_at (get_or all i d).between rs) + g (get_or all i d) < 2 ^ 64
room f g is all i d rs inside so_far few =
    let m = get_or all i d in
    let part = found_part f is.none m.between rs in
    let now : rows_sum f (with_meetings rs (drop i all)) ≡ rows_sum f rs + sum_by g (drop i all) = with_all f g is (drop i all) rs in
    let last : rows_sum f (with_meetings [] all) ≡ rows_sum f [] + sum_by g all = with_all f g is all [] in
    let same : rows_sum f (with_meetings rs (drop i all)) ≡ rows_sum f (with_meetings [] all) = ap (rows_sum f) so_far in
    let left : sum_by g (drop i all) ≡ g m + sum_by g (drop (suc i) all) = ap (sum_by g) (drop-cons all i d inside) ∙ sum_by-cons g m (drop (suc i) all) in
    omega (arith, part, now, last, same, left, few)

-- one meeting more
pub next_meeting : (all : List Meeting) (i : ℕ) (d : Meeting) (rs new : List Row) → i < length all
    → with_meetings rs (drop i all) ≡ with_meetings [] all → new ≡ with_meeting (get_or all i d) rs
    → with_meetings new (drop (i + 1) all) ≡ with_meetings [] all
next_meeting all i d rs new inside so_far is =
    let n : i + 1 ≡ suc i = omega arith in
    ap (λ (k : ℕ). with_meetings new (drop k all)) n ∙ ap (λ (l : List Row). with_meetings l (drop (suc i) all)) is
    ∙ sym (ap (with_meetings rs) (drop-cons all i d inside)) ∙ so_far

pub no_meeting_left : (all : List Meeting) (i : ℕ) (rs : List Row) → length all ≤ i → with_meetings rs (drop i all) ≡ with_meetings [] all
    → rs ≡ with_meetings [] all
no_meeting_left all i rs end so_far = sym (ap (with_meetings rs) (drop_all i all end)) ∙ so_far

-- ---- a map that is in order

total : IsTotalOrder by_between
total =
    then_total (on_total (λ (t : (ℕ × ℕ) × ℕ). t.0) (then_total (on_total (λ (t : ℕ × ℕ). t.0) nat_cmp_total) (on_total (λ (t : ℕ × ℕ). t.1) nat_cmp_total)))
    (on_total (λ (t : (ℕ × ℕ) × ℕ). t.1) nat_cmp_total)

none_after : (k q : (ℕ × ℕ) × ℕ) → by_between k q ≡ Less → (rs : List Row) → AllByRecursion (λ (y : (ℕ × ℕ) × ℕ). by_between q y ≡ Less) (keys_of rs)
    → AllByRecursion (λ (r : Row). is_at (by_between k) r.0 ≡ false) rs
none_after k q less [] all = tt
none_after k q less (r ∷ rs) all = (ap is_eq (total.trans k q r.0 less all.0), none_after k q less rs all.1)

pub in_place : (m : Meeting) (rs : List Row) → IsStrictlySortedBy by_between (keys_of rs)
    → insert_entry by_between rs m.between (met_again (met_at m.between rs) m) ≡ with_meeting m rs
in_place m [] sorted = refl
in_place m (r ∷ rs) sorted =
    by (by_between m.between r.0) refl (in_place m rs (sorted_tail by_between r.0 (keys_of rs) sorted))
  where
    here : Ordering → Met
    here o = met_again (unwrap_or (cond (is_eq o) (Some r.1) (lookup (is_at (by_between m.between)) rs)) never_met) m

    by : (o : Ordering) → by_between m.between r.0 ≡ o → insert_entry by_between rs m.between (met_again (met_at m.between rs) m) ≡ with_meeting m rs
        → match_ordering o ((m.between, here o) ∷ r ∷ rs) ((r.0, here o) ∷ rs) (r ∷ insert_entry by_between rs m.between (here o))
        ≡ match_ordering o ((m.between, met_again never_met m) ∷ r ∷ rs) ((r.0, met_again r.1 m) ∷ rs) (r ∷ with_meeting m rs)
    by ordering.Less less rest =
        ap (λ (o : Option Met). (m.between, met_again (unwrap_or o never_met) m) ∷ r ∷ rs)
        (lookup-none (is_at (by_between m.between)) rs (none_after m.between r.0 less rs (sorted_head by_between r.0 (keys_of rs) sorted)))
    by ordering.Equal same rest = refl
    by ordering.Greater more rest = ap (λ (l : List Row). r ∷ l) rest
