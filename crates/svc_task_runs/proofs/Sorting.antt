-- The active tasks after an entry: which of them go on, and which are settled.
use Rattle.std.proofs.Common.{◌≡◌, ◌∙◌, ◌+◌, ◌<◌, ◌≤◌, ◌++◌, ◌∷◌, [], ◌||◌, ℕ, suc, List, Bool, true, false, not, cond, refl, map, take, drop, length, get_or, ap, sym, append_assoc, drop-cons, length-append, arith, ◌-◌}
use Rattle.std.specs.List.{filter, list_any, remove}
use Rattle.std.proofs.Math.ListN.{set}
use Rattle.std.proofs.Math.Seq.{get_or-append_seam, set-append_seam}
use Rattle.std.proofs.lemmas.Bool.{true≢false}
use Rattle.std.proofs.lemmas.List.{drop_all, drop_more, append-nil, length-map, length-take-le, map_more, take_more}
use Rattle.std.proofs.lemmas.List.Edits.{remove-append_right}
use Rattle.std.proofs.lemmas.List.Elements.{filter-append}
use Rattle.std.proofs.lemmas.List.Folds.{list_any-append}
use Rattle.std.proofs.Math.Bool.{or-false}
use Rattle.svc_history_laws.specs.declared.entry.Entry.{Entry}
use Rattle.svc_history_laws.specs.Board.{commits}
use Rattle.svc_task_runs.specs.declared.task_run.TaskRun.{TaskRun}
use Rattle.svc_task_runs.specs.Runs.{Runs, after, begun, goes_on, is_settled, runs_from, step}

-- the tasks that go on up to an index, and all from there on
abbrev pub part_way : List TaskRun → (i : ℕ) → List TaskRun
part_way old i = filter goes_on (take i old) ++ drop i old

-- one task more is seen
one_seen : (p : TaskRun → Bool) (old : List TaskRun) (i : ℕ) (d : TaskRun) (b : Bool) → i < length old → p (get_or old i d) ≡ b
    → filter p (take (i + 1) old) ≡ filter p (take i old) ++ cond b (get_or old i d ∷ []) []
one_seen p old i d b inside is =
    let o = get_or old i d in
    ap (filter p) (take_more old i d inside) ∙ filter-append p (take i old) (o ∷ [])
    ∙ ap (λ (c : Bool). filter p (take i old) ++ cond c (o ∷ []) []) is

-- it stands behind those that go on
next_seen : (old now : List TaskRun) (i n : ℕ) (d e : TaskRun) → i < length old → n ≡ length (filter goes_on (take i old)) → now ≡ part_way old i
    → get_or now n e ≡ get_or old i d
next_seen old now i n d e inside count is =
    let xs = filter goes_on (take i old) in
    let o = get_or old i d in
    let rest = drop (i + 1) old in
    ap (λ (l : List TaskRun). get_or l n e) (is ∙ ap (λ (l : List TaskRun). xs ++ l) (drop_more old i d inside))
    ∙ ap (λ (m : ℕ). get_or (xs ++ (o ∷ rest)) m e) count ∙ get_or-append_seam xs o rest e

-- it goes on
pub one_goes : (old now : List TaskRun) (i n : ℕ) (d : TaskRun) → i < length old → n ≡ length (filter goes_on (take i old)) → now ≡ part_way old i
    → d ≡ get_or now n d → goes_on d ≡ true
    → (n + 1 ≡ length (filter goes_on (take (i + 1) old))) × (now ≡ part_way old (i + 1)) × (filter is_settled (take (i + 1) old) ≡ filter is_settled (take i old))
one_goes old now i n d inside count is this goes =
    let xs = filter goes_on (take i old) in
    let o = get_or old i d in
    let rest = drop (i + 1) old in
    let it : goes_on o ≡ true = ap goes_on (sym (this ∙ next_seen old now i n d d inside count is)) ∙ goes in
    let more : filter goes_on (take (i + 1) old) ≡ xs ++ (o ∷ []) = one_seen goes_on old i d true inside it in
    let longer : length (filter goes_on (take (i + 1) old)) ≡ length xs + 1 = ap length more ∙ length-append xs (o ∷ []) in (
      omega (arith, count, longer),
      is ∙ ap (λ (l : List TaskRun). xs ++ l) (drop_more old i d inside) ∙ sym (append_assoc xs (o ∷ []) rest) ∙ ap (λ (l : List TaskRun). l ++ rest) (sym more),
      one_seen is_settled old i d false inside (ap not it) ∙ append-nil (filter is_settled (take i old)),
    )

-- it is settled, and taken out
pub one_goes_out : (old now : List TaskRun) (i n : ℕ) (d out : TaskRun) → i < length old → n ≡ length (filter goes_on (take i old)) → now ≡ part_way old i
    → d ≡ get_or now n d → out ≡ get_or now n out → goes_on d ≡ false
    → (n ≡ length (filter goes_on (take (i + 1) old))) × (remove now n ≡ part_way old (i + 1)) × (filter is_settled (take (i + 1) old) ≡ filter is_settled (take i old) ++ (out ∷ []))
one_goes_out old now i n d out inside count is this taken stops =
    let xs = filter goes_on (take i old) in
    let o = get_or old i d in
    let rest = drop (i + 1) old in
    let it : goes_on o ≡ false = ap goes_on (sym (this ∙ next_seen old now i n d d inside count is)) ∙ stops in
    let same : filter goes_on (take (i + 1) old) ≡ xs = one_seen goes_on old i d false inside it ∙ append-nil xs in
    let first : n - n ≡ 0 = omega arith in
    let most : n ≤ n = omega arith in (
      count ∙ ap length (sym same),
      ap (λ (l : List TaskRun). remove l n) (is ∙ ap (λ (l : List TaskRun). xs ++ l) (drop_more old i d inside))
          ∙ remove-append_right xs (o ∷ rest) n n (sym count) most ∙ ap (λ (m : ℕ). xs ++ remove (o ∷ rest) m) first
          ∙ ap (λ (l : List TaskRun). l ++ rest) (sym same),
      one_seen is_settled old i d true inside (ap not it)
          ∙ ap (λ (r : TaskRun). filter is_settled (take i old) ++ (r ∷ [])) (sym (taken ∙ next_seen old now i n d out inside count is)),
    )

-- the tasks from an index on are as they were
whole : (f : TaskRun → TaskRun) (old now : List TaskRun) (i : ℕ) (d : TaskRun) → i < length old
    → now ≡ map f (take i old) ++ drop i old → now ≡ map f (take i old) ++ (get_or old i d ∷ drop (i + 1) old)
whole f old now i d inside is = is ∙ ap (λ (l : List TaskRun). map f (take i old) ++ l) (drop_more old i d inside)

count : (f : TaskRun → TaskRun) (old : List TaskRun) (i : ℕ) → i < length old → length (map f (take i old)) ≡ i
count f old i inside = length-map (take i old) f ∙ length-take-le i old (omega (arith, inside))

still_there : (f : TaskRun → TaskRun) (old now : List TaskRun) (i : ℕ) (d : TaskRun) → i < length old
    → now ≡ map f (take i old) ++ drop i old → get_or now i d ≡ get_or old i d
still_there f old now i d inside is =
    let xs = map f (take i old) in
    let ys = get_or old i d ∷ drop (i + 1) old in
    ap (λ (l : List TaskRun). get_or l i d) (whole f old now i d inside is)
    ∙ ap (λ (n : ℕ). get_or (xs ++ ys) n d) (sym (count f old i inside)) ∙ get_or-append_seam xs (get_or old i d) (drop (i + 1) old) d

-- one task more goes on, in its place
pub in_place : (f : TaskRun → TaskRun) (old now : List TaskRun) (i : ℕ) (d y : TaskRun) → i < length old
    → now ≡ map f (take i old) ++ drop i old → y ≡ f (get_or now i d) → set now i y ≡ map f (take (i + 1) old) ++ drop (i + 1) old
in_place f old now i d y inside is gone =
    let xs = map f (take i old) in
    let o = get_or old i d in
    let rest = drop (i + 1) old in
    ap (λ (l : List TaskRun). set l i y) (whole f old now i d inside is)
    ∙ ap (λ (n : ℕ). set (xs ++ (o ∷ rest)) n y) (sym (count f old i inside)) ∙ set-append_seam xs o rest y
    ∙ ap (λ (r : TaskRun). xs ++ (r ∷ rest)) (gone ∙ ap f (still_there f old now i d inside is)) ∙ sym (append_assoc xs (f o ∷ []) rest)
    ∙ ap (λ (l : List TaskRun). l ++ rest) (sym (map_more f old i d inside))

-- and is seen to be settled or not
pub one_settled : (f : TaskRun → TaskRun) (old now : List TaskRun) (i : ℕ) (d y : TaskRun) (so_far goes : Bool) → i < length old
    → now ≡ map f (take i old) ++ drop i old → y ≡ f (get_or now i d) → goes ≡ goes_on y → so_far ≡ list_any is_settled (map f (take i old))
    → (so_far || not goes) ≡ list_any is_settled (map f (take (i + 1) old))
one_settled f old now i d y so_far goes inside is gone goes_is some =
    let xs = map f (take i old) in
    let o = get_or old i d in
    ap (λ (b : Bool). so_far || not b) (goes_is ∙ ap goes_on (gone ∙ ap f (still_there f old now i d inside is)))
    ∙ ap (λ (b : Bool). b || is_settled (f o)) some
    ∙ ap (λ (b : Bool). list_any is_settled xs || b) (sym (or-false (is_settled (f o))))
    ∙ sym (list_any-append is_settled xs (f o ∷ []))
    ∙ ap (list_any is_settled) (sym (map_more f old i d inside))

-- where the fate of none is decided, all go on
pub all_go_on : (rs : List TaskRun) → list_any is_settled rs ≡ false → filter goes_on rs ≡ rs
all_go_on [] none = refl
all_go_on (r ∷ rs) none = by (goes_on r) (all_go_on rs) none
  where
    by : (b : Bool) → (list_any is_settled rs ≡ false → filter goes_on rs ≡ rs) → (not b || list_any is_settled rs) ≡ false
        → cond b (r ∷ filter goes_on rs) (filter goes_on rs) ≡ r ∷ rs
    by true rest none = ap (λ (l : List TaskRun). r ∷ l) (rest none)
    by false rest none = absurd (true≢false none)

pub none_settled : (rs : List TaskRun) → list_any is_settled rs ≡ false → filter is_settled rs ≡ []
none_settled [] none = refl
none_settled (r ∷ rs) none = by (is_settled r) (none_settled rs) none
  where
    by : (b : Bool) → (list_any is_settled rs ≡ false → filter is_settled rs ≡ []) → (b || list_any is_settled rs) ≡ false
        → cond b (r ∷ filter is_settled rs) (filter is_settled rs) ≡ []
    by true rest none = absurd (true≢false none)
    by false rest none = rest none

-- so the active tasks and the settled ones are those of the step, whether any was settled or not
pub stepped : (at : ℕ) (e : Entry) (s next : Runs) → next.commits ≡ s.commits + commits e.kind
    → next.settled ≡ s.settled ++ filter is_settled (map (after at e) s.active)
    → next.active ≡ filter goes_on (map (after at e) s.active) ++ begun e.kind at e s → next ≡ step at e s
unfolding step
stepped at e s next count settled active = rw (count, settled, active) refl

-- one entry more
pub next_entry : (es : List Entry) (i : ℕ) (d : Entry) (s next whole : Runs) → i < length es → next ≡ step i (get_or es i d) s
    → runs_from s i (drop i es) ≡ whole → runs_from next (i + 1) (drop (i + 1) es) ≡ whole
unfolding runs_from
next_entry es i d s next whole inside is so_far =
    let n : i + 1 ≡ suc i = omega arith in
    ap (λ (k : ℕ). runs_from next k (drop k es)) n ∙ ap (λ (r : Runs). runs_from r (suc i) (drop (suc i) es)) is
    ∙ sym (ap (runs_from s i) (drop-cons es i d inside)) ∙ so_far

-- no entry is left
pub at_end : (es : List Entry) (i : ℕ) (s whole : Runs) → length es ≤ i → runs_from s i (drop i es) ≡ whole → s ≡ whole
unfolding runs_from
at_end es i s whole end so_far = sym (ap (runs_from s i) (drop_all i es end)) ∙ so_far
