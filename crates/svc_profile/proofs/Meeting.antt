-- The meetings of a history are as many as the entries that are one, and have the turns of the tasks that were squashed.
use Rattle.std.proofs.Common.{◌≡◌, ◌∙◌, ◌+◌, ◌*◌, ◌<◌, ◌≤◌, ◌^◌, ◌++◌, ◌∷◌, [], ℕ, suc, List, Bool, true, false, cond, Option, Some, None, length, get_or, drop, drop-cons, map, refl, ap, sym, subst, append_assoc, append-nil, length-append, arith}
use Rattle.std.specs.Prelude.{◌&&◌, count_by}
use Rattle.std.specs.List.{AllByRecursion, filter, sum_by}
use Rattle.std.proofs.lemmas.Bool.{both_ways}
use Rattle.std.proofs.lemmas.List.{drop-append-le, drop_all}
use Rattle.std.proofs.lemmas.List.Sums.{sum_by-append, sum_by-cons}
use Rattle.svc_history_laws.specs.declared.entry.CutKind.{CutKind}
use Rattle.svc_history_laws.specs.declared.entry.CutKind.TheVariants as cause
use Rattle.svc_history_laws.specs.declared.entry.Entry.{Entry}
use Rattle.svc_history_laws.specs.declared.entry.Kind.{Kind}
use Rattle.svc_history_laws.specs.declared.entry.Kind.TheVariants.{Assign, Submit, Replace, Cancel, Commit}
use Rattle.svc_report.specs.Counting.{one_where}
use Rattle.svc_report.specs.Summary.{is_cause, is_kind}
use Rattle.svc_task_runs.specs.declared.task_run.Fate.{Fate}
use Rattle.svc_task_runs.specs.declared.task_run.Fate.TheVariants as fate
use Rattle.svc_task_runs.specs.declared.task_run.TaskRun.{TaskRun}
use Rattle.svc_task_runs.specs.Bounds.{AreFew, IsLight}
use Rattle.svc_task_runs.specs.Runs.{Runs, after, begun, fate_of, goes_on, is_active, is_not_above, is_number, is_settled, no_runs, runs_from, runs_of, step, tasks_of}
use Rattle.svc_task_runs.proofs.Begun.{all_both, all_filter}
use Rattle.svc_task_runs.proofs.Fewness.{few_tasks, light_tasks, light_up_to}
use Rattle.svc_profile.specs.declared.meetings.Meeting.{Meeting}
use Rattle.svc_profile.specs.declared.meetings.Meets.{Meets}
use Rattle.svc_profile.specs.declared.meetings.Meets.TheVariants as meets
use Rattle.svc_profile.specs.declared.totals.Group.TheVariants as group
use Rattle.svc_profile.specs.declared.totals.Measure.TheVariants as measure
use Rattle.svc_profile.specs.Meetings.{between, is_meeting, meeting_at, meetings_from, meetings_of, settled_by, turns_lost}
use Rattle.svc_profile.specs.Profile.{is_of, part_of, total_of}
use Rattle.svc_profile.proofs.Fits.{total_few}

never : {X : Type 0} → false ≡ true → X
never no_way = absurd (both_ways false refl no_way)

-- ---- how many

pub ones : (ms : List Meeting) → sum_by (λ (m : Meeting). 1) ms ≡ length ms
ones [] = refl
ones (m ∷ ms) = let all = sum_by-cons (λ (m : Meeting). 1) m ms in let rest = ones ms in omega (arith, all, rest)

one_meeting : (b : Bool) (m : Meeting) → sum_by (λ (m : Meeting). 1) (cond b (m ∷ []) []) ≡ one_where b
one_meeting true m = refl
one_meeting false m = refl

count_from : (m : Meets) (s : Runs) (at : ℕ) (es : List Entry) → sum_by (λ (m : Meeting). 1) (meetings_from m s at es) ≡ count_by (λ e. is_meeting m e) es
unfolding meetings_from
count_from m s at [] = refl
count_from m s at (e ∷ es) =
    let both = sum_by-append (λ (m : Meeting). 1) (meeting_at m at e s.active) (meetings_from m (step at e s) (suc at) es) in
    let first = one_meeting (is_meeting m e) (record { between = between m e s.active; turns = turns_lost (settled_by at e s.active) }) in
    let rest = count_from m (step at e s) (suc at) es in
    let all = sum_by-cons (λ e. one_where (is_meeting m e)) e es in
    omega (arith, both, first, rest, all)

pub as_many : (m : Meets) (es : List Entry) → sum_by (λ (m : Meeting). 1) (meetings_of m es) ≡ count_by (λ e. is_meeting m e) es
as_many m es = count_from m no_runs 0 es

one_at_most : (b : Bool) → one_where b ≤ 1
one_at_most true = omega arith
one_at_most false = omega arith

count_few : (p : Entry → Bool) (es : List Entry) → count_by p es ≤ length es
count_few p [] = omega arith
count_few p (e ∷ es) =
    let all = sum_by-cons (λ e. one_where (p e)) e es in
    let first = one_at_most (p e) in
    let rest = count_few p es in
    omega (arith, all, first, rest)

-- ---- their turns

-- no violation squashed it
abbrev IsSpared : TaskRun → Type 0
IsSpared r = is_of group.Violation r.fate ≡ false

none_lost : (rs : List TaskRun) → AllByRecursion IsSpared rs → turns_lost rs ≡ 0
none_lost [] all = refl
none_lost (r ∷ rs) all =
    let whole = sum_by-cons (part_of (total_of measure.Turns group.Violation)) r rs in
    let first : part_of (total_of measure.Turns group.Violation) r ≡ 0 = ap (λ (b : Bool). cond b r.turns 0) all.0 in
    let rest = none_lost rs all.1 in
    omega (arith, whole, first, rest)

-- an entry that is no violation spares all
fate_spared : (c : Option CutKind) → is_cause cause.Violation c ≡ false → (b d : Bool) → is_of group.Violation (cond b (fate_of c) (cond d fate.Committed fate.Active)) ≡ false
fate_spared None is true d = refl
fate_spared (Some cause.Violation) is true d = never (sym is)
fate_spared (Some cause.Guess) is true d = refl
fate_spared (Some cause.Cancel) is true d = refl
fate_spared c is false true = refl
fate_spared c is false false = refl

after_spared : (at : ℕ) (e : Entry) (rs : List TaskRun) → is_cause cause.Violation e.cause ≡ false → AllByRecursion IsSpared (map (after at e) rs)
unfolding after
after_spared at e [] is = tt
after_spared at e (r ∷ rs) is =
    (fate_spared e.cause is (is_not_above e.first r.number) (is_kind Commit e.kind && is_number e.word r.number), after_spared at e rs is)

lost_here : (b : Bool) (m : Meeting) → (b ≡ false → m.turns ≡ 0) → sum_by (λ (m : Meeting). m.turns) (cond b (m ∷ []) []) ≡ m.turns
lost_here true m none = omega arith
lost_here false m none = sym (none refl)

lost_at : (at : ℕ) (e : Entry) (rs : List TaskRun) → sum_by (λ (m : Meeting). m.turns) (meeting_at meets.Squash at e rs) ≡ turns_lost (settled_by at e rs)
lost_at at e rs =
    lost_here (is_cause cause.Violation e.cause) (record { between = between meets.Squash e rs; turns = turns_lost (settled_by at e rs) })
    (λ is. none_lost (settled_by at e rs) (all_filter IsSpared is_settled (map (after at e) rs) (after_spared at e rs is)))

lost_from : (s : Runs) (at : ℕ) (es : List Entry)
    → turns_lost (runs_from s at es).settled ≡ turns_lost s.settled + sum_by (λ (m : Meeting). m.turns) (meetings_from meets.Squash s at es)
unfolding runs_from meetings_from step
lost_from s at [] = omega arith
lost_from s at (e ∷ es) =
    let rest = lost_from (step at e s) (suc at) es in
    let settled : turns_lost (s.settled ++ settled_by at e s.active) ≡ turns_lost s.settled + turns_lost (settled_by at e s.active) =
    sum_by-append (part_of (total_of measure.Turns group.Violation)) s.settled (settled_by at e s.active) in
    let both = sum_by-append (λ (m : Meeting). m.turns) (meeting_at meets.Squash at e s.active) (meetings_from meets.Squash (step at e s) (suc at) es) in
    let here = lost_at at e s.active in
    omega (arith, rest, settled, both, here)

-- an active task is spared
spared : (f : Fate) → is_active f ≡ true → is_of group.Violation f ≡ false
spared fate.Active is = refl
spared fate.Committed is = never is
spared fate.Violation is = never is
spared fate.Guess is = never is
spared fate.Cancel is = never is

spared_on : (rs : List TaskRun) → AllByRecursion IsSpared (filter goes_on rs)
spared_on [] = tt
spared_on (r ∷ rs) = by (goes_on r) (spared r.fate) (spared_on rs)
  where
    by : (b : Bool) → (b ≡ true → IsSpared r) → AllByRecursion IsSpared (filter goes_on rs) → AllByRecursion IsSpared (cond b (r ∷ filter goes_on rs) (filter goes_on rs))
    by true one rest = (one refl, rest)
    by false one rest = rest

begun_spared : (k : Kind) (at : ℕ) (e : Entry) (s : Runs) → AllByRecursion IsSpared (begun k at e s)
begun_spared Assign at e s = (refl, tt)
begun_spared Submit at e s = tt
begun_spared Replace at e s = tt
begun_spared Cancel at e s = tt
begun_spared Commit at e s = tt

active_spared : (s : Runs) (at : ℕ) (es : List Entry) → AllByRecursion IsSpared s.active → AllByRecursion IsSpared (runs_from s at es).active
unfolding runs_from step
active_spared s at [] all = all
active_spared s at (e ∷ es) all =
    active_spared (step at e s) (suc at) es
    (all_both IsSpared (filter goes_on (map (after at e) s.active)) (begun e.kind at e s) (spared_on (map (after at e) s.active)) (begun_spared e.kind at e s))

pub all_lost : (es : List Entry) → sum_by (λ (m : Meeting). m.turns) (meetings_of meets.Squash es) ≡ turns_lost (tasks_of es)
all_lost es =
    let both : turns_lost (tasks_of es) ≡ turns_lost (runs_of es).settled + turns_lost (runs_of es).active =
    sum_by-append (part_of (total_of measure.Turns group.Violation)) (runs_of es).settled (runs_of es).active in
    let settled = lost_from no_runs 0 es in
    let active = none_lost (runs_of es).active (active_spared no_runs 0 es tt) in
    omega (arith, both, settled, active)

-- ---- how much they come to

-- the turns of the meetings of any kind are no more than those of all tasks that were squashed
less_here : (b : Bool) (m : Meeting) → sum_by (λ (m : Meeting). m.turns) (cond b (m ∷ []) []) ≤ m.turns
less_here true m = omega arith
less_here false m = omega arith

less_from : (m : Meets) (s : Runs) (at : ℕ) (es : List Entry)
    → turns_lost s.settled + sum_by (λ (m : Meeting). m.turns) (meetings_from m s at es) ≤ turns_lost (runs_from s at es).settled
unfolding runs_from meetings_from step
less_from m s at [] = omega arith
less_from m s at (e ∷ es) =
    let rest = less_from m (step at e s) (suc at) es in
    let settled : turns_lost (s.settled ++ settled_by at e s.active) ≡ turns_lost s.settled + turns_lost (settled_by at e s.active) =
    sum_by-append (part_of (total_of measure.Turns group.Violation)) s.settled (settled_by at e s.active) in
    let both = sum_by-append (λ (m : Meeting). m.turns) (meeting_at m at e s.active) (meetings_from m (step at e s) (suc at) es) in
    let here = less_here (is_meeting m e) (record { between = between m e s.active; turns = turns_lost (settled_by at e s.active) }) in
    omega (arith, rest, settled, both, here)

pub turns_fit : (m : Meets) (es : List Entry) → length es ≤ 1000000 → AreFew (length es) (runs_of es) → sum_by (λ (m : Meeting). m.turns) (meetings_of m es) < 2 ^ 64
turns_fit m es few are =
    let all : turns_lost no_runs.settled + sum_by (λ (m : Meeting). m.turns) (meetings_of m es) ≤ turns_lost (runs_of es).settled = less_from m no_runs 0 es in
    let both : turns_lost (tasks_of es) ≡ turns_lost (runs_of es).settled + turns_lost (runs_of es).active =
    sum_by-append (part_of (total_of measure.Turns group.Violation)) (runs_of es).settled (runs_of es).active in
    let most : turns_lost (tasks_of es) ≤ 514000000 * length (tasks_of es) =
    total_few (total_of measure.Turns group.Violation) (tasks_of es) (light_tasks (length es) (runs_of es) few are) in
    let some : length (tasks_of es) ≤ 1000000 = few_tasks (length es) (runs_of es) few are in
    omega (arith, all, both, most, some)

pub count_fits : (m : Meets) (es : List Entry) → length es ≤ 1000000 → length (meetings_of m es) < 2 ^ 64
count_fits m es few =
    let one = ones (meetings_of m es) in
    let many = as_many m es in
    let some = count_few (λ e. is_meeting m e) es in
    omega (arith, one, many, some, few)

-- ---- entry by entry

pub one_more : (m : Meets) (es : List Entry) (i : ℕ) (d : Entry) (s next : Runs) (ms new whole : List Meeting) → i < length es → next ≡ step i (get_or es i d) s
    → new ≡ ms ++ meeting_at m i (get_or es i d) s.active → ms ++ meetings_from m s i (drop i es) ≡ whole
    → new ++ meetings_from m next (i + 1) (drop (i + 1) es) ≡ whole
unfolding meetings_from
one_more m es i d s next ms new whole inside is added so_far =
    let n : i + 1 ≡ suc i = omega arith in
    let x = meeting_at m i (get_or es i d) s.active in
    let rest = meetings_from m (step i (get_or es i d) s) (suc i) (drop (suc i) es) in
    ap (λ (k : ℕ). new ++ meetings_from m next k (drop k es)) n
    ∙ ap (λ (r : Runs). new ++ meetings_from m r (suc i) (drop (suc i) es)) is
    ∙ ap (λ (l : List Meeting). l ++ rest) added
    ∙ append_assoc ms x rest
    ∙ sym (ap (λ (l : List Entry). ms ++ meetings_from m s i l) (drop-cons es i d inside))
    ∙ so_far

pub none_left : (m : Meets) (es : List Entry) (i : ℕ) (s : Runs) (ms whole : List Meeting) → length es ≤ i → ms ++ meetings_from m s i (drop i es) ≡ whole → ms ≡ whole
unfolding meetings_from
none_left m es i s ms whole end so_far =
    sym (append-nil ms) ∙ sym (ap (λ (l : List Entry). ms ++ meetings_from m s i l) (drop_all i es end)) ∙ so_far

-- ---- the tasks that an entry settles

pub settled_now : (at : ℕ) (e : Entry) (s next : Runs) → next ≡ step at e s → next.settled ≡ s.settled ++ settled_by at e s.active
unfolding step
settled_now at e s next is = ap (λ (r : Runs). r.settled) is

-- those behind the ones that were there
fresh : (old new all : List TaskRun) → all ≡ old ++ new → drop (length old) all ≡ new
fresh old new all is =
    ap (drop (length old)) is ∙ drop-append-le (length old) old new (omega arith)
    ∙ ap (λ (l : List TaskRun). l ++ new) (drop_all (length old) old (omega arith))

pub from_there : (n : ℕ) (old new all : List TaskRun) → n ≡ length old → all ≡ old ++ new → drop n all ≡ new
from_there n old new all at is = ap (λ (k : ℕ). drop k all) at ∙ fresh old new all is

pub within : (n : ℕ) (old new all : List TaskRun) → n ≡ length old → all ≡ old ++ new → n ≤ length all
within n old new all at is =
    let both : length all ≡ length old + length new = ap length is ∙ length-append old new in
    omega (arith, both, at)

right_part : {X : Type 0} (P : X → Type 0) (xs ys : List X) → AllByRecursion P (xs ++ ys) → AllByRecursion P ys
right_part P [] ys all = all
right_part P (x ∷ xs) ys all = right_part P xs ys all.1

pub fresh_light : (n : ℕ) (old new all : List TaskRun) → all ≡ old ++ new → n ≤ 1000000 → AllByRecursion (IsLight n) all → AllByRecursion (IsLight 1000000) new
fresh_light n old new all is le light = light_up_to n 1000000 new le (right_part (IsLight n) old new (subst (AllByRecursion (IsLight n)) is light))
