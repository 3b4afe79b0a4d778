-- What a search has left to do, one step on and at the end.
use Rattle.std.proofs.Common.{◌≡◌, ◌<◌, ◌≤◌, ◌+◌, ◌-◌, ◌&&◌, ◌++◌, ◌∷◌, [], ◌∙◌, ◌==◌, Bool, cond, true, false, refl, ap, sym, ℕ, zero, suc, List, Option, Some, None, take, drop, get_or, length, append_assoc, add-one, arith, drop-cons, length-drop}
use Rattle.std.proofs.lemmas.List.{append-nil, get_or-drop, at_drop_all, at_drop_more, drop_more}
use Rattle.std.proofs.lemmas.Bool.{and_parts, and_right, lt-leb, ltb-true, ne_eqb}
use Rattle.std.specs.HashMap.{get}
use Rattle.std.specs.Prelude.{nat_le, nat_lt}
use Rattle.svc_base.specs.declared.ids.UnitId.{UnitId}
use Rattle.svc_base.specs.declared.ids.WordAddr.{WordAddr}
use Rattle.svc_history_laws.specs.declared.entry.CutKind.{CutKind}
use Rattle.svc_history_laws.specs.declared.entry.CutKind.TheVariants as cause
use Rattle.svc_history_laws.specs.declared.entry.Entry.{Entry}
use Rattle.svc_task_runs.specs.Runs.{is_number, is_store}
use Rattle.svc_marks.specs.declared.bars.Bar.{Bar}
use Rattle.svc_marks.specs.declared.bars.Window.{Window}
use Rattle.svc_marks.specs.declared.marks.Mark.{Mark}
use Rattle.svc_marks.specs.declared.marks.MarkKind.{MarkKind}
use Rattle.svc_marks.specs.declared.marks.MarkKind.TheVariants as mark
use Rattle.svc_marks.specs.declared.marks.Spot.{Spot}
use Rattle.svc_marks.specs.declared.stores.LastStores.{LastStores}
use Rattle.svc_marks.specs.Bars.{runs}
use Rattle.svc_marks.specs.Marks.{arrow, between, first_bar, first_where, handed, handed_by, is_before, is_given, is_over, is_same_word, is_victim, kind_of, last_shown, last_where, left_at, marks_at, marks_by, marks_from, shape, squashed, stores, taken, task_at, task_of}
use Rattle.svc_marks.specs.Stores.{AreLastShown, is_key, last_store}

-- both fail where one does
pub first_fails : (x y : Bool) → false ≡ x → (x && y) ≡ false
first_fails x y fails = ap (λ b. b && y) (sym fails)

pub second_fails : (x y : Bool) → false ≡ y → (x && y) ≡ false
second_fails true y fails = sym fails
second_fails false y fails = refl

-- a search for a bar goes on past one that is not such, ends at one that is, and finds none at the end
pub bar_goes_on : (p : Bar → Bool) (bs : List Bar) (i : ℕ) (d : Bar) → i < length bs → p (get_or bs i d) ≡ false → first_bar p (drop i bs) ≡ first_bar p (drop (i + 1) bs)
unfolding first_bar
bar_goes_on p bs i d inside other = at_drop_more (first_bar p) bs i d inside ∙ ap (λ b. cond b (Some (get_or bs i d)) (first_bar p (drop (i + 1) bs))) other

pub bar_found : (p : Bar → Bool) (bs : List Bar) (i : ℕ) (d : Bar) → i < length bs → p (get_or bs i d) ≡ true → first_bar p (drop i bs) ≡ Some (get_or bs i d)
unfolding first_bar
bar_found p bs i d inside such = at_drop_more (first_bar p) bs i d inside ∙ ap (λ b. cond b (Some (get_or bs i d)) (first_bar p (drop (i + 1) bs))) such

pub no_bar : (p : Bar → Bool) (bs : List Bar) (i : ℕ) → length bs ≤ i → first_bar p (drop i bs) ≡ None
unfolding first_bar
no_bar p bs i over = at_drop_all (first_bar p) bs i over

-- the same of the first such entry
pub entry_goes_on : (p : Entry → Bool) (at : ℕ) (es : List Entry) (i : ℕ) (d : Entry) → i < length es → p (get_or es i d) ≡ false → first_where p at (drop i es) ≡ first_where p (at + 1) (drop (i + 1) es)
unfolding first_where
entry_goes_on p at es i d inside other =
    at_drop_more (first_where p at) es i d inside
    ∙ ap (λ b. cond b (Some at) (first_where p (suc at) (drop (i + 1) es))) other
    ∙ ap (λ n. first_where p n (drop (i + 1) es)) (sym (add-one at))

pub entry_found : (p : Entry → Bool) (at : ℕ) (es : List Entry) (i : ℕ) (d : Entry) → i < length es → p (get_or es i d) ≡ true → first_where p at (drop i es) ≡ Some at
unfolding first_where
entry_found p at es i d inside such = at_drop_more (first_where p at) es i d inside ∙ ap (λ b. cond b (Some at) (first_where p (suc at) (drop (i + 1) es))) such

pub no_entry : (p : Entry → Bool) (at : ℕ) (es : List Entry) (i : ℕ) → length es ≤ i → first_where p at (drop i es) ≡ None
unfolding first_where
no_entry p at es i over = at_drop_all (first_where p at) es i over

-- the last such entry, where there is one entry more
last_more : (p : Entry → Bool) (found : Option ℕ) (at : ℕ) (es : List Entry) (n : ℕ) (d : Entry) → n < length es
    → last_where p found at (take (suc n) es) ≡ cond (p (get_or es n d)) (Some (at + n)) (last_where p found at (take n es))
unfolding last_where
last_more p found at [] n d inside = absurd (omega (arith, inside))
last_more p found at (e ∷ es) zero d inside = let same : at ≡ at + 0 = omega arith in ap (λ n. cond (p e) (Some n) found) same
last_more p found at (e ∷ es) (suc n) d inside =
    let within : n < length es = omega (arith, inside) in
    let place : suc at + n ≡ at + suc n = omega arith in
    last_more p (cond (p e) (Some at) found) (suc at) es n d within
    ∙ ap (λ m. cond (p (get_or es n d)) (Some m) (last_where p (cond (p e) (Some at) found) (suc at) (take n es))) place

-- bars that are over are left out, and the first that isn't is where that ends
pub left_goes_on : (at : ℕ) (bs : List Bar) (i : ℕ) (d : Bar) → i < length bs → is_over at (get_or bs i d) ≡ true → left_at at (drop i bs) ≡ left_at at (drop (i + 1) bs)
unfolding left_at
left_goes_on at bs i d inside over = at_drop_more (left_at at) bs i d inside ∙ ap (λ b. cond b (left_at at (drop (i + 1) bs)) (get_or bs i d ∷ drop (i + 1) bs)) over

pub left_from : (at : ℕ) (bs : List Bar) (i : ℕ) (d : Bar) → i < length bs → is_over at (get_or bs i d) ≡ false → left_at at (drop i bs) ≡ drop i bs
unfolding left_at
left_from at bs i d inside other =
    at_drop_more (left_at at) bs i d inside ∙ ap (λ b. cond b (left_at at (drop (i + 1) bs)) (get_or bs i d ∷ drop (i + 1) bs)) other
    ∙ sym (drop_more bs i d inside)

pub none_left : (at : ℕ) (bs : List Bar) (i : ℕ) → length bs ≤ i → left_at at (drop i bs) ≡ []
unfolding left_at
none_left at bs i over = at_drop_all (left_at at) bs i over

-- a search that no bar that is over passes finds the same among those that are left
same_first : (p : Bar → Bool) (at : ℕ) → ((b : Bar) → is_over at b ≡ true → p b ≡ false) → (bs : List Bar) → first_bar p (left_at at bs) ≡ first_bar p bs
unfolding first_bar left_at
same_first p at fails [] = refl
same_first p at fails (b ∷ bs) = by (is_over at b) refl (same_first p at fails bs)
  where
    by : (over : Bool) → is_over at b ≡ over → first_bar p (left_at at bs) ≡ first_bar p bs
        → first_bar p (cond over (left_at at bs) (b ∷ bs)) ≡ first_bar p (b ∷ bs)
    by true is rest = rest ∙ sym (ap (λ c. cond c (Some b) (first_bar p bs)) (fails b is))
    by false is rest = refl

-- a bar that is over runs no more, and no later entry decides its task
over_is_still : (at later : ℕ) (unit : ℕ) (b : Bar) → at ≤ later → is_over at b ≡ true → runs unit later b ≡ false
over_is_still at later unit b le over =
    let parts = and_parts (is_before b.task.last at) (nat_lt b.end at) over in
    let ends = ltb-true b.end at parts.1 in
    and_right (b.task.unit.0 == unit) (nat_le b.start later && nat_le later b.end) (and_right (nat_le b.start later) (nat_le later b.end) (lt-leb later b.end (omega (arith, le, ends))))

not_decided : (last : Option ℕ) (at later : ℕ) → at ≤ later → is_before last at ≡ true → is_number last later ≡ false
not_decided None at later le is = refl
not_decided (Some m) at later le is = let before = ltb-true m at is in ne_eqb m later (λ e. omega (arith, le, before, e))

over_is_no_victim : (at later : ℕ) (e : Entry) (b : Bar) → at ≤ later → is_over at b ≡ true → is_victim e later b ≡ false
over_is_no_victim at later e b le over =
    let parts = and_parts (is_before b.task.last at) (nat_lt b.end at) over in
    and_right (is_number e.first b.task.number) (is_number b.task.last later) (not_decided b.task.last at later le parts.0)

-- no store is shown before the first entry shown
pub none_shown : (es : List Entry) (w : Window) (unit : UnitId) (word : Option WordAddr) → last_shown es w w.from unit word ≡ None
unfolding last_where
none_shown es w unit word =
    let none : w.from - w.from ≡ 0 = omega arith in
    ap (λ n. last_where (stores unit word) None w.from (take n (drop w.from es))) none

-- one entry more
one_more_shown : (es : List Entry) (w : Window) (at : ℕ) (d : Entry) (unit : UnitId) (word : Option WordAddr) → w.from ≤ at → at < length es
    → last_shown es w (at + 1) unit word ≡ cond (stores unit word (get_or es at d)) (Some at) (last_shown es w at unit word)
one_more_shown es w at d unit word from inside =
    let p = stores unit word in
    let rest = drop w.from es in
    let n = at - w.from in
    let many : (at + 1) - w.from ≡ suc n = omega (arith, from) in
    let count = length-drop w.from es in
    let within : n < length rest = omega (arith, count, from, inside) in
    let place : w.from + n ≡ at = omega (arith, from) in
    let before = last_where p None w.from (take n rest) in
    let this : get_or rest n d ≡ get_or es at d = get_or-drop w.from es n d ∙ ap (λ m. get_or es m d) place in
    ap (λ m. last_where p None w.from (take m rest)) many
    ∙ last_more p None w.from rest n d within
    ∙ ap (λ (e : Entry). cond (p e) (Some (w.from + n)) before) this
    ∙ ap (λ (m : ℕ). cond (p (get_or es at d)) (Some m) before) place

-- a store is put down at its unit and word
pub put_down : (e : Entry) (a : WordAddr) (at : ℕ) (old new : LastStores) → e.addr ≡ Some a → is_store e.reply ≡ true
    → ((q : ℕ × ℕ) → get is_key new.places q ≡ cond (is_key (e.unit.0, a.0) q) (Some at) (get is_key old.places q))
    → (unit : UnitId) (word : Option WordAddr) → last_store new unit word ≡ cond (stores unit word e) (Some at) (last_store old unit word)
put_down e a at old new is store told unit None =
    let other : is_same_word e.addr None ≡ false = ap (λ o. is_same_word o None) is in
    let no : stores unit None e ≡ false = and_right (is_store e.reply) ((e.unit.0 == unit.0) && is_same_word e.addr None) (and_right (e.unit.0 == unit.0) (is_same_word e.addr None) other) in
    let none : Option ℕ = None in
    ap (λ b. cond b (Some at) none) (sym no)
put_down e a at old new is store told unit (Some word) =
    let same : Bool = e.unit.0 == unit.0 in
    let is_it : stores unit (Some word) e ≡ is_key (e.unit.0, a.0) (unit.0, word.0) =
    ap (λ b. b && (same && is_same_word e.addr (Some word))) store ∙ ap (λ o. same && is_same_word o (Some word)) is in
    told (unit.0, word.0) ∙ ap (λ b. cond b (Some at) (get is_key old.places (unit.0, word.0))) (sym is_it)

-- what is known of the stores goes on
pub noted : (es : List Entry) (w : Window) (at : ℕ) (d : Entry) (old new : LastStores) → w.from ≤ at → at < length es → AreLastShown es w at old
    → ((unit : UnitId) (word : Option WordAddr) → last_store new unit word ≡ cond (stores unit word (get_or es at d)) (Some at) (last_store old unit word))
    → AreLastShown es w (at + 1) new
noted es w at d old new from inside known told =
    λ unit word. told unit word ∙ ap (λ (o : Option ℕ). cond (stores unit word (get_or es at d)) (Some at) o) (known unit word)
    ∙ sym (one_more_shown es w at d unit word from inside)

-- so the marks are those of the entries that are shown
same_hand : (f g : UnitId → Option WordAddr → Option ℕ) → ((unit : UnitId) (word : Option WordAddr) → f unit word ≡ g unit word) → (e : Entry) (from : Option UnitId)
    → handed_by f e from ≡ handed_by g e from
same_hand f g same e None = refl
same_hand f g same e (Some unit) =
    let spot : Option ℕ → Spot = λ place. record { lane = unit; place = place } in
    ap (λ (o : Option ℕ). cond (is_given e.served) (Some (spot o)) None) (same unit e.addr)

marks_known : (es : List Entry) (w : Window) (at : ℕ) (s : LastStores) (bs : List Bar) (e : Entry) → AreLastShown es w at s
    → marks_by (last_store s) es bs at e ≡ marks_at es w bs at e
marks_known es w at s bs e known =
    ap (λ (o : Option Spot). shape bs at e (kind_of e.reply) ++ (arrow mark.Handed bs at e o ++ arrow mark.Squash bs at e (squashed es bs at e e.cause)))
    (same_hand (last_store s) (last_shown es w at) known e e.from)

-- so an entry's marks are the same, and those of all from there on
same_squash : (es : List Entry) (bs : List Bar) (at later : ℕ) (e : Entry) (why : Option CutKind) → at ≤ later
    → squashed es (left_at at bs) later e why ≡ squashed es bs later e why
same_squash es bs at later e (Some cause.Violation) le = ap (taken es later e) (same_first (is_victim e later) at (λ b. over_is_no_victim at later e b le) bs)
same_squash es bs at later e (Some cause.Guess) le = refl
same_squash es bs at later e (Some cause.Cancel) le = refl
same_squash es bs at later e None le = refl

same_task : (bs : List Bar) (at later unit : ℕ) → at ≤ later → task_at (left_at at bs) unit later ≡ task_at bs unit later
same_task bs at later unit le = ap task_of (same_first (runs unit later) at (λ b. over_is_still at later unit b le) bs)

same_shape : (bs : List Bar) (at later : ℕ) (e : Entry) (kind : Option MarkKind) → at ≤ later → shape (left_at at bs) later e kind ≡ shape bs later e kind
same_shape bs at later e None le = refl
same_shape bs at later e (Some kind) le = rw (same_task bs at later e.unit.0 le) refl

same_arrow : (kind : MarkKind) (bs : List Bar) (at later : ℕ) (e : Entry) (other : Option Spot) → at ≤ later
    → arrow kind (left_at at bs) later e other ≡ arrow kind bs later e other
same_arrow kind bs at later e None le = refl
same_arrow kind bs at later e (Some spot) le = rw (same_task bs at later e.unit.0 le) refl

same_marks : (es : List Entry) (w : Window) (bs : List Bar) (at later : ℕ) (e : Entry) → at ≤ later
    → marks_at es w (left_at at bs) later e ≡ marks_at es w bs later e
same_marks es w bs at later e le =
    let one = same_shape bs at later e (kind_of e.reply) le in
    let two = same_arrow mark.Handed bs at later e (handed es w later e e.from) le in
    let three = same_squash es bs at later e e.cause le in
    let four = same_arrow mark.Squash bs at later e (squashed es bs later e e.cause) le in
    let right = ap (arrow mark.Squash (left_at at bs) later e) three ∙ four in
    rw (one, two, right) refl

marks_of_left : (es : List Entry) (w : Window) (bs : List Bar) (at later : ℕ) (rest : List Entry) → at ≤ later
    → marks_from es w (left_at at bs) later rest ≡ marks_from es w bs later rest
unfolding marks_from
marks_of_left es w bs at later [] le = refl
marks_of_left es w bs at later (e ∷ rest) le =
    ap (λ ms. ms ++ marks_from es w (left_at at bs) (suc later) rest) (same_marks es w bs at later e le)
    ∙ ap (λ ms. marks_at es w bs later e ++ ms) (marks_of_left es w bs at (suc later) rest (omega (arith, le)))

-- nothing stands between an index and one that isn't above it
pub nothing_between : (from to : ℕ) (es : List Entry) → to ≤ from → between from to es ≡ []
nothing_between from to es over = let none : to - from ≡ 0 = omega arith in ap (λ n. take n (drop from es)) none

pub no_entry_between : (p : Entry → Bool) (from to : ℕ) (es : List Entry) → to < from → first_where p from (between from to es) ≡ None
unfolding first_where
no_entry_between p from to es over = ap (first_where p from) (nothing_between from to es (omega arith))

-- the marks of the entries from one on are its own and those of the entries after it
pub marks_go_on : (es : List Entry) (w : Window) (bs : List Bar) (at to : ℕ) (d : Entry) → at < to → to ≤ length es
    → marks_from es w bs at (between at to es) ≡ marks_at es w bs at (get_or es at d) ++ marks_from es w bs (suc at) (between (suc at) to es)
unfolding marks_from
marks_go_on es w bs at to d below inside =
    let inside_at : at < length es = omega arith in
    let some : to - at ≡ suc (to - suc at) = omega arith in
    ap (λ n. marks_from es w bs at (take n (drop at es))) some
    ∙ ap (λ xs. marks_from es w bs at (take (suc (to - suc at)) xs)) (drop-cons es at d inside_at)

pub no_marks : (es : List Entry) (w : Window) (bs : List Bar) (at to : ℕ) → to ≤ at → marks_from es w bs at (between at to es) ≡ []
unfolding marks_from
no_marks es w bs at to over = ap (marks_from es w bs at) (nothing_between at to es over)

-- those so far, the entry's own and those to come are all of them; at the end those so far are
pub one_more_mark : (es : List Entry) (w : Window) (bs : List Bar) (at to : ℕ) (d : Entry) (old new all : List Mark) → at < to → to ≤ length es
    → new ≡ old ++ marks_at es w bs at (get_or es at d) → old ++ marks_from es w bs at (between at to es) ≡ all
    → new ++ marks_from es w bs (at + 1) (between (at + 1) to es) ≡ all
one_more_mark es w bs at to d old new all below inside pushed so_far =
    ap (λ n. new ++ marks_from es w bs n (between n to es)) (add-one at)
    ∙ ap (λ xs. xs ++ marks_from es w bs (suc at) (between (suc at) to es)) pushed
    ∙ append_assoc old (marks_at es w bs at (get_or es at d)) (marks_from es w bs (suc at) (between (suc at) to es))
    ∙ ap (λ xs. old ++ xs) (sym (marks_go_on es w bs at to d below inside))
    ∙ so_far

pub all_marks : (es : List Entry) (w : Window) (bs : List Bar) (at to : ℕ) (marks all : List Mark) → to ≤ at
    → marks ++ marks_from es w bs at (between at to es) ≡ all → marks ≡ all
all_marks es w bs at to marks all over so_far =
    sym (append-nil marks) ∙ ap (λ xs. marks ++ xs) (sym (no_marks es w bs at to over)) ∙ so_far

-- the same where the bars that are over are left out first
one_more_left : (es : List Entry) (w : Window) (bs left : List Bar) (at to : ℕ) (d : Entry) (old new all : List Mark) → at < to → to ≤ length es
    → left ≡ left_at at bs → new ≡ old ++ marks_at es w left at (get_or es at d) → old ++ marks_from es w bs at (between at to es) ≡ all
    → new ++ marks_from es w left (at + 1) (between (at + 1) to es) ≡ all
one_more_left es w bs left at to d old new all below inside is pushed so_far =
    let here : at ≤ at = omega arith in
    one_more_mark es w left at to d old new all below inside pushed
    (ap (λ ms. old ++ ms) (ap (λ l. marks_from es w l at (between at to es)) is ∙ marks_of_left es w bs at at (between at to es) here) ∙ so_far)

-- and what is known of the stores before it tells the marks of an entry
pub one_more_known : (es : List Entry) (w : Window) (bs left : List Bar) (at to : ℕ) (d : Entry) (s : LastStores) (old new all : List Mark) → at < to → to ≤ length es
    → left ≡ left_at at bs → AreLastShown es w at s → new ≡ old ++ marks_by (last_store s) es left at (get_or es at d)
    → old ++ marks_from es w bs at (between at to es) ≡ all → new ++ marks_from es w left (at + 1) (between (at + 1) to es) ≡ all
one_more_known es w bs left at to d s old new all below inside is known pushed so_far =
    one_more_left es w bs left at to d old new all below inside is
    (pushed ∙ ap (λ ms. old ++ ms) (marks_known es w at s left (get_or es at d) known)) so_far
