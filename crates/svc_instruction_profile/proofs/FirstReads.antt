-- Of each violation of a legal history it is known where its victim first read the word.
use Rattle.std.proofs.Common.{◌≡◌, ◌∙◌, ◌+◌, ◌-◌, ◌==◌, ◌<◌, ◌≤◌, ◌∷◌, [], ◌&&◌, ◌⊎◌, inl, inr, ℕ, zero, suc, Bool, true, false, cond, min, List, Option, Some, None, drop, take, map, option_map, is_some, slice_get, unwrap_or, refl, ap, ap₂, sym, subst, arith}
use Rattle.std.specs.List.{AllByRecursion, filter, position}
use Rattle.std.specs.Option.{IsSome}
use Rattle.std.proofs.lemmas.Bool.{and_from, and_parts, both_ways, eq-eqb}
use Rattle.std.proofs.lemmas.Option.{none-some, same_Some, slice_get-map}
use Rattle.svc_base.specs.declared.config.Config.{Config}
use Rattle.svc_base.specs.declared.ids.UnitId.{UnitId}
use Rattle.svc_base.specs.declared.ids.WordAddr.{WordAddr}
use Rattle.svc_image.specs.Image.{Image}
use Rattle.svc_core_laws.specs.Words.{program}
use Rattle.svc_machine_laws.specs.declared.reply.Reply.{Reply}
use Rattle.svc_machine_laws.specs.declared.reply.What.{What}
use Rattle.svc_machine_laws.specs.declared.reply.What.TheVariants as what
use Rattle.svc_machine_laws.specs.Events.{Event, task_place}
use Rattle.svc_machine_laws.specs.Events as event
use Rattle.svc_machine_laws.specs.PlainMachine.{Plain, unit_of}
use Rattle.svc_machine_laws.specs.Reached.{IsReached}
use Rattle.svc_machine_laws.specs.Replies.{plain_submitted}
use Rattle.svc_machine_laws.specs.Standing.{Standing, opened_at, reply_to, standing_after}
use Rattle.svc_machine_laws.proofs.Given.{Given}
use Rattle.svc_history_laws.specs.declared.entry.CutKind.{CutKind}
use Rattle.svc_history_laws.specs.declared.entry.CutKind.TheVariants as why
use Rattle.svc_history_laws.specs.declared.entry.Entry.{Entry}
use Rattle.svc_history_laws.specs.declared.entry.Kind.{Kind}
use Rattle.svc_history_laws.specs.declared.entry.Kind.TheVariants.{Assign, Submit, Replace, Cancel, Commit}
use Rattle.svc_history_laws.specs.Causes.{IsCaused, IsRead}
use Rattle.svc_history_laws.specs.Entries.{entry_of, kind_served, entry_asking, plain_entry, reply_told, served_told, telling}
use Rattle.svc_history_laws.specs.Histories.{HasEvent}
use Rattle.svc_history_laws.specs.Legal.{Legal, LegalEntry, LegalHistory, LegalKind, after_entry, last, led_to, the_arg, the_ask, the_local}
use Rattle.svc_history_laws.proofs.Histories.{Stands, last_take, stands, tallies}
use Rattle.svc_history_laws.proofs.Leases.{has_event}
use Rattle.svc_history_laws.proofs.Readers.{is_caused}
use Rattle.svc_report.specs.Summary.{is_cause, is_kind}
use Rattle.svc_task_runs.specs.declared.task_run.TaskRun.{TaskRun}
use Rattle.svc_task_runs.specs.Runs.{Runs, after, begun, goes_on, is_load, is_number, is_store, is_submit_of, no_runs, step}
use Rattle.svc_task_runs.proofs.Begun.{all_both, all_filter}
use Rattle.svc_instruction_profile.specs.Addresses.{address_at, addresses, addresses_from, asks}
use Rattle.svc_instruction_profile.specs.Charges.{address_of, between, is_read, is_same_word, reader_at, reader_of, victim_of}
use Rattle.svc_instruction_profile.specs.Sums.{AsksAt, EachIsRead, EachIsReadFrom}
use Rattle.svc_instruction_profile.proofs.ActiveRuns.{AreActive, IsKept, IsTaskOf, active_after, kept, position_cons, task_of}
use Rattle.svc_instruction_profile.proofs.Asking.{entry_asks}
use Rattle.svc_instruction_profile.proofs.LostLoads.{drop_next, get_behind, get_first}

-- ---- entries that read

-- a reply that tells who supplied a word is a load or a store
read_moves : (w : What) → is_some (option_map kind_served (served_told w)) ≡ true → (is_load (reply_told w) ≡ true) ⊎ (is_store (reply_told w) ≡ true)
read_moves (what.Assigned task entry epoch) h = absurd (both_ways false refl h)
read_moves what.Ran h = absurd (both_ways false refl h)
read_moves (what.Loaded addr value by) h = inl refl
read_moves (what.Stored addr word by) h = inr refl
read_moves (what.Emitted word) h = absurd (both_ways false refl h)
read_moves (what.Trapped number) h = absurd (both_ways false refl h)
read_moves (what.Replaced addr) h = absurd (both_ways false refl h)
read_moves what.Cancelled h = absurd (both_ways false refl h)
read_moves (what.Committed task end) h = absurd (both_ways false refl h)

-- an entry that read asks at an instruction
abbrev ReadsAt : Option ℕ → Entry → Type 0
ReadsAt a e = is_some e.served ≡ true → IsSome a

told_reads : (a : Option ℕ) (r : Reply) (f : Entry) → AsksAt a (telling r f) → ReadsAt a (telling r f)
told_reads a r f asks h = elim (read_moves r.what h) [
  | inl load ↦ asks.loads load
  | inr store ↦ asks.stores store
]

-- a legal entry tells a reply
Tells : Entry → Type 0
Tells e = (r : Reply) × (f : Entry) × (e ≡ telling r f)

event_tells : (x : Event) (r : Reply) (e : Entry) → e ≡ entry_of x r → Tells e
unfolding Tells entry_of
event_tells x r e is = (r, entry_asking x, is)

kind_tells : (k : Kind) (img : Image) (config : Config) (s : Standing) (e : Entry) → LegalKind k img config s e → Tells e
unfolding Tells
kind_tells Assign img config s e legal = let x : Event = event.Assign e.unit.0 (the_arg e) in event_tells x (reply_to img s x) e legal.1
kind_tells Submit img config s e legal = (
  plain_submitted (program img) s.plain s.lines (task_place s.plain e.unit.0) (the_local e) (the_ask e),
  plain_entry Submit e.unit None (Some (the_local e)) (Some (the_ask e)),
  legal.entry,
)
kind_tells Replace img config s e legal = let x : Event = event.Replace e.unit.0 (the_arg e) in event_tells x (reply_to img s x) e legal.1
kind_tells Cancel img config s e legal = let x : Event = event.Cancel e.unit.0 in event_tells x (reply_to img s x) e legal.1
kind_tells Commit img config s e legal = let x : Event = event.Commit e.unit.0 in event_tells x (reply_to img s x) e legal.1

entry_reads : (img : Image) (config : Config) (s : Standing) (e : Entry) → LegalEntry img config s e → ReadsAt (address_at img s.plain e) e
unfolding Tells LegalEntry
entry_reads img config s e legal =
    let a : Option ℕ = address_at img s.plain e in
    let t : Tells e = kind_tells e.kind img config s e legal in
    subst (ReadsAt a) (sym t.2) (told_reads a t.0 t.1 (subst (AsksAt a) t.2 (entry_asks img config s e legal)))

-- what asks is a submit
asked_submit : (k : Kind) (b : Bool) (o : Option ℕ) → IsSome (cond (is_kind Submit k && b) o None) → is_kind Submit k ≡ true
asked_submit Assign b o h = absurd (both_ways false refl h)
asked_submit Submit b o h = refl
asked_submit Replace b o h = absurd (both_ways false refl h)
asked_submit Cancel b o h = absurd (both_ways false refl h)
asked_submit Commit b o h = absurd (both_ways false refl h)

reads_submit : (img : Image) (config : Config) (s : Standing) (e : Entry) → LegalEntry img config s e → is_some e.served ≡ true → is_kind Submit e.kind ≡ true
reads_submit img config s e legal h = asked_submit e.kind (the_ask e) _ (entry_reads img config s e legal h)

-- each of these asks at its address, if it read
abbrev EachReadsAt : List (Option ℕ) → List Entry → Type 0
EachReadsAt [] [] = Unit {0}
EachReadsAt (a ∷ asked) (e ∷ es) = ReadsAt a e × EachReadsAt asked es
EachReadsAt [] (e ∷ es) = ⊥
EachReadsAt (a ∷ asked) [] = ⊥

reads_from : (img : Image) (config : Config) (s : Standing) (es : List Entry) → Legal img config s es → EachReadsAt (addresses_from img s es) es
unfolding Legal addresses_from
reads_from img config s [] legal = tt
reads_from img config s (e ∷ es) legal = (entry_reads img config s e legal.0, reads_from img config (after_entry img s e) es legal.1)

each_drop : (n : ℕ) (asked : List (Option ℕ)) (es : List Entry) → EachReadsAt asked es → EachReadsAt (drop n asked) (drop n es)
each_drop zero asked es each = each
each_drop (suc n) [] [] each = tt
each_drop (suc n) (a ∷ asked) [] each = absurd each
each_drop (suc n) [] (e ∷ es) each = absurd each
each_drop (suc n) (a ∷ asked) (e ∷ es) each = each_drop n asked es each.1

each_take : (n : ℕ) (asked : List (Option ℕ)) (es : List Entry) → EachReadsAt asked es → EachReadsAt (take n asked) (take n es)
each_take zero asked es each = tt
each_take (suc n) [] [] each = tt
each_take (suc n) (a ∷ asked) [] each = absurd each
each_take (suc n) [] (e ∷ es) each = absurd each
each_take (suc n) (a ∷ asked) (e ∷ es) each = (each.0, each_take n asked es each.1)

-- ---- where a word is first read

-- something passes if this does
some_place : {X : Type 0} (p : X → Bool) (xs : List X) (k : ℕ) (x : X) → slice_get xs k ≡ Some x → p x ≡ true → IsSome (position p xs)
some_place p [] k x there passes = absurd (none-some x there)
some_place p (y ∷ xs) zero x there passes =
    ap is_some (position_cons p y xs ∙ ap (λ (b : Bool). cond b (Some 0) (option_map suc (position p xs))) (ap p (same_Some y x there) ∙ passes))
some_place p (y ∷ xs) (suc k) x there passes = ap is_some (position_cons p y xs) ∙ by (p y) (position p xs) (some_place p xs k x there passes)
  where
    by : (b : Bool) (o : Option ℕ) → IsSome o → IsSome (cond b (Some 0) (option_map suc o))
    by true o h = refl
    by false (Some n) h = refl
    by false None h = absurd (both_ways false refl h)

-- the first entry of those that pass asks at an instruction, if each of them read
first_address : (p : Entry → Bool) → ((e : Entry) → p e ≡ true → is_some e.served ≡ true) → (asked : List (Option ℕ)) (es : List Entry) → EachReadsAt asked es → IsSome (position p es) → IsSome (address_of asked (position p es))
first_address p reads [] [] each some = absurd (both_ways false refl some)
first_address p reads (a ∷ asked) [] each some = absurd each
first_address p reads [] (e ∷ es) each some = absurd each
first_address p reads (a ∷ asked) (e ∷ es) each some =
    subst (λ (o : Option ℕ). IsSome (address_of (a ∷ asked) o)) (sym (position_cons p e es))
    (by (p e) refl (position p es) (first_address p reads asked es each.1) (sym (ap is_some (position_cons p e es)) ∙ some))
  where
    by : (b : Bool) → p e ≡ b → (o : Option ℕ) → (IsSome o → IsSome (address_of asked o)) → IsSome (cond b (Some 0) (option_map suc o)) → IsSome (address_of (a ∷ asked) (cond b (Some 0) (option_map suc o)))
    by true passes o rest h = each.0 (reads e passes)
    by false passes (Some n) rest h = rest refl
    by false passes None rest h = absurd (both_ways false refl h)

get_front : (es : List Entry) (n m : ℕ) → m < n → slice_get (take n es) m ≡ slice_get es m
get_front es zero m below = absurd (omega (arith, below))
get_front [] (suc n) m below = refl
get_front (e ∷ es) (suc n) zero below = refl
get_front (e ∷ es) (suc n) (suc m) below = get_front es n m (omega (arith, below))

-- what stands between two indices
get_between : (first at j : ℕ) (es : List Entry) → first ≤ j → j < at → slice_get (between first at es) (j - first) ≡ slice_get es j
get_between first at j es from below =
    let low : min first at ≡ first = omega (arith, from, below) in
    let back : first + (j - first) ≡ j = omega (arith, from) in
    ap (λ (k : ℕ). slice_get (take (at - k) (drop k es)) (j - first)) low
    ∙ get_front (drop first es) (at - first) (j - first) (omega (arith, from, below))
    ∙ get_behind es first (j - first)
    ∙ ap (slice_get es) back

-- ---- where an active task began

-- the task began at an assignment to its unit before this index
record HasBegun (es : List Entry) (at : ℕ) (r : TaskRun) : Type 0 where
  before : r.first < at
  entry : Entry
  there : slice_get es r.first ≡ Some entry
  unit_is : entry.unit ≡ r.unit
  kind : entry.kind ≡ Assign

began_on : (es : List Entry) (at : ℕ) (e : Entry) (r : TaskRun) → HasBegun es at r → HasBegun es (suc at) (after at e r)
began_on es at e r has =
    let same : IsKept r (after at e r) = kept at e r in
    let first = same.first in
    let before = has.before in
    record {
      before = omega (arith, before, first);
      entry = has.entry;
      there = ap (slice_get es) first ∙ has.there;
      unit_is = has.unit_is ∙ sym same.unit;
      kind = has.kind;
    }

all_on : (es : List Entry) (at : ℕ) (e : Entry) (rs : List TaskRun) → AllByRecursion (HasBegun es at) rs → AllByRecursion (HasBegun es (suc at)) (map (after at e) rs)
all_on es at e [] all = tt
all_on es at e (r ∷ rs) all = (began_on es at e r all.0, all_on es at e rs all.1)

begins : (k : Kind) (es : List Entry) (at : ℕ) (e : Entry) (s : Runs) → e.kind ≡ k → slice_get es at ≡ Some e → AllByRecursion (HasBegun es (suc at)) (begun k at e s)
begins Assign es at e s is there = (record { before = omega arith; entry = e; there = there; unit_is = refl; kind = is }, tt)
begins Submit es at e s is there = tt
begins Replace es at e s is there = tt
begins Cancel es at e s is there = tt
begins Commit es at e s is there = tt

begun_after : (es : List Entry) (at : ℕ) (e : Entry) (s : Runs) → slice_get es at ≡ Some e → AllByRecursion (HasBegun es at) s.active → AllByRecursion (HasBegun es (suc at)) (step at e s).active
unfolding step
begun_after es at e s there all =
    let on = all_on es at e s.active all in
    all_both (HasBegun es (suc at)) (filter goes_on (map (after at e) s.active)) (begun e.kind at e s)
    (all_filter (HasBegun es (suc at)) goes_on (map (after at e) s.active) on) (begins e.kind es at e s refl there)

one_of_all : {X : Type 0} (P : X → Type 0) (xs : List X) (k : ℕ) (x : X) → AllByRecursion P xs → slice_get xs k ≡ Some x → P x
one_of_all P [] k x all there = absurd (none-some x there)
one_of_all P (y ∷ xs) zero x all there = subst P (same_Some y x there) all.0
one_of_all P (y ∷ xs) (suc k) x all there = one_of_all P xs k x all.1 there

-- ---- a violation

violation_is : (c : Option CutKind) → is_cause why.Violation c ≡ true → c ≡ Some why.Violation
violation_is None h = absurd (both_ways false refl h)
violation_is (Some why.Violation) h = refl
violation_is (Some why.Guess) h = absurd (both_ways false refl h)
violation_is (Some why.Cancel) h = absurd (both_ways false refl h)

-- what read a word has a supplier
has_read : (r : TaskRun) (word : Option WordAddr) (e : Entry) → is_read r word e ≡ true → is_some e.served ≡ true
has_read r word e h = (and_parts (is_submit_of e r) (is_some e.served) (and_parts (is_submit_of e r && is_some e.served) (is_same_word e.addr word) h).0).1

module _ (img : Image) (given : Given img) (config : Config) (es : List Entry) (legal : LegalHistory img config es) where
  abbrev there_at : ℕ → Standing
  there_at i = led_to img config (take i es)

  abbrev asked : List (Option ℕ)
  asked = addresses img config es

  legal_at : (i : ℕ) (e : Entry) → slice_get es i ≡ Some e → LegalEntry img config (there_at i) e
  legal_at i e there = let st : Stands img config (opened_at img config 0) es i e = stands img config (opened_at img config 0) es i e legal there in st.here

  -- the entry at which the word was read is one of the task's since it began
  is_its_read : (i word : ℕ) (r : TaskRun) (wanted : Option WordAddr) → wanted ≡ Some (record { 0 = word }) → HasBegun es i r → (read : IsRead es i r.unit.0 word)
      → IsSome (position (is_read r wanted) (between r.first i es))
  is_its_read i word r wanted names has read =
      let submit = reads_submit img config (there_at read.at) read.entry (legal_at read.at read.entry read.entry_is) (ap is_some read.served_is) in
      let unit : (read.entry.unit.0 == r.unit.0) ≡ true = eq-eqb read.entry.unit.0 r.unit.0 read.unit_is in
      let same : is_same_word read.entry.addr wanted ≡ true = ap₂ is_same_word read.address names ∙ eq-eqb word word refl in
      let passes : is_read r wanted read.entry ≡ true =
      and_from (is_submit_of read.entry r && is_some read.entry.served) (is_same_word read.entry.addr wanted)
      (and_from (is_submit_of read.entry r) (is_some read.entry.served) (and_from (is_kind Submit read.entry.kind) (read.entry.unit.0 == r.unit.0) submit unit) (ap is_some read.served_is)) same in
      let earlier = read.earlier in
      some_place (is_read r wanted) (between r.first i es) (read.at - r.first) read.entry (get_between r.first i read.at es since earlier ∙ read.entry_is) passes
    where
      late : read.at < r.first → ⊥
      late above = read.since r.first has.entry above has.before has.there (ap (λ (u : UnitId). u.0) has.unit_is) has.kind

      since : r.first ≤ read.at
      since = grind (arith, late)

  victim_read : (i : ℕ) (e : Entry) (s : Runs) → slice_get es i ≡ Some e → is_cause why.Violation e.cause ≡ true → AreActive (there_at i).plain s → AllByRecursion (HasBegun es i) s.active
      → IsSome (reader_of asked es i e s.active)
  victim_read i e s there cause are all =
      let c : IsCaused img config es i e = is_caused img given config es legal i e there (violation_is e.cause cause) in
      let plain : Plain = (there_at i).plain in
      let unit : slice_get (map unit_of plain.tasks) c.victim ≡ Some c.task.unit = slice_get-map unit_of plain.tasks c.victim ∙ ap (option_map unit_of) c.task_is in
      let t : IsTaskOf plain.commits c.victim c.task.unit s.active = task_of plain.commits c.victim c.task.unit s.active (map unit_of plain.tasks) are.tasks unit in
      let r : TaskRun = t.run in
      let victim : victim_of e s.active ≡ Some r =
      ap (λ (o : Option ℕ). unwrap_or (option_map (slice_get s.active) (position (λ (r : TaskRun). is_number o r.number) s.active)) None) c.first
      ∙ ap (λ (o : Option ℕ). unwrap_or (option_map (slice_get s.active) o) None) t.first
      ∙ t.there in
      let has : HasBegun es i r = one_of_all (HasBegun es i) s.active c.victim r all t.there in
      let read : IsRead es i r.unit.0 c.word.0 = subst (λ (u : ℕ). IsRead es i u c.word.0) (sym t.unit_is) c.read in
      let from : ℕ = min r.first i in
      let each : EachReadsAt (between r.first i asked) (between r.first i es) =
      each_take (i - from) (drop from asked) (drop from es) (each_drop from asked es (reads_from img config (opened_at img config 0) es legal)) in
      subst (λ (o : Option TaskRun). IsSome (reader_at asked es i e.addr o)) (sym victim)
      (first_address (is_read r e.addr) (has_read r e.addr) (between r.first i asked) (between r.first i es) each (is_its_read i c.word.0 r e.addr c.address has read))

  -- the tasks that are active one entry later
  active_next : (i : ℕ) (e : Entry) (s : Runs) → slice_get es i ≡ Some e → AreActive (there_at i).plain s → AreActive (there_at (suc i)).plain (step i e s)
  active_next i e s there are =
      let st : Stands img config (opened_at img config 0) es i e = stands img config (opened_at img config 0) es i e legal there in
      let x : HasEvent img config (there_at i) e = has_event img given config (there_at i) e st.here in
      let reached : IsReached img config (there_at i) = (tallies img given config (take i es) st.before).reached in
      subst (λ (n : Standing). AreActive n.plain (step i e s)) (sym (last_take img (opened_at img config 0) es i e there ∙ x.leads))
      (subst (λ (f : Entry). AreActive (standing_after img (there_at i) x.event).plain (step i f s)) (sym x.entry)
      (active_after img given config (there_at i) reached i s are x.event x.is x.accepted))

  read_from : (s : Runs) (i : ℕ) (rest : List Entry) → drop i es ≡ rest → AreActive (there_at i).plain s → AllByRecursion (HasBegun es i) s.active → EachIsReadFrom asked es s i rest
  unfolding EachIsReadFrom
  read_from s i [] is are all = tt
  read_from s i (e ∷ rest) is are all =
      let there = get_first es i e rest is in (
        λ cause. victim_read i e s there cause are all,
        read_from (step i e s) (suc i) rest (drop_next es i e rest is) (active_next i e s there are) (begun_after es i e s there all),
      )

  -- EACH VIOLATION of a legal history
  pub each_is_read : EachIsRead asked es
  unfolding last
  each_is_read = read_from no_runs 0 es refl (record { commits = refl; tasks = tt }) tt
