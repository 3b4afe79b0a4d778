-- Each exposed word of an active task that isn't the head has its read in the history, and so has each violation.
use Rattle.std.proofs.Common.{inl, inr, ◌⊎◌, ℕ, zero, suc, ◌≡◌, ◌≢◌, ◌==◌, ◌+◌, ◌-◌, ◌<◌, ◌≤◌, Bool, true, false, cond, not, ◌&&◌, ◌||◌, List, [], ◌∷◌, map, Option, Some, None, refl, sym, ap, ◌∙◌, subst, arith, option_map, is_some, is_none, length, slice_get, take, get_or}
use Rattle.std.specs.Prelude.{option_and_then}
use Rattle.std.specs.Option.{option_or}
use Rattle.std.proofs.lemmas.Option.{none-some, same_Some, slice_get-get_or}
use Rattle.std.proofs.lemmas.Bool.{cases_Bool, and_parts, eqb-true}
use borrow.Author.Tests.{both_ways}
use Rattle.svc_base.specs.declared.config.Config.{Config}
use Rattle.svc_base.specs.declared.ids.UnitId.{UnitId}
use Rattle.svc_base.specs.declared.ids.WordAddr.{WordAddr}
use Rattle.svc_base.specs.declared.served.Served.{Served}
use Rattle.svc_image.specs.Image.{Image}
use Rattle.svc_core_laws.specs.State.{State}
use Rattle.svc_core_laws.specs.Program.{Action, Loaded, Stored, Replaced, Emitted, Memory, Program, Want, Local, Load, Store, Narrow, Emit, wrote, exposed_words}
use Rattle.svc_core_laws.specs.Words.{program}
use Rattle.svc_core_laws.specs.Bursts.{Advance}
use Rattle.svc_core_laws.proofs.Looks.{get-append_left}
use Rattle.svc_bus_laws.specs.Versioned.{Row, Versioned, with_head}
use Rattle.svc_bus_laws.specs.ByRows.{edit, cut_at}
use Rattle.svc_bus_laws.specs.MapLaws.{IsVictim}
use Rattle.svc_bus_laws.specs.LineTable.{LineTable, version_in, unit_at, line_at}
use Rattle.svc_bus_laws.specs.Supplier.{supplier}
use Rattle.svc_bus_laws.proofs.Searches.{cases_below}
use Rattle.svc_machine_laws.specs.declared.reply.What.{What}
use Rattle.svc_machine_laws.specs.declared.reply.What.TheVariants as what
use Rattle.svc_machine_laws.specs.declared.reply.Reply.{Reply}
use Rattle.svc_machine_laws.specs.PlainMachine.{Plain, running, row_of, unit_of}
use Rattle.svc_machine_laws.specs.WholeMachine.{machine_of, memory_seen}
use Rattle.svc_machine_laws.specs.Events.{Event, IsEvent, Assign, Submit, Replace, Cancel, Commit, task_place, asked_want}
use Rattle.svc_machine_laws.specs.Replies.{served_by, turn_done, serves_at, whole_asked, whole_submitted, whole_reply, plain_reply}
use Rattle.svc_machine_laws.specs.Standing.{Standing, opened_at, refusal_of, standing_after, reply_to}
use Rattle.svc_machine_laws.specs.Reached.{IsReached}
use Rattle.svc_machine_laws.specs.Logs.{TaskLog, log_of, logs_of, action_of, plus, adds, LogsFollow}
use Rattle.svc_machine_laws.proofs.Given.{Given}
use Rattle.svc_machine_laws.proofs.Accepted.{can_assign, seat_places}
use Rattle.svc_machine_laws.proofs.Answering.{reply_is}
use Rattle.svc_machine_laws.proofs.Folds.{step_commits}
use Rattle.svc_machine_laws.proofs.Followed.{map_count}
use Rattle.svc_machine_laws.proofs.Places.{found, not_found, within, some_at}
use Rattle.svc_machine_laws.proofs.TaskLogs.{logs_follow}
use Rattle.svc_history_laws.specs.declared.entry.Kind.TheVariants as does
use Rattle.svc_history_laws.specs.declared.entry.ServedKind.TheVariants as kind
use Rattle.svc_history_laws.specs.declared.entry.CutKind.TheVariants as why
use Rattle.svc_history_laws.specs.declared.entry.Entry.{Entry}
use Rattle.svc_history_laws.specs.Causes.{IsRead, IsFrom, IsCaused, IsViolation, CutsBy}
use Rattle.svc_history_laws.specs.Entries.{entry_of, address_told, served_told, kind_served, unit_served}
use Rattle.svc_history_laws.specs.Histories.{HasEvent}
use Rattle.svc_history_laws.specs.Legal.{LegalHistory, last, led_to}
use Rattle.svc_history_laws.proofs.Blames.{is_blamed, submitted_what}
use Rattle.svc_history_laws.proofs.Histories.{Stands, stands, tallies, last_take}
use Rattle.svc_history_laws.proofs.Leases.{has_event}
use Rattle.svc_history_laws.proofs.Stories.{get_one_more, get_taken, IsEdited, get_edited, unit_at_log, one_place}
use Rattle.svc_history_laws.proofs.Supplied.{logged, version_logged, exposed_logged, VersionAt, Supplies, supplies, own_logged, no_line}

-- what stands before something that is left stays
take_before : {A : Type 0} (n : ℕ) (xs : List A) (q r : ℕ) (z : A) → slice_get (take n xs) q ≡ Some z → r < q → slice_get (take n xs) r ≡ slice_get xs r
take_before zero xs q r z h lt = absurd (none-some z h)
take_before (suc n) [] q r z h lt = absurd (none-some z h)
take_before (suc n) (x ∷ xs) zero r z h lt = absurd (omega (arith, lt))
take_before (suc n) (x ∷ xs) (suc q) zero z h lt = refl
take_before (suc n) (x ∷ xs) (suc q) (suc r) z h lt = take_before n xs q r z h (omega (arith, lt))

cut_before : {A : Type 0} (c : Option ℕ) (xs : List A) (q r : ℕ) (z : A) → slice_get (cut_at c xs) q ≡ Some z → r < q → slice_get (cut_at c xs) r ≡ slice_get xs r
cut_before None xs q r z h lt = refl
cut_before (Some n) xs q r z h lt = take_before n xs q r z h lt

edit_before : {A : Type 0} (place : ℕ) (f : A → A) (c : Option ℕ) (xs : List A) (q r : ℕ) (z t : A) → slice_get (edit place f c xs) q ≡ Some z → r < q → slice_get xs r ≡ Some t
    → (slice_get (edit place f c xs) r ≡ Some t) ⊎ (slice_get (edit place f c xs) r ≡ Some (f t))
edit_before place f c [] q r z t h lt at = absurd (none-some z h)
edit_before zero f c (x ∷ xs) zero r z t h lt at = absurd (omega (arith, lt))
edit_before zero f c (x ∷ xs) (suc q) zero z t h lt at = inr (ap (λ y. Some (f y)) (same_Some x t at))
edit_before zero f c (x ∷ xs) (suc q) (suc r) z t h lt at = inl (cut_before c xs q r z h (omega (arith, lt)) ∙ at)
edit_before (suc place) f c (x ∷ xs) zero r z t h lt at = absurd (omega (arith, lt))
edit_before (suc place) f c (x ∷ xs) (suc q) zero z t h lt at = inl at
edit_before (suc place) f c (x ∷ xs) (suc q) (suc r) z t h lt at = edit_before place f c xs q r z t h (omega (arith, lt)) at

-- a version stays with its task
word_grows : (b a w : ℕ) (o : Option ℕ) → is_some o ≡ true → is_some (cond (b == a) (Some w) o) ≡ true
word_grows b a w o h = of (b == a)
  where
    of : (x : Bool) → is_some (cond x (Some w) o) ≡ true
    of true = refl
    of false = h

wrote_grows : (o : Option Action) (log : List Action) (a : ℕ) → is_some (wrote log a) ≡ true → is_some (wrote (plus o log) a) ≡ true
wrote_grows None log a h = h
wrote_grows (Some (Loaded b v)) log a h = h
wrote_grows (Some (Stored b w)) log a h = word_grows b a w (wrote log a) h
wrote_grows (Some (Replaced b w)) log a h = word_grows b a w (wrote log a) h
wrote_grows (Some (Emitted w)) log a h = h

-- the task at this place has a version of the word
record Versions (logs : List TaskLog) (r a : ℕ) : Type 0 where
  log : TaskLog
  at : slice_get logs r ≡ Some log
  some : is_some (wrote log.log a) ≡ true

-- so has the task of this number, where it is still active
abbrev HasVersion : Image → Plain → (number a : ℕ) → Type 0
HasVersion img s number a = s.commits ≤ number → Versions (logs_of (program img) s) (number - s.commits) a

module _ (img : Image) (config : Config) (es : List Entry) where
  -- the word was read for the task at a place, and a version that it was given still stands where its task does
  record Reader (i : ℕ) (s : Plain) (q unit a : ℕ) : Type 0 where
    read : IsRead es i unit a
    supplier : read.served ≡ kind.Version → (number : ℕ) × IsFrom (led_to img config (take read.at es)).plain read.entry number × (number < s.commits + q) × HasVersion img s number a

  Readers : ℕ → Plain → Type 0
  Readers i s = (q : ℕ) (t : TaskLog) → slice_get (logs_of (program img) s) q ≡ Some t → q ≢ 0 → (a : ℕ) → exposed_words t.log a ≡ true → Reader i s q t.unit a

  -- one entry later
  later : (i unit a : ℕ) (e : Entry) → slice_get es i ≡ Some e → (e.unit.0 ≡ unit → e.kind ≡ does.Assign → ⊥) → IsRead es i unit a → IsRead es (suc i) unit a
  later i unit a e at goes_on r = record {
    at = r.at;
    earlier = let lt = r.earlier in omega (arith, lt);
    entry = r.entry;
    entry_is = r.entry_is;
    unit_is = r.unit_is;
    address = r.address;
    since = λ k f after before is own assigns. elim (cases_below k i before) [
      | inl lt ↦ r.since k f after lt is own assigns
      | inr same ↦
          (let this : e ≡ f = same_Some e f (sym at ∙ (ap (slice_get es) (sym same) ∙ is)) in
          goes_on (ap (λ (d : Entry). d.unit.0) this ∙ own) (ap (λ (d : Entry). d.kind) this ∙ assigns))
    ];
    served = r.served;
    served_is = r.served_is;
    elsewhere = r.elsewhere;
  }

  carried : (i : ℕ) (s n : Plain) (q r unit a : ℕ) (e : Entry) → slice_get es i ≡ Some e → (e.unit.0 ≡ unit → e.kind ≡ does.Assign → ⊥) → s.commits + q ≡ n.commits + r
      → ((number : ℕ) → number < s.commits + q → HasVersion img s number a → HasVersion img n number a) → Reader i s q unit a → Reader (suc i) n r unit a
  unfolding later
  carried i s n q r unit a e at goes_on same carry h = record {
    read = later i unit a e at goes_on h.read;
    supplier = λ is. let x = h.supplier is in (x.0, x.1, (let lt = x.2 in omega (arith, lt, same)), carry x.0 x.2 x.3);
  }

-- where the commits stay, the logs decide
version_kept : (img : Image) (s n : Plain) (number a : ℕ) → n.commits ≡ s.commits
    → ((t : TaskLog) → s.commits ≤ number → slice_get (logs_of (program img) s) (number - s.commits) ≡ Some t → is_some (wrote t.log a) ≡ true → Versions (logs_of (program img) n) (number - s.commits) a)
    → HasVersion img s number a → HasVersion img n number a
version_kept img s n number a same keep h le =
    let le_old : s.commits ≤ number = omega (arith, le, same) in
    let v = h le_old in
    subst (λ c. Versions (logs_of (program img) n) (number - c) a) (sym same) (keep v.log le_old v.at v.some)

-- who serves what is read
IsServed : LineTable → (place : ℕ) → What → Type 0
IsServed t place (what.Assigned task entry epoch) = Unit {0}
IsServed t place what.Ran = Unit {0}
IsServed t place (what.Loaded addr value from) = from ≡ serves_at t place addr.0
IsServed t place (what.Stored addr word None) = Unit {0}
IsServed t place (what.Stored addr word (Some from)) = from ≡ serves_at t place addr.0
IsServed t place (what.Emitted word) = Unit {0}
IsServed t place (what.Trapped number) = Unit {0}
IsServed t place (what.Replaced addr) = Unit {0}
IsServed t place what.Cancelled = Unit {0}
IsServed t place (what.Committed task end) = Unit {0}

served_turn : (p : Program State) (t : LineTable) (place : ℕ) (w : Want State) (look : Memory) → IsServed t place (turn_done p w look (serves_at t place))
unfolding IsServed
served_turn p t place (Local c) look = tt
served_turn p t place (Load b value go) look = refl
served_turn p t place (Store b v c) look = tt
served_turn p t place (Narrow b f c) look = refl
served_turn p t place (Emit v c) look = tt

served_asked : (img : Image) (s : Standing) (place : ℕ) (o : Option (Want State)) → IsServed s.lines place (whole_asked (program img) (machine_of (program img) s.plain) s.lines place o).what
unfolding IsServed
served_asked img s place None = tt
served_asked img s place (Some w) = served_turn (program img) s.lines place w (memory_seen (machine_of (program img) s.plain).versioned place)

served_reply : (img : Image) → Given img → (config : Config) (s : Standing) (b : Advance) → IsEvent (Submit b) → refusal_of img config s (Submit b) ≡ None → (place : ℕ) → task_place s.plain b.unit.0 ≡ Some place
    → IsServed s.lines place (reply_to img s (Submit b)).what
unfolding reply_to plain_reply whole_reply
served_reply img given config s b is ok place at =
    let p : Program State = program img in
    let answer =
    sym (submitted_what p (machine_of p s.plain) s.lines place b.end (asked_want img b))
    ∙ ap (λ o. (whole_submitted p (machine_of p s.plain) s.lines o b.end (asked_want img b)).what) (sym (seat_places img config s b.unit.0 ∙ at))
    ∙ ap (λ (r : Reply). r.what) (reply_is img given config s (Submit b) is ok) in
    subst (IsServed s.lines place) answer (served_asked img s place (asked_want img b))

-- a word that an answer exposes
record NewRead (t : LineTable) (place : ℕ) (w : What) (log : List Action) (a : ℕ) : Type 0 where
  from : Served
  address : address_told w ≡ Some (record { 0 = a })
  served : served_told w ≡ Some from
  from_is : from ≡ serves_at t place a
  unwritten : wrote log a ≡ None

none_is : {A : Type 0} (o : Option A) → is_none o ≡ true → o ≡ None
none_is None h = refl
none_is (Some x) h = cc

right_of : (x y : Bool) → x ≡ false → (x || y) ≡ true → y ≡ true
right_of true y e h = cc
right_of false y e h = h

new_word : (a b : ℕ) (log : List Action) → exposed_words log a ≡ false → (exposed_words log a || ((b == a) && is_none (wrote log a))) ≡ true → (b ≡ a) × (wrote log a ≡ None)
new_word a b log fresh h =
    let both = and_parts (b == a) (is_none (wrote log a)) (right_of (exposed_words log a) ((b == a) && is_none (wrote log a)) fresh h) in
    (eqb-true b a both.0, none_is (wrote log a) both.1)

new_read : (t : LineTable) (place : ℕ) (w : What) (log : List Action) (a : ℕ) → IsServed t place w → exposed_words log a ≡ false → exposed_words (plus (action_of w) log) a ≡ true → NewRead t place w log a
unfolding IsServed
new_read t place (what.Assigned task entry epoch) log a served fresh h = absurd (both_ways (exposed_words log a) fresh h)
new_read t place what.Ran log a served fresh h = absurd (both_ways (exposed_words log a) fresh h)
new_read t place (what.Loaded addr value from) log a served fresh h =
    let n = new_word a addr.0 log fresh h in
    record { from = from; address = ap (λ (x : ℕ). let y : WordAddr = record { 0 = x } in Some y) n.0; served = refl; from_is = served ∙ ap (serves_at t place) n.0; unwritten = n.1 }
new_read t place (what.Stored addr word None) log a served fresh h = absurd (both_ways (exposed_words log a) fresh h)
new_read t place (what.Stored addr word (Some from)) log a served fresh h =
    let n = new_word a addr.0 log fresh h in
    record { from = from; address = ap (λ (x : ℕ). let y : WordAddr = record { 0 = x } in Some y) n.0; served = refl; from_is = served ∙ ap (serves_at t place) n.0; unwritten = n.1 }
new_read t place (what.Emitted word) log a served fresh h = absurd (both_ways (exposed_words log a) fresh h)
new_read t place (what.Trapped number) log a served fresh h = absurd (both_ways (exposed_words log a) fresh h)
new_read t place (what.Replaced addr) log a served fresh h = absurd (both_ways (exposed_words log a) fresh h)
new_read t place what.Cancelled log a served fresh h = absurd (both_ways (exposed_words log a) fresh h)
new_read t place (what.Committed task end) log a served fresh h = absurd (both_ways (exposed_words log a) fresh h)

-- the place of an active unit is found
place_is : (img : Image) (config : Config) (s : Standing) → IsReached img config s → (q u : ℕ) → slice_get (map unit_of s.plain.tasks) q ≡ Some u → task_place s.plain u ≡ Some q
place_is img config s reached q u at = of (task_place s.plain u) refl
  where
    of : (o : Option ℕ) → task_place s.plain u ≡ o → task_place s.plain u ≡ Some q
    of None e =
        let inside = within (map unit_of s.plain.tasks) q u at in
        absurd (not_found (map unit_of s.plain.tasks) u q e inside (same_Some _ u (sym (slice_get-get_or (map unit_of s.plain.tasks) q 0 inside) ∙ at)))
    of (Some r) e = e ∙ ap Some (one_place img config s reached r q u (found (map unit_of s.plain.tasks) u r e) at)

some_or : (o p : Option ℕ) → is_some o ≡ true → is_some (option_or o p) ≡ true
some_or None p h = cc
some_or (Some x) p h = refl

-- THE READS after an accepted event
module _ (img : Image) (given : Given img) (config : Config) (es : List Entry) (i : ℕ) (s : Standing) (here : led_to img config (take i es) ≡ s) (reached : IsReached img config s) (readers : Readers img config es i s.plain) (e : Entry) (at : slice_get es i ≡ Some e) where
  abbrev p : Program State
  p = program img

  abbrev Next : Event → Type 0
  Next x = Readers img config es (suc i) (standing_after img s x).plain

  -- a new read of the task at a place
  module _ (b : Advance) (is : IsEvent (Submit b)) (ok : refusal_of img config s (Submit b) ≡ None) (same : e ≡ entry_of (Submit b) (reply_to img s (Submit b)))
      (place : ℕ) (place_at : task_place s.plain b.unit.0 ≡ Some place) (cut : Option ℕ) (logs : logs_of (program img) (standing_after img s (Submit b)).plain ≡ edit place (adds (action_of (reply_to img s (Submit b)).what)) cut (logs_of (program img) s.plain)) where
    abbrev done : What
    done = (reply_to img s (Submit b)).what

    abbrev n : Plain
    n = (standing_after img s (Submit b)).plain

    commits_same : n.commits ≡ s.plain.commits
    commits_same = let k = step_commits img given config s (Submit b) ok in omega (arith, k)

    no_assign : (unit : ℕ) → e.unit.0 ≡ unit → e.kind ≡ does.Assign → ⊥
    unfolding entry_of
    no_assign unit own k = let wrong : does.Submit ≡ does.Assign = sym (ap (λ (d : Entry). d.kind) same) ∙ k in cc

    -- versions before a task that is left
    kept : (q a : ℕ) (t : TaskLog) → slice_get (logs_of p n) q ≡ Some t → (number : ℕ) → number < s.plain.commits + q → HasVersion img s.plain number a → HasVersion img n number a
    kept q a t h number lt = version_kept img s.plain n number a commits_same (λ u le there some.
        let below : number - s.plain.commits < q = omega (arith, lt, le) in
        let left : slice_get (edit place (adds (action_of done)) cut (logs_of p s.plain)) q ≡ Some t = ap (λ l. slice_get l q) (sym logs) ∙ h in
        elim (edit_before place (adds (action_of done)) cut (logs_of p s.plain) q (number - s.plain.commits) t u left below there) [
          | inl old ↦ record { log = u; at = ap (λ l. slice_get l (number - s.plain.commits)) logs ∙ old; some = some }
          | inr new ↦ record { log = adds (action_of done) u; at = ap (λ l. slice_get l (number - s.plain.commits)) logs ∙ new; some = wrote_grows (action_of done) u.log a some }
        ])

    fresh : (q a : ℕ) (t : TaskLog) → slice_get (logs_of p n) q ≡ Some t → q ≢ 0 → (was : IsEdited (adds (action_of done)) (logs_of p s.plain) place q t) → exposed_words was.old.log a ≡ false → exposed_words (plus (action_of done) was.old.log) a ≡ true → Reader img config es (suc i) n q t.unit a
    unfolding entry_of
    fresh q a t h not_head was unread reads =
        let r : NewRead s.lines place done was.old.log a = new_read s.lines place done was.old.log a (served_reply img given config s b is ok place place_at) unread reads in
        let miss = no_line img config s reached place was.old was.there a (λ z. not_head (was.here ∙ z)) unread r.unwritten in
        let gives : Supplies s.lines place a (supplier s.lines place a) = supplies s.lines place a miss in
        let unit_here : b.unit.0 ≡ was.old.unit = same_Some b.unit.0 was.old.unit (sym (found (map unit_of s.plain.tasks) b.unit.0 place place_at) ∙ unit_at_log img s.plain place was.old was.there) in
        record {
          read = record {
            at = i;
            earlier = omega arith;
            entry = e;
            entry_is = at;
            unit_is = ap (λ (d : Entry). d.unit.0) same ∙ (unit_here ∙ ap (λ (y : TaskLog). y.unit) was.new);
            address = ap (λ (d : Entry). d.addr) same ∙ r.address;
            since = λ k f after before there own assigns. absurd (omega (arith, after, before));
            served = kind_served r.from;
            served_is = ap (λ (d : Entry). d.served) same ∙ ap (option_map kind_served) r.served;
            elsewhere = λ hit. gives.not_hit (sym (ap kind_served r.from_is) ∙ hit);
          };
          supplier = λ is_version.
              let v : VersionAt s.lines place a (unit_served (served_by (supplier s.lines place a))) = gives.version (sym (ap kind_served r.from_is) ∙ is_version) in
              let room : place < length (logs_of p s.plain) = within (logs_of p s.plain) place was.old was.there in
              let below = v.below in
              let log = some_at (logs_of p s.plain) v.place (omega (arith, room, below)) in
              let units = unit_at_log img s.plain v.place log.0 log.1 in
              let lines_unit : slice_get s.lines.units v.place ≡ Some log.0.unit = ap (λ l. slice_get l v.place) reached.lines.units ∙ units in
              let unit_is : unit_at s.lines v.place ≡ log.0.unit = same_Some _ log.0.unit (sym (slice_get-get_or s.lines.units v.place 0 (within s.lines.units v.place log.0.unit lines_unit)) ∙ lines_unit) in
              let has : is_some (wrote log.0.log a) ≡ true = ap is_some (sym (own_logged img config s reached v.place log.0 log.1 a)) ∙ some_or (version_in (line_at s.lines v.place a)) _ v.has in
              let from : UnitId = record { 0 = unit_at s.lines v.place } in
              let q_is = was.here in (
                s.plain.commits + v.place,
                subst (λ (m : Standing). IsFrom m.plain e (s.plain.commits + v.place)) (sym here)
                    (record {
                      from = from;
                      from_is = ap (λ (d : Entry). d.from) same ∙ (ap (option_and_then unit_served) r.served ∙ (ap unit_served r.from_is ∙ v.unit));
                      place = v.place;
                      at = ap (task_place s.plain) unit_is ∙ place_is img config s reached v.place log.0.unit units;
                      number_is = refl;
                    }),
                omega (arith, below, q_is, commits_same),
                kept q a t h (s.plain.commits + v.place) (omega (arith, below, q_is))
                    (λ le. let back : v.place ≡ s.plain.commits + v.place - s.plain.commits = omega arith in subst (λ m. Versions (logs_of p s.plain) m a) back (record { log = log.0; at = log.1; some = has })),
              );
        }

    submit_step : Next (Submit b)
    unfolding Readers
    submit_step q t h not_head a ex = elim (get_edited place (adds (action_of done)) cut (logs_of p s.plain) q t (ap (λ l. slice_get l q) (sym logs) ∙ h)) [
      | inr old ↦ carried img config es i s.plain n q q t.unit a e at (no_assign t.unit) (omega (arith, commits_same)) (kept q a t h) (readers q t old.1 not_head a ex)
      | inl was ↦
          (let log_is : t.log ≡ plus (action_of done) was.old.log = ap (λ (y : TaskLog). y.log) (sym was.new) in
          let unit_is : was.old.unit ≡ t.unit = ap (λ (y : TaskLog). y.unit) was.new in
          elim (cases_Bool (exposed_words was.old.log a)) [
            | inl before ↦
                (let there : slice_get (logs_of p s.plain) q ≡ Some was.old = ap (slice_get (logs_of p s.plain)) was.here ∙ was.there in
                subst (λ u. Reader img config es (suc i) n q u a) unit_is
                (carried img config es i s.plain n q q was.old.unit a e at (no_assign was.old.unit) (omega (arith, commits_same)) (kept q a t h) (readers q was.old there not_head a before)))
            | inr unread ↦ fresh q a t h not_head was unread (ap (λ g. exposed_words g a) (sym log_is) ∙ ex)
          ])
    ]

  reads_step : (x : Event) → IsEvent x → refusal_of img config s x ≡ None → e ≡ entry_of x (reply_to img s x) → LogsFollow (program img) s.plain (standing_after img s x).plain x (reply_to img s x).what → Next x
  unfolding Readers entry_of
  reads_step (Assign unit guess) is ok same logs q t h not_head a ex =
      let can = can_assign img config s unit guess ok in
      let n : Plain = (standing_after img s (Assign unit guess)).plain in
      let commits_same : n.commits ≡ s.plain.commits = let k = step_commits img given config s (Assign unit guess) ok in omega (arith, k) in
      let begun : TaskLog = record { unit = unit; log = [] } in
      elim (get_one_more (logs_of p s.plain) begun q t (ap (λ l. slice_get l q) (sym logs) ∙ h)) [
        | inl old ↦
            (let units = unit_at_log img s.plain q t old in
            let inside = within (map unit_of s.plain.tasks) q t.unit units in
            let unit_is : get_or (map unit_of s.plain.tasks) q 0 ≡ t.unit = same_Some _ t.unit (sym (slice_get-get_or (map unit_of s.plain.tasks) q 0 inside) ∙ units) in
            carried img config es i s.plain n q q t.unit a e at
            (λ own k. not_found (map unit_of s.plain.tasks) unit q can.idle inside (unit_is ∙ (sym own ∙ ap (λ (d : Entry). d.unit.0) same)))
            (omega (arith, commits_same))
            (λ number lt. version_kept img s.plain n number a commits_same (λ u le there some.
            record { log = u; at = ap (λ l. slice_get l (number - s.plain.commits)) logs ∙ (get-append_left (logs_of p s.plain) (begun ∷ []) (number - s.plain.commits) (within (logs_of p s.plain) (number - s.plain.commits) u there) ∙ there); some = some }))
            (readers q t old not_head a ex))
        | inr new ↦ absurd (both_ways (exposed_words t.log a) (ap (λ (y : TaskLog). exposed_words y.log a) (sym new)) ex)
      ]
  reads_step (Submit b) is ok same logs q t h not_head a ex = submit_step b is ok same logs.place logs.at logs.cut logs.logs q t h not_head a ex
  reads_step (Replace unit address) is ok same logs q t h not_head a ex =
      let n : Plain = (standing_after img s (Replace unit address)).plain in
      let commits_same : n.commits ≡ s.plain.commits = let k = step_commits img given config s (Replace unit address) ok in omega (arith, k) in
      carried img config es i s.plain n q q t.unit a e at
      (λ own k. let wrong : does.Replace ≡ does.Assign = sym (ap (λ (d : Entry). d.kind) same) ∙ k in cc)
      (omega (arith, commits_same))
      (λ number lt. version_kept img s.plain n number a commits_same (λ u le there some. record { log = u; at = ap (λ l. slice_get l (number - s.plain.commits)) logs ∙ there; some = some }))
      (readers q t (ap (λ l. slice_get l q) (sym logs) ∙ h) not_head a ex)
  reads_step (Cancel unit) is ok same logs q t h not_head a ex =
      let n : Plain = (standing_after img s (Cancel unit)).plain in
      let commits_same : n.commits ≡ s.plain.commits = let k = step_commits img given config s (Cancel unit) ok in omega (arith, k) in
      let left : slice_get (take logs.place (logs_of p s.plain)) q ≡ Some t = ap (λ l. slice_get l q) (sym logs.logs) ∙ h in
      carried img config es i s.plain n q q t.unit a e at
      (λ own k. let wrong : does.Cancel ≡ does.Assign = sym (ap (λ (d : Entry). d.kind) same) ∙ k in cc)
      (omega (arith, commits_same))
      (λ number lt. version_kept img s.plain n number a commits_same (λ u le there some.
      record { log = u; at = ap (λ l. slice_get l (number - s.plain.commits)) logs.logs ∙ (take_before logs.place (logs_of p s.plain) q (number - s.plain.commits) t left (omega (arith, lt, le)) ∙ there); some = some }))
      (readers q t (get_taken logs.place (logs_of p s.plain) q t left) not_head a ex)
  reads_step (Commit by) is ok same logs q t h not_head a ex =
      let n : Plain = (standing_after img s (Commit by)).plain in
      let one_more : n.commits ≡ 1 + s.plain.commits = step_commits img given config s (Commit by) ok in
      let kept : (r : ℕ) → slice_get (cond logs.keep logs.others []) r ≡ slice_get logs.others r = stay logs.keep logs.others (ap (λ l. slice_get l q) (sym logs.logs) ∙ h) in
      let now : (r : ℕ) → slice_get (logs_of p n) r ≡ slice_get (logs_of p s.plain) (suc r) = λ r. ap (λ l. slice_get l r) logs.logs ∙ (kept r ∙ ap (λ (l : List TaskLog). slice_get l (suc r)) (sym logs.head)) in
      carried img config es i s.plain n (suc q) q t.unit a e at
      (λ own k. let wrong : does.Commit ≡ does.Assign = sym (ap (λ (d : Entry). d.kind) same) ∙ k in cc)
      (omega (arith, one_more))
      (λ number lt old le.
      let v = old (omega (arith, le, one_more)) in
      let place : suc (number - n.commits) ≡ number - s.plain.commits = omega (arith, le, one_more) in
      record { log = v.log; at = now (number - n.commits) ∙ (ap (slice_get (logs_of p s.plain)) place ∙ v.at); some = v.some })
      (readers (suc q) t (sym (now q) ∙ h) (λ z. absurd (omega (arith, z))) a ex)
    where
      stay : (keep : Bool) (others : List TaskLog) → slice_get (cond keep others []) q ≡ Some t → (r : ℕ) → slice_get (cond keep others []) r ≡ slice_get others r
      stay true others k r = refl
      stay false others k r = absurd (none-some t k)

readers_at : (img : Image) → Given img → (config : Config) (es : List Entry) → LegalHistory img config es → (i : ℕ) → i ≤ length es → Readers img config es i (led_to img config (take i es)).plain
unfolding Readers last
readers_at img given config es legal zero le = λ q t h. absurd (none-some t h)
readers_at img given config es legal (suc i) le =
    let some = some_at es i (omega (arith, le)) in
    let st : Stands img config (opened_at img config 0) es i some.0 = stands img config (opened_at img config 0) es i some.0 legal some.1 in
    let s : Standing = led_to img config (take i es) in
    let x : HasEvent img config s some.0 = has_event img given config s some.0 st.here in
    let reached = (tallies img given config (take i es) st.before).reached in
    let before = readers_at img given config es legal i (omega (arith, le)) in
    subst (λ (n : Standing). Readers img config es (suc i) n.plain) (sym (last_take img (opened_at img config 0) es i some.0 some.1 ∙ x.leads))
    (reads_step img given config es i s refl reached before some.0 some.1 x.event x.is x.accepted x.entry (logs_follow img given config s reached x.event x.is x.accepted))

head_rows : (rows : List Row) → length (with_head rows) ≡ length rows
head_rows [] = refl
head_rows (row ∷ rows) = refl

-- the task of a version that a victim was given isn't above the one that stored, since none between them has a version
not_after : (img : Image) (s : Plain) (place victim number a : ℕ) → IsVictim (machine_of (program img) s).versioned place a victim → number < s.commits + victim → HasVersion img s number a → number ≤ s.commits + place
not_after img s place victim number a is below has = grind (arith, above)
  where
    above : s.commits + place < number → ⊥
    above gt =
        let v : Versions (logs_of (program img) s) (number - s.commits) a = has (omega (arith, gt)) in
        let gone = is.unversioned (number - s.commits) (omega (arith, gt)) (omega (arith, gt, below)) in
        let none : wrote v.log.log a ≡ None = sym (version_logged img s (number - s.commits) v.log v.at a) ∙ gone in
        both_ways (is_some (wrote v.log.log a)) (ap is_some none) v.some

-- EACH VIOLATION of a legal history
pub is_caused : (img : Image) → Given img → (config : Config) (es : List Entry) → LegalHistory img config es → (i : ℕ) (e : Entry) → slice_get es i ≡ Some e → e.cause ≡ Some why.Violation → IsCaused img config es i e
unfolding Readers
is_caused img given config es legal i e at cause =
    let p : Program State = program img in
    let s : Standing = led_to img config (take i es) in
    let b : IsViolation img s.plain e = subst (λ c. CutsBy c img s.plain e) cause (is_blamed img given config es legal i e at) in
    let m : Versioned = (machine_of p s.plain).versioned in
    let a : ℕ = b.word.0 in
    let rows : length m.rows ≡ length (logs_of p s.plain) = head_rows (map row_of (running p s.plain)) ∙ (map_count row_of (running p s.plain) ∙ sym (map_count log_of (running p s.plain))) in
    let active = b.is_victim.active in
    let later_than = b.is_victim.later in
    let log = some_at (logs_of p s.plain) b.victim (omega (arith, active, rows)) in
    let task = logged img s.plain b.victim log.0 log.1 in
    let inside = within es i e at in
    let not_head : b.victim ≢ 0 = λ z. absurd (omega (arith, later_than, z)) in
    let ex : exposed_words log.0.log a ≡ true = (and_parts (not (b.victim == 0)) (exposed_words log.0.log a) (sym (exposed_logged img s.plain b.victim log.0 log.1 a) ∙ b.is_victim.exposed)).1 in
    let r : Reader img config es i s.plain b.victim task.task.unit a =
    subst (λ u. Reader img config es i s.plain b.victim u a) task.unit_is (readers_at img given config es legal i (omega (arith, inside)) b.victim log.0 log.1 not_head a ex) in
    record {
      word = b.word;
      address = b.address;
      place = b.place;
      at = b.at;
      victim = b.victim;
      first = b.cuts.first;
      task = task.task;
      task_is = task.task_is;
      read = r.read;
      not_above = λ version_read. let x = r.supplier version_read in (x.0, x.1, not_after img s.plain b.place b.victim x.0 b.word.0 b.is_victim x.2 x.3);
    }
