-- A unit has a line only of a word that an entry of its own names, and a word is spilled only if an entry names it.
use Rattle.std.proofs.Common.{◌≡◌, ◌∙◌, ◌+◌, ◌==◌, ◌∷◌, [], ℕ, zero, suc, List, Bool, true, false, cond, Option, Some, None, get_or, map, refl, ap, sym, subst, unwrap_or}
use Rattle.std.specs.Prelude.{◌&&◌, ◌||◌, slice_get}
use Rattle.std.specs.List.{list_any}
use Rattle.std.proofs.lemmas.Option.{get_or_from_slice_get}
use Rattle.svc_base.specs.declared.config.Config.{Config}
use Rattle.svc_base.specs.declared.served.Served.{Served}
use Rattle.svc_image.specs.Image.{Image}
use Rattle.svc_core_laws.specs.Program.{Emit, Load, Local, Memory, Narrow, Program, Store, Want}
use Rattle.svc_core_laws.specs.State.{State}
use Rattle.svc_core_laws.specs.Words.{program}
use Rattle.svc_bus_laws.specs.LineTable.{Line, LineTable, is_active, is_reusable, line_at, unit_at}
use Rattle.svc_bus_laws.specs.Steps.{line_after_marking, line_after_purging, read, line_after_commit, squash, store, survivors, write}
use Rattle.svc_bus_laws.specs.Versioned.{view}
use Rattle.svc_bus_laws.specs.LineTable as table
use Rattle.svc_machine_laws.specs.declared.reply.Reply.{Reply}
use Rattle.svc_machine_laws.specs.declared.reply.What.{What}
use Rattle.svc_machine_laws.specs.Events.{task_place}
use Rattle.svc_machine_laws.specs.Events as event
use Rattle.svc_machine_laws.specs.LineEvents.{line_cancel, line_check, line_commit, line_settle, line_turn, word_of}
use Rattle.svc_machine_laws.specs.PlainMachine.{Task, stays, unit_of}
use Rattle.svc_machine_laws.specs.Reached.{IsReached}
use Rattle.svc_machine_laws.specs.Replies.{reply_after_check, plain_asked, plain_submitted, turn_done}
use Rattle.svc_machine_laws.specs.Standing.{Standing, opened_at, reply_to, standing_after}
use Rattle.svc_machine_laws.specs.WholeMachine.{Seat, seat_entry}
use Rattle.svc_machine_laws.proofs.Given.{Given}
use Rattle.svc_machine_laws.proofs.Lines.{read_keeps}
use Rattle.svc_machine_laws.proofs.Places.{found}
use Rattle.svc_history_laws.specs.Board.{Tally, tally_with, no_events}
use Rattle.svc_history_laws.specs.Entries.{address_told, entry_of}
use Rattle.svc_history_laws.specs.Legal.{IsAccepted, Legal, LegalEntry, LegalHistory, LegalKind, after_entry, by_kind, last, led_to, the_arg, the_ask, the_local}
use Rattle.svc_history_laws.specs.Submissions.{after_submission, core_on, lines_asked, submission, submitted_at}
use Rattle.svc_history_laws.specs.declared.entry.Entry.{Entry}
use Rattle.svc_history_laws.specs.declared.entry.Kind.{Kind}
use Rattle.svc_history_laws.specs.declared.entry.Kind.TheVariants.{Assign, Submit, Replace, Cancel, Commit}
use Rattle.svc_history_laws.proofs.Histories.{Tallies, tallies_entry}
use Rattle.svc_machine_laws.proofs.Folds.{opened_reached}
use Rattle.svc_held.specs.Named.{is_word, names}

-- ---- what a step leaves of a line that isn't there

-- a turn wants this word
abbrev is_wanted : (word : ℕ) → Option ℕ → Bool
is_wanted word None = false
is_wanted word (Some a) = word == a

-- the turn of the task at a place, if it wants the word, is not the unit's
abbrev Misses : {C : Type 0} → Want C → LineTable → ℕ → (u a : ℕ) → Type 0
Misses w t p u a = ((u == unit_at t p) && is_wanted a (word_of w)) ≡ false

abbrev Free : ℕ → ℕ → LineTable → Type 0
Free u a t = t.lines u a ≡ None

cut_free : (x : Bool) (old : Option Line) → old ≡ None → cond x None old ≡ None
cut_free true old free = refl
cut_free false old free = free

with_free : (y x : Bool) (line old : Option Line) (others : Option Line → Option Line) → (y && x) ≡ false → others None ≡ None → old ≡ None
    → cond x (cond y line (others old)) old ≡ None
with_free true true line old others miss stays free = cc
with_free true false line old others miss stays free = free
with_free false true line old others miss stays free = ap others free ∙ stays
with_free false false line old others miss stays free = free

squash_free : (t : LineTable) (n u a : ℕ) → Free u a t → Free u a (squash t n)
squash_free t n u a free = cut_free _ (t.lines u a) free

read_free : (t : LineTable) (p b u a : ℕ) → ((u == unit_at t p) && (a == b)) ≡ false → Free u a t → Free u a (read t p b)
read_free t p b u a miss free =
    read_keeps (λ (s : LineTable). s.lines u a) t p b
    (with_free (u == unit_at t p) (a == b) _ (t.lines u a) (λ line. line) miss refl free ∙ sym free)
    (with_free (u == unit_at t p) (a == b) _ (t.lines u a) line_after_purging miss refl free ∙ sym free)
    ∙ free

write_free : (t : LineTable) (p b v u a : ℕ) → ((u == unit_at t p) && (a == b)) ≡ false → Free u a t → Free u a (write t p b v)
write_free t p b v u a miss free =
    squash_free (store t p b v) (survivors t p b) u a
    (with_free (u == unit_at t p) (a == b) _ (t.lines u a) (λ line. line_after_marking (t.commits + p) (line_after_purging line)) miss refl free)

turn_free : {C : Type 0} (w : Want C) (t : LineTable) (p u a : ℕ) → Misses w t p u a → Free u a t → Free u a (line_turn w t p)
turn_free (Local c) t p u a miss free = free
turn_free (Load b value go) t p u a miss free = read_free t p b u a miss free
turn_free (Store b v c) t p u a miss free = write_free t p b v u a miss free
turn_free (Narrow b f c) t p u a miss free =
    let units : (read t p b).units ≡ t.units = read_keeps (λ (s : LineTable). s.units) t p b refl refl in
    let same : ((u == unit_at (read t p b) p) && (a == b)) ≡ false =
    ap (λ (us : List ℕ). (u == get_or us p 0) && (a == b)) units ∙ miss in
    write_free (read t p b) p b (f (view (table.versioned_map t) p b)) u a same (read_free t p b u a miss free)
turn_free (Emit w c) t p u a miss free = free

check_free : (b : Bool) (t : LineTable) (p u a : ℕ) → Free u a t → Free u a (line_check b t p)
check_free false t p u a free = free
check_free true t p u a free = squash_free t (suc p) u a free

cancel_free : (t : LineTable) (o : Option ℕ) (u a : ℕ) → Free u a t → Free u a (line_cancel t o)
cancel_free t None u a free = free
cancel_free t (Some p) u a free = squash_free t p u a free

settled_free : (x : Bool) (old : Option Line) → old ≡ None → cond x (line_after_commit old) old ≡ None
settled_free true old free = ap line_after_commit free
settled_free false old free = free

settle_free : (t : LineTable) (keep : Bool) (u a : ℕ) → Free u a t → Free u a (line_settle t keep)
settle_free t true u a free = free
settle_free t false u a free = squash_free t 1 u a free

commit_free : {C : Type 0} (p : Program C) (t : LineTable) (seats : List (Seat C)) (u a : ℕ) → Free u a t → Free u a (line_commit p t seats)
commit_free p t [] u a free = free
commit_free p t (s ∷ seats) u a free =
    let keep = stays (p.done s.core) (map seat_entry seats) in
    settled_free _ ((line_settle t keep).lines u a) (settle_free t keep u a free)

replaced_free : (y x : Bool) (old : Option Line) → old ≡ None → cond x (cond y None (line_after_purging old)) old ≡ None
replaced_free true true old free = refl
replaced_free true false old free = free
replaced_free false true old free = ap line_after_purging free
replaced_free false false old free = free

-- ---- what it leaves of a word that isn't spilled

abbrev Kept : ℕ → LineTable → Type 0
Kept a t = t.spill a ≡ None

with_kept : (x : Bool) (new old : Option ℕ) → x ≡ false → old ≡ None → cond x new old ≡ None
with_kept true new old miss kept = cc
with_kept false new old miss kept = kept

turn_kept : {C : Type 0} (w : Want C) (t : LineTable) (p a : ℕ) → is_wanted a (word_of w) ≡ false → Kept a t → Kept a (line_turn w t p)
turn_kept (Local c) t p a miss kept = kept
turn_kept (Load b value go) t p a miss kept = read_keeps (λ (s : LineTable). s.spill a) t p b refl refl ∙ kept
turn_kept (Store b v c) t p a miss kept = with_kept (a == b) _ (t.spill a) miss kept
turn_kept (Narrow b f c) t p a miss kept =
    with_kept (a == b) _ ((read t p b).spill a) miss (read_keeps (λ (s : LineTable). s.spill a) t p b refl refl ∙ kept)
turn_kept (Emit w c) t p a miss kept = kept

check_kept : (b : Bool) (t : LineTable) (p a : ℕ) → Kept a t → Kept a (line_check b t p)
check_kept false t p a kept = kept
check_kept true t p a kept = kept

cancel_kept : (t : LineTable) (o : Option ℕ) (a : ℕ) → Kept a t → Kept a (line_cancel t o)
cancel_kept t None a kept = kept
cancel_kept t (Some p) a kept = kept

commit_kept : {C : Type 0} (p : Program C) (t : LineTable) (seats : List (Seat C)) (a : ℕ) → Kept a t → Kept a (line_commit p t seats)
commit_kept p t [] a kept = kept
commit_kept p t (s ∷ seats) a kept = refl

-- ---- the word that a submission's entry names is the one that its turn wants

told_wanted : {C : Type 0} (p : Program C) (w : Want C) (look : Memory) (serves : ℕ → Served) (a : ℕ)
    → is_word a (address_told (turn_done p w look serves)) ≡ is_wanted a (word_of w)
told_wanted p (Local c) look serves a = refl
told_wanted p (Load b value go) look serves a = refl
told_wanted p (Store b v c) look serves a = refl
told_wanted p (Narrow b f c) look serves a = refl
told_wanted p (Emit w c) look serves a = refl

checked_what : (wrong : Bool) (k count place : ℕ) (r : Reply) → (reply_after_check wrong k count place r).what ≡ r.what
checked_what false k count place r = refl
checked_what true k count place r = refl

-- the unit of the task at its place
unit_here : (img : Image) (config : Config) (s : Standing) → IsReached img config s → (unit place : ℕ) → task_place s.plain unit ≡ Some place → unit_at s.lines place ≡ unit
unit_here img config s reached unit place at =
    ap (λ (us : List ℕ). get_or us place 0) reached.lines.units
    ∙ get_or_from_slice_get (map unit_of s.plain.tasks) place unit 0 (found (map unit_of s.plain.tasks) unit place at)

-- a property of the lines that a submission keeps, if a turn that wants what the entry names keeps it, and a check does
module _ (P : LineTable → Type 0) (checks : (b : Bool) (t : LineTable) (p : ℕ) → P t → P (line_check b t p)) where
  submit_keeps : (img : Image) (s : Standing) (e : Entry) (place : ℕ) (task : Task) → task_place s.plain e.unit.0 ≡ Some place → slice_get s.plain.tasks place ≡ Some task
      → (local : ℕ) (ask : Bool) → e ≡ submission img s e.unit local ask
      → ((w : Want State) → ((a : ℕ) → is_word a e.addr ≡ is_wanted a (word_of w)) → P (line_turn w s.lines place))
      → P s.lines → P (after_submission img s e.unit.0 local ask).lines
  submit_keeps img s e place task at here local ask is turns holds =
      subst (λ (o : Option ℕ). P (submitted_at img s o local ask).lines) (sym at)
      (checks _ _ place
      (subst (λ (o : Option Task). P (lines_asked img s place local o ask)) (sym here) (asked ask is)))
    where
      asked : (b : Bool) → e ≡ submission img s e.unit local b → P (lines_asked img s place local (Some task) b)
      asked false is = holds
      asked true is =
          let p = program img in
          turns (p.want (core_on img s.plain place task local)) (λ a.
          ap (λ (f : Entry). is_word a f.addr) is
          ∙ ap (λ (o : Option ℕ). is_word a (address_told (plain_submitted p s.plain s.lines o local true).what)) at
          ∙ ap (λ (w : What). is_word a (address_told w)) (checked_what _ _ _ place (plain_asked p s.plain s.lines place local true))
          ∙ ap (λ (o : Option Task). is_word a (address_told (Rattle.svc_machine_laws.specs.Replies.plain_asked_of p s.plain s.lines place local o).what)) here
          ∙ told_wanted p (p.want (core_on img s.plain place task local)) _ _ a)

-- ---- legal entries

replaced_addr : (img : Image) (config : Config) (s : Standing) (e : Entry) (a : ℕ) → IsAccepted img config s (event.Replace e.unit.0 (the_arg e)) e → is_word a e.addr ≡ (a == the_arg e)
unfolding entry_of reply_to Rattle.svc_machine_laws.specs.Replies.plain_reply
replaced_addr img config s e a accepted = ap (λ (f : Entry). is_word a f.addr) accepted.1

miss_by : (x y z : Bool) → (x && y) ≡ false → z ≡ y → (x && z) ≡ false
miss_by x y z miss same = ap (λ (b : Bool). x && b) same ∙ miss

entry_free : (img : Image) (config : Config) (u a : ℕ) (s : Standing) (e : Entry) → IsReached img config s → LegalEntry img config s e → names u a e ≡ false
    → Free u a s.lines → Free u a (after_entry img s e).lines
unfolding LegalEntry after_entry standing_after Rattle.svc_machine_laws.specs.LineEvents.line_event
entry_free img config u a s e reached legal miss free = by e.kind legal
  where
    by : (k : Kind) → LegalKind k img config s e → Free u a (by_kind k img s e).lines
    by Assign is = free
    by Submit is =
        submit_keeps (Free u a) (λ b t p. check_free b t p u a) img s e is.place is.task is.at is.task_is (the_local e) (the_ask e) is.entry
        (λ w same.
        let unit = unit_here img config s reached e.unit.0 is.place is.at in
        turn_free w s.lines is.place u a
        (ap (λ (v : ℕ). (u == v) && is_wanted a (word_of w)) unit ∙ miss_by (u == e.unit.0) (is_word a e.addr) (is_wanted a (word_of w)) miss (sym (same a))) free) free
    by Replace is = replaced_free (u == e.unit.0) (a == the_arg e) (s.lines.lines u a) free
    by Cancel is = cancel_free s.lines _ u a free
    by Commit is = commit_free (program img) s.lines _ u a free

entry_kept : (img : Image) (config : Config) (a : ℕ) (s : Standing) (e : Entry) → LegalEntry img config s e → is_word a e.addr ≡ false
    → Kept a s.lines → Kept a (after_entry img s e).lines
unfolding LegalEntry after_entry standing_after Rattle.svc_machine_laws.specs.LineEvents.line_event
entry_kept img config a s e legal miss kept = by e.kind legal
  where
    by : (k : Kind) → LegalKind k img config s e → Kept a (by_kind k img s e).lines
    by Assign is = kept
    by Submit is =
        submit_keeps (Kept a) (λ b t p. check_kept b t p a) img s e is.place is.task is.at is.task_is (the_local e) (the_ask e) is.entry
        (λ w same. turn_kept w s.lines is.place a (sym (same a) ∙ miss) kept) kept
    by Replace is = with_kept (a == the_arg e) _ (s.lines.spill a) (sym (replaced_addr img config s e a is) ∙ miss) kept
    by Cancel is = cancel_kept s.lines _ a kept
    by Commit is = commit_kept (program img) s.lines _ a kept

-- ---- legal histories

pub or_first : (x y : Bool) → (x || y) ≡ false → x ≡ false
or_first true y h = h
or_first false y h = refl

pub or_second : (x y : Bool) → (x || y) ≡ false → y ≡ false
or_second true y h = cc
or_second false y h = h

free_on : (img : Image) → Given img → (config : Config) (u a : ℕ) (s : Standing) (n : Tally) (es : List Entry) → Legal img config s es → Tallies img config s n
    → list_any (names u a) es ≡ false → Free u a s.lines → Free u a (last img s es).lines
unfolding Legal last
free_on img given config u a s n [] legal stands miss free = free
free_on img given config u a s n (e ∷ es) legal stands miss free =
    free_on img given config u a (after_entry img s e) (tally_with n e) es legal.1 (tallies_entry img given config s n e legal.0 stands)
    (or_second (names u a e) (list_any (names u a) es) miss)
    (entry_free img config u a s e stands.reached legal.0 (or_first (names u a e) (list_any (names u a) es) miss) free)

-- a word that no entry of a unit names is in none of its lines
pub no_line : (img : Image) → Given img → (config : Config) (es : List Entry) → LegalHistory img config es → (u a : ℕ) → list_any (names u a) es ≡ false
    → (led_to img config es).lines.lines u a ≡ None
no_line img given config es legal u a miss =
    free_on img given config u a (opened_at img config 0) no_events es legal
    (record { reached = opened_reached img given config 0; commits = refl; accepted = refl; tasks = refl; few = omega Rattle.std.proofs.Common.arith }) miss refl

kept_on : (img : Image) (config : Config) (a : ℕ) (s : Standing) (es : List Entry) → Legal img config s es → ((u : ℕ) → list_any (names u a) es ≡ false)
    → Kept a s.lines → Kept a (last img s es).lines
unfolding Legal last
kept_on img config a s [] legal miss kept = kept
kept_on img config a s (e ∷ es) legal miss kept =
    let own = or_first (names e.unit.0 a e) (list_any (names e.unit.0 a) es) (miss e.unit.0) in
    kept_on img config a (after_entry img s e) es legal.1 (λ u. or_second (names u a e) (list_any (names u a) es) (miss u))
    (entry_kept img config a s e legal.0 (ap (λ (b : Bool). b && is_word a e.addr) (sym (Rattle.std.proofs.Common.eq-eqb e.unit.0 e.unit.0 refl)) ∙ own) kept)

-- a word that no entry names isn't spilled
pub no_spill : (img : Image) (config : Config) (es : List Entry) → LegalHistory img config es → (a : ℕ) → ((u : ℕ) → list_any (names u a) es ≡ false)
    → (led_to img config es).lines.spill a ≡ None
no_spill img config es legal a miss = kept_on img config a (opened_at img config 0) es legal miss refl
