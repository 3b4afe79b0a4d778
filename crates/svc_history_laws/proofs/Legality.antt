-- The entry of an accepted event is legal, and leads where the event does.
use Rattle.std.proofs.Common.{inl, inr, ℕ, ◌≡◌, ◌+◌, ◌==◌, ◌<◌, ◌≤◌, Bool, true, false, not, ◌&&◌, Option, Some, None, refl, sym, ap, ap₂, ◌∙◌, subst, arith, is_some, option_map, slice_get, cond, List, [], ◌∷◌, ◌++◌}
use Rattle.std.proofs.lemmas.Bool.{eqb-false, and_cases, leb-false}
use Rattle.std.proofs.lemmas.Option.{none-some, same_Some}
use Rattle.svc_base.specs.declared.config.Config.{Config}
use Rattle.svc_image.specs.Image.{Image}
use Rattle.svc_core_laws.specs.declared.ask.Ask.{Ask}
use Rattle.svc_core_laws.specs.declared.ask.Ask.TheVariants as ask
use Rattle.svc_core_laws.specs.State.{State}
use Rattle.svc_core_laws.specs.Turns.{next}
use Rattle.svc_core_laws.specs.Program.{Memory, Want, Run, part, seq, locals, are_local}
use Rattle.svc_core_laws.specs.Words.{program}
use Rattle.svc_core_laws.specs.Bursts.{Advance, Follows, AreOf, IsLocal, after, is_nothing, ask_turns, burst_outcome, Means}
use Rattle.svc_core_laws.specs.Same.{same_state}
use Rattle.svc_core_laws.proofs.Means.{all_locals, taken, are_of_looks}
use Rattle.svc_bus_laws.specs.LineTable.{LineTable}
use Rattle.svc_machine_laws.specs.PlainMachine.{Task, Plain, Running, running, run_of, runs_of, memory_at}
use Rattle.svc_machine_laws.specs.PlainMachine as plain
use Rattle.svc_machine_laws.specs.WholeMachine as whole
use Rattle.svc_machine_laws.specs.WholeMachine.{Machine, machine_of}
use Rattle.svc_machine_laws.specs.MachineLaws.{Taken}
use Rattle.svc_machine_laws.specs.Events.{Event, Assign, Submit, Replace, Cancel, Commit, IsEvent, asked_want, want_of, task_place, seat_place, plain_submit, plain_event}
use Rattle.svc_machine_laws.specs.LineEvents.{line_turn, line_ask, line_check, line_submit, line_event, word_of}
use Rattle.svc_machine_laws.specs.Refusals.{cases_of, refuse, full_set, asked_word}
use Rattle.svc_machine_laws.specs.Replies.{plain_reply, plain_submitted}
use Rattle.svc_machine_laws.specs.Standing.{Standing, refusal_of, standing_after, reply_to}
use Rattle.svc_machine_laws.proofs.Cases.{no_case}
use Rattle.svc_machine_laws.proofs.Given.{Given}
use Rattle.svc_machine_laws.proofs.Accepted.{CanSubmit, can_submit, seat_places}
use Rattle.svc_machine_laws.proofs.Anew.{runs_at}
use Rattle.svc_machine_laws.proofs.Checks.{same_check}
use Rattle.svc_machine_laws.proofs.EmptyBursts.{empty_burst}
use Rattle.svc_machine_laws.proofs.MachineEvents.{taken as turns_taken}
use Rattle.svc_machine_laws.proofs.Submits.{submit_step}
use Rattle.svc_machine_laws.proofs.Parts.{part_locals}
use Rattle.svc_machine_laws.proofs.Wants.{asked_next, asked_word_is}
use Rattle.svc_history_laws.specs.declared.entry.Kind.TheVariants as kind
use Rattle.svc_history_laws.specs.declared.entry.Entry.{Entry}
use Rattle.svc_history_laws.specs.Entries.{entry_of, telling, plain_entry}
use Rattle.svc_history_laws.specs.Submissions.{turns_of, core_on, word_wanted, IsLocalAt, IsAskedAt, IsSubmission, checked_at, lines_asked, submitted_at, after_submission, submission}
use Rattle.svc_history_laws.specs.Legal.{LegalEntry, after_entry, Legal, last}

-- the task of a run, and the run from its task
pub record RunsTask (img : Image) (s : Plain) (place : ℕ) (run : Running State) : Type 0 where
  pub task : Task
  pub task_is : slice_get s.tasks place ≡ Some task
  pub run_is : run ≡ run_of (program img) (memory_at (program img) (seq (program img) s.commits).memory s.tasks place) task

pub task_here : (img : Image) (s : Plain) (place : ℕ) (run : Running State) → slice_get (running (program img) s) place ≡ Some run → RunsTask img s place run
task_here img s place run h =
    let p = program img in
    let m : Memory = memory_at p (seq p s.commits).memory s.tasks place in
    of (slice_get s.tasks place) refl (sym (runs_at p (seq p s.commits).memory s.tasks place) ∙ h)
  where
    of : (o : Option Task) → slice_get s.tasks place ≡ o
        → option_map (run_of (program img) (memory_at (program img) (seq (program img) s.commits).memory s.tasks place)) (slice_get s.tasks place) ≡ Some run → RunsTask img s place run
    of None e k = absurd (none-some run (sym (ap (option_map (run_of (program img) (memory_at (program img) (seq (program img) s.commits).memory s.tasks place))) e) ∙ k))
    of (Some task) e k = record {
      task = task;
      task_is = e;
      run_is = sym (same_Some _ _ (sym (ap (option_map (run_of (program img) (memory_at (program img) (seq (program img) s.commits).memory s.tasks place))) e) ∙ k));
    }

-- a burst that starts where the task stands
pub record StartsAt (img : Image) (s : Plain) (place : ℕ) (task : Task) (b : Advance) : Type 0 where
  pub follows : Follows b
  pub looks : AreOf img b.looks
  pub start : b.start ≡ (part (program img) task.entry task.turns (memory_at (program img) (seq (program img) s.commits).memory s.tasks place)).core

-- the core after n of its local turns is the task's, n turns on
pub core_after : (img : Image) (s : Plain) (place : ℕ) (task : Task) (b : Advance) → StartsAt img s place task b → (n : ℕ) → n ≤ b.local → core_on img s place task n ≡ after b.looks n b.start
core_after img s place task b at n le =
    let p = program img in
    let m : Memory = memory_at p (seq p s.commits).memory s.tasks place in
    let all = all_locals img b at.follows at.looks n le in
    ap (λ (r : Run State). r.core) (part_locals p task.entry n task.turns m (subst (λ (c : State). are_local p n c ≡ true) at.start all.0))
    ∙ (ap (locals p n) (sym at.start) ∙ all.1)

pub turns_of-asks : (a : Ask) → turns_of (not (is_nothing a)) ≡ ask_turns a
turns_of-asks ask.Nothing = refl
turns_of-asks (ask.Load kind rd addr) = refl
turns_of-asks (ask.Store kind addr v) = refl
turns_of-asks (ask.Emit w) = refl

-- a burst wants something exactly where it asks
pub wants_where_asks : (img : Image) (b : Advance) → is_some (asked_want img b) ≡ not (is_nothing b.ask)
wants_where_asks img b = of b.ask
  where
    of : (a : Ask) → is_some (want_of img b.end a) ≡ not (is_nothing a)
    of ask.Nothing = refl
    of (ask.Load kind rd addr) = refl
    of (ask.Store kind addr v) = refl
    of (ask.Emit w) = refl

running_at : (img : Image) (s : Plain) (place : ℕ) (task : Task) (b : Advance) → StartsAt img s place task b → b.start.done ≡ None → (core_on img s place task 0).done ≡ None
unfolding after
running_at img s place task b at going = ap (λ (c : State). c.done) (core_after img s place task b at 0 (omega arith)) ∙ going

positive : (local : ℕ) (a : Ask) → ((local == 0) && is_nothing a) ≡ false → 0 < local + turns_of (not (is_nothing a))
positive local ask.Nothing h = elim (and_cases (local == 0) true h) [
  | inl e ↦ let ne = eqb-false local 0 e in omega (arith, ne)
  | inr e ↦ cc
]
positive local (ask.Load kind rd addr) h = omega arith
positive local (ask.Store kind addr v) h = omega arith
positive local (ask.Emit w) h = omega arith

flip_true : (x : Bool) → not x ≡ true → x ≡ false
flip_true true h = sym h
flip_true false h = refl

some_of : {A : Type 0} (o : Option A) → is_some o ≡ true → (x : A) × (o ≡ Some x)
some_of (Some x) h = (x, refl)
some_of None h = cc

-- what a running core asks for is no local turn
pub asked_at : (img : Image) (b : Advance) → Means img b → Follows b → not (is_nothing b.ask) ≡ true → IsAskedAt img b.end
asked_at img b means follows h =
    let some = flip_true (is_nothing b.ask) h in
    elim follows.ask [
      | inl idle ↦ let no : true ≡ false = sym (ap is_nothing idle) ∙ some in cc
      | inr here ↦ (here.0, not_local b.ask some (means.ask some))
    ]
  where
    not_local : (a : Ask) → is_nothing a ≡ false → next img b.end ≡ burst_outcome b.end a → IsLocal (next img b.end) → ⊥
    not_local ask.Nothing some e l = cc
    not_local (ask.Load kind rd addr) some e l = subst IsLocal e l
    not_local (ask.Store kind addr v) some e l = subst IsLocal e l
    not_local (ask.Emit w) some e l = subst IsLocal e l

-- an accepted burst's turns may be submitted
pub submission_of : (img : Image) → Given img → (s : Standing) (place : ℕ) (task : Task) (b : Advance) → StartsAt img s.plain place task b → Means img b → b.start.done ≡ None
    → full_set s.lines b.unit.0 (asked_word img b.ask) ≡ None → ((b.local == 0) && is_nothing b.ask) ≡ false
    → IsSubmission img s b.unit.0 place task b.local (not (is_nothing b.ask))
submission_of img given s place task b at means going free some =
    let f = at.follows in
    let there : core_on img s.plain place task b.local ≡ b.end = core_after img s.plain place task b at b.local (omega arith) ∙ sym f.end in
    record {
      some = positive b.local b.ask some;
      few = omega (arith, f.few, turns_of-asks b.ask);
      goes_on = running_at img s.plain place task b at going;
      locals = λ n lt.
          let t = taken img b f at.looks n lt in
          let here = core_after img s.plain place task b at n (omega (arith, lt)) in
          subst (IsLocalAt img) (sym here) ((f.locals n lt).0, subst IsLocal (sym t.next_is) tt);
      asks = λ h. subst (IsAskedAt img) (sym there) (asked_at img b means f h);
      room = λ h.
          let w = some_of (asked_want img b) (wants_where_asks img b ∙ h) in
          let word : word_wanted img (core_on img s.plain place task b.local) ≡ asked_word img b.ask =
          ap (word_wanted img) there ∙ (ap word_of (asked_next img b means w.0 w.1) ∙ asked_word_is img b.end b.ask w.0 w.1) in
          ap (full_set s.lines b.unit.0) word ∙ free;
    }

-- what an accepted submit tells of its unit's task
pub record Submits (img : Image) (config : Config) (s : Standing) (b : Advance) : Type 0 where
  pub known : b.unit.0 < config.units
  pub below_limit : s.plain.accepted < config.events
  pub place : ℕ
  pub at : task_place s.plain b.unit.0 ≡ Some place
  pub task : Task
  pub task_is : slice_get s.plain.tasks place ≡ Some task
  pub starts : StartsAt img s.plain place task b
  pub means : Means img b
  pub taken : Taken (program img) s.plain place b.local b.end (asked_want img b)
  pub turns : IsSubmission img s b.unit.0 place task b.local (not (is_nothing b.ask))

pub submits : (img : Image) → Given img → (config : Config) (s : Standing) (b : Advance) → Follows b → b.unit.0 < config.units → refusal_of img config s (Submit b) ≡ None → Submits img config s b
submits img given config s b follows known h =
    let can : CanSubmit img config s b = can_submit img config s b h in
    let here : RunsTask img s.plain can.place can.run = task_here img s.plain can.place can.run can.here in
    let starts : StartsAt img s.plain can.place here.task b = record {
      follows = follows;
      looks = are_of_looks img b.looks can.ours;
      start = sym can.start ∙ ap (λ (r : Running State). r.run.core) here.run_is;
    } in
    let means : Means img b = given.means b follows can.ours in
    let going : b.start.done ≡ None = ap (λ (c : State). c.done) (sym can.start) ∙ can.going in
    let some : ((b.local == 0) && is_nothing b.ask) ≡ false = nothing_done b.local (is_nothing b.ask) (same_state b.end b.start) (empty_burst b follows) can.some in
    record {
      known = known;
      below_limit = can.room;
      place = can.place;
      at = can.at;
      task = here.task;
      task_is = here.task_is;
      starts = starts;
      means = means;
      taken = turns_taken img given config s b follows can;
      turns = submission_of img given s can.place here.task b starts means going can.free some;
    }
  where
    nothing_done : (local : ℕ) (nothing same : Bool) → same ≡ (local == 0) → (nothing && same) ≡ false → ((local == 0) && nothing) ≡ false
    nothing_done local true same e h = ap (λ x. x && true) (sym e) ∙ flip same h
      where
        flip : (x : Bool) → (true && x) ≡ false → (x && true) ≡ false
        flip true k = k
        flip false k = refl
    nothing_done local false same e h = off (local == 0)
      where
        off : (x : Bool) → (x && false) ≡ false
        off true = refl
        off false = refl

-- the turns of a burst as an entry names them: where they lead, and the entry
lines_turned : (img : Image) (b : Advance) (t : LineTable) (place : ℕ) (c : State) → Means img b → c ≡ b.end → cond (not (is_nothing b.ask)) (line_turn ((program img).want c) t place) t ≡ line_ask (asked_want img b) t place
lines_turned img b t place c means e = of (asked_want img b) refl (is_nothing b.ask) (sym (wants_where_asks img b))
  where
    of : (o : Option (Want State)) → asked_want img b ≡ o → (nothing : Bool) → not nothing ≡ is_some (asked_want img b) → cond (not nothing) (line_turn ((program img).want c) t place) t ≡ line_ask o t place
    of None k true h = refl
    of None k false h = let no : true ≡ false = h ∙ ap is_some k in cc
    of (Some w) k true h = let no : false ≡ true = h ∙ ap is_some k in cc
    of (Some w) k false h = ap (λ v. line_turn v t place) (ap ((program img).want) e ∙ asked_next img b means w k)

pub submission_leads : (img : Image) → Given img → (config : Config) (s : Standing) (b : Advance) → Submits img config s b → after_submission img s b.unit.0 b.local (not (is_nothing b.ask)) ≡ standing_after img s (Submit b)
unfolding standing_after plain_event line_event
submission_leads img given config s b sub =
    let p = program img in
    let there : core_on img s.plain sub.place sub.task b.local ≡ b.end = core_after img s.plain sub.place sub.task b sub.starts b.local (omega arith) ∙ sym sub.starts.follows.end in
    let ask : Bool = not (is_nothing b.ask) in
    let turned : Plain = plain.submit p s.plain sub.place b.local ask in
    let want : Option (Want State) = asked_want img b in
    let m : Machine State = machine_of p s.plain in
    let left : after_submission img s b.unit.0 b.local ask ≡ checked_at img sub.place turned (cond ask (line_turn (p.want (core_on img s.plain sub.place sub.task b.local)) s.lines sub.place) s.lines) =
    ap (λ o. submitted_at img s o b.local ask) sub.at ∙ ap (λ o. checked_at img sub.place turned (lines_asked img s sub.place b.local o ask)) sub.task_is in
    let turns : plain.submit p s.plain sub.place b.local (is_some want) ≡ turned = ap (plain.submit p s.plain sub.place b.local) (wants_where_asks img b) in
    let right_plain : plain_submit img s.plain (task_place s.plain b.unit.0) b ≡ plain.check p turned sub.place =
    ap (λ o. plain_submit img s.plain o b) sub.at ∙ ap (λ q. plain.check p q sub.place) turns in
    let misled : whole.is_misled p (whole.submit m sub.place b.end want).seats sub.place ≡ plain.is_misled p turned sub.place =
    ap (λ (n : Machine State). whole.is_misled p n.seats sub.place) (sym (submit_step p s.plain sub.place b.local b.end want sub.taken))
    ∙ same_check p (plain.submit p s.plain sub.place b.local (is_some want)) sub.place
    ∙ ap (λ q. plain.is_misled p q sub.place) turns in
    let right_lines : line_submit p m b.end want s.lines (seat_place m b.unit.0) ≡ line_check (plain.is_misled p turned sub.place) (line_ask want s.lines sub.place) sub.place =
    ap (line_submit p m b.end want s.lines) (seat_places img config s b.unit.0 ∙ sub.at) ∙ ap (λ c. line_check c (line_ask want s.lines sub.place) sub.place) misled in
    left
    ∙ ap (checked_at img sub.place turned) (lines_turned img b s.lines sub.place (core_on img s.plain sub.place sub.task b.local) sub.means there)
    ∙ ap₂ {C = Standing} (λ q t. record { plain = q; lines = t }) (sym right_plain) (sym right_lines)

pub submission_is : (img : Image) (s : Standing) (b : Advance) → submission img s b.unit b.local (not (is_nothing b.ask)) ≡ entry_of (Submit b) (reply_to img s (Submit b))
unfolding entry_of reply_to plain_reply
submission_is img s b =
    ap (λ x. telling (plain_submitted (program img) s.plain s.lines (task_place s.plain b.unit.0) b.local x) (plain_entry kind.Submit b.unit None (Some b.local) (Some (not (is_nothing b.ask))))) (sym (wants_where_asks img b))

known_unit : (img : Image) (config : Config) (s : Standing) (b : Advance) → refusal_of img config s (Submit b) ≡ None → b.unit.0 < config.units
unfolding refusal_of refuse
known_unit img config s b h = leb-false config.units b.unit.0 (no_case (cases_of img config (machine_of (program img) s.plain) s.lines (Submit b)) h 0)

-- the entry of an accepted event is legal
pub legal_entry : (img : Image) → Given img → (config : Config) (s : Standing) (x : Event) → IsEvent x → refusal_of img config s x ≡ None → LegalEntry img config s (entry_of x (reply_to img s x))
unfolding LegalEntry entry_of
legal_entry img given config s (Assign unit guess) is h = (h, refl)
legal_entry img given config s (Submit b) is h =
    let sub : Submits img config s b = submits img given config s b is (known_unit img config s b h) h in
    record {
      unit = sub.known;
      below_limit = sub.below_limit;
      place = sub.place;
      at = sub.at;
      task = sub.task;
      task_is = sub.task_is;
      turns = sub.turns;
      entry = sym (submission_is img s b);
    }
legal_entry img given config s (Replace unit address) is h = (h, refl)
legal_entry img given config s (Cancel unit) is h = (h, refl)
legal_entry img given config s (Commit by) is h = (h, refl)

-- and leads where the event does
pub entry_leads : (img : Image) → Given img → (config : Config) (s : Standing) (x : Event) → IsEvent x → refusal_of img config s x ≡ None → after_entry img s (entry_of x (reply_to img s x)) ≡ standing_after img s x
unfolding after_entry entry_of
entry_leads img given config s (Assign unit guess) is h = refl
entry_leads img given config s (Submit b) is h = submission_leads img given config s b (submits img given config s b is (known_unit img config s b h) h)
entry_leads img given config s (Replace unit address) is h = refl
entry_leads img given config s (Cancel unit) is h = refl
entry_leads img given config s (Commit by) is h = refl

pub last-append : (img : Image) (s : Standing) (es : List Entry) (e : Entry) → last img s (es ++ e ∷ []) ≡ after_entry img (last img s es) e
unfolding last
last-append img s [] e = refl
last-append img s (f ∷ es) e = last-append img (after_entry img s f) es e

pub Legal-append : (img : Image) (config : Config) (s : Standing) (es : List Entry) (e : Entry) → Legal img config s es → LegalEntry img config (last img s es) e → Legal img config s (es ++ e ∷ [])
unfolding Legal last
Legal-append img config s [] e h k = (k, tt)
Legal-append img config s (f ∷ es) e h k = (h.0, Legal-append img config (after_entry img s f) es e h.1 k)
