-- The burst of a legal entry, built turn by turn, and the event of every legal entry.
use Rattle.std.proofs.Common.{inl, inr, ℕ, zero, suc, ◌≡◌, ◌+◌, ◌<◌, ◌≤◌, Bool, true, false, not, None, refl, sym, ap, ◌∙◌, subst, arith, is_none, slice_get, [], ◌∷◌, ◌++◌, is_some}
use Rattle.svc_base.specs.declared.config.Config.{Config}
use Rattle.svc_base.specs.declared.ids.UnitId.{UnitId}
use Rattle.svc_image.specs.declared.fetched.Fetched.{Fetched}
use Rattle.svc_image.specs.Image.{Image, fetch, fetch_answer}
use Rattle.svc_core_laws.specs.declared.ask.Ask.{Ask}
use Rattle.svc_core_laws.specs.declared.ask.Ask.TheVariants as ask
use Rattle.svc_core_laws.specs.State.{State}
use Rattle.svc_core_laws.specs.Local.{TurnOutcome, outcome_at}
use Rattle.svc_core_laws.specs.Local as out
use Rattle.svc_core_laws.specs.Turns.{entry_test, next}
use Rattle.svc_core_laws.specs.Program.{Memory, part, seq}
use Rattle.svc_core_laws.specs.Words.{program}
use Rattle.svc_core_laws.specs.Bursts.{Advance, Follows, AreOf, IsLocal, word_seen, after, is_nothing, ask_turns, burst_outcome}
use Rattle.svc_core_laws.proofs.Ends.{next_running}
use Rattle.svc_core_laws.proofs.Looks.{Seen, seen_last, Grows, grown_ended, grown_running, still, opened_running, one_of, are_of_more, fetched_place, fetched_own}
use Rattle.svc_machine_laws.specs.PlainMachine.{Task, run_of, memory_at}
use Rattle.svc_machine_laws.specs.WholeMachine.{seat_of}
use Rattle.svc_machine_laws.specs.Events.{Event, IsEvent, Submit, Assign as AssignEvent, Replace as ReplaceEvent, Cancel as CancelEvent, Commit as CommitEvent}
use Rattle.svc_machine_laws.specs.Standing.{Standing, refusal_of, reply_to}
use Rattle.svc_machine_laws.proofs.Given.{Given}
use Rattle.svc_history_laws.specs.declared.entry.Kind.{Kind}
use Rattle.svc_history_laws.specs.declared.entry.Kind.TheVariants.{Assign, Submit as SubmitKind, Replace, Cancel, Commit}
use Rattle.svc_history_laws.specs.declared.entry.Entry.{Entry}
use Rattle.svc_history_laws.specs.Entries.{entry_of}
use Rattle.svc_history_laws.specs.Submissions.{turns_of, core_on, IsLocalAt, IsAskedAt}
use Rattle.svc_history_laws.specs.Legal.{the_local, the_ask, the_arg, LegalEntry, LegalKind, IsSubmitted, after_entry}
use Rattle.svc_history_laws.specs.Replay.{IsBurstOf, ReplaysAs}
use Rattle.svc_history_laws.specs.Histories.{HasEvent}
use Rattle.svc_history_laws.proofs.Legality.{StartsAt, core_after, turns_of-asks, entry_leads}
use Rattle.svc_history_laws.proofs.Limits.{Fits, task_fits, ready_for}
use Rattle.svc_history_laws.proofs.Replays.{seat_of_task, Replayed, accepted_replay, entry_replay}

-- so many local turns of a lease
record Ran (img : Image) (unit : UnitId) (epoch : ℕ) (start : State) (n : ℕ) : Type 0 where
  burst : Advance
  unit_is : burst.unit ≡ unit
  epoch_is : burst.epoch ≡ epoch
  start_is : burst.start ≡ start
  follows : Follows burst
  looks : AreOf img burst.looks
  local_is : burst.local ≡ n
  idle : burst.ask ≡ ask.Nothing

opened : (img : Image) (unit : UnitId) (epoch : ℕ) (start : State) → start.done ≡ None → Ran img unit epoch start 0
opened img unit epoch start running =
    let look : Fetched = fetch_answer img start.pc in
    record {
      burst = still unit epoch start (look ∷ []);
      unit_is = refl;
      epoch_is = refl;
      start_is = refl;
      follows = opened_running unit epoch start (look ∷ []) look refl (fetched_place img look start.pc refl) (ap is_none running);
      looks = one_of img (look ∷ []) look refl (fetched_own img look start.pc refl);
      local_is = refl;
      idle = refl;
    }

fetched_word : (img : Image) (pc : ℕ) → (fetch_answer img pc).word ≡ fetch img pc
unfolding fetch_answer
fetched_word img pc = refl

-- the word that was seen last is the image's
word_last : (img : Image) (b : Advance) → Follows b → AreOf img b.looks → b.end.done ≡ None → word_seen (slice_get b.looks b.local) ≡ fetch img b.end.pc
word_last img b follows looks running =
    let s : Seen b.end (slice_get b.looks b.local) = seen_last b follows running in
    ap word_seen s.is ∙ (ap (λ (l : Fetched). l.word) (looks b.local s.look s.is) ∙ (fetched_word img s.look.pc ∙ ap (fetch img) s.place))

outcome_last : (img : Image) (b : Advance) → Follows b → AreOf img b.looks → b.end.done ≡ None → outcome_at b.end (word_seen (slice_get b.looks b.local)) ≡ next img b.end
outcome_last img b follows looks running = ap (outcome_at b.end) (word_last img b follows looks running) ∙ sym (next_running img b.end running)

local_core : (x : TurnOutcome) → IsLocal x → (c : State) × (x ≡ out.Local c)
local_core (out.Local c) l = (c, refl)
local_core (out.Load kind rd addr) l = absurd l
local_core (out.Store kind addr v) l = absurd l
local_core (out.Emit w) l = absurd l

-- one local turn more
grown : (img : Image) (unit : UnitId) (epoch : ℕ) (start : State) (n : ℕ) (r : Ran img unit epoch start n) → IsLocalAt img r.burst.end → n < 63 → Ran img unit epoch start (suc n)
grown img unit epoch start n r at few =
    let b : Advance = r.burst in
    let turn = local_core (next img b.end) at.1 in
    let g : Grows b turn.0 = record { follows = r.follows; idle = r.idle; running = at.0; room = omega (arith, few, r.local_is); turn = outcome_last img b r.follows r.looks at.0 ∙ turn.1 } in
    of turn.0 g (is_none turn.0.done) refl
  where
    of : (c : State) → Grows r.burst c → (x : Bool) → is_none c.done ≡ x → Ran img unit epoch start (suc n)
    of c g true e =
        let look : Fetched = fetch_answer img c.pc in
        record {
          burst = record r.burst { looks = r.burst.looks ++ look ∷ []; local = r.burst.local + 1; end = entry_test look.entry c };
          unit_is = r.unit_is;
          epoch_is = r.epoch_is;
          start_is = r.start_is;
          follows = grown_running r.burst c (entry_test look.entry c) look (r.burst.looks ++ look ∷ []) g e (fetched_place img look c.pc refl) refl refl;
          looks = are_of_more img r.burst.looks look r.looks (fetched_own img look c.pc refl);
          local_is = omega (arith, r.local_is);
          idle = r.idle;
        }
    of c g false e = record {
      burst = record r.burst { local = r.burst.local + 1; end = c };
      unit_is = r.unit_is;
      epoch_is = r.epoch_is;
      start_is = r.start_is;
      follows = grown_ended r.burst c g e;
      looks = r.looks;
      local_is = omega (arith, r.local_is);
      idle = r.idle;
    }

-- what a running core asks
ask_of : (s : State) (x : TurnOutcome) → (IsLocal x → ⊥) → (a : Ask) × (x ≡ burst_outcome s a) × (is_nothing a ≡ false)
ask_of s (out.Local c) not_local = absurd (not_local tt)
ask_of s (out.Load kind rd addr) not_local = (ask.Load kind rd addr, refl, refl)
ask_of s (out.Store kind addr v) not_local = (ask.Store kind addr v, refl, refl)
ask_of s (out.Emit w) not_local = (ask.Emit w, refl, refl)

module _ (img : Image) (config : Config) (s : Standing) (e : Entry) (sub : IsSubmitted img config s e) where
  abbrev place : ℕ
  place = sub.place

  abbrev task : Task
  task = sub.task

  abbrev memory : Memory
  memory = memory_at (program img) (seq (program img) s.plain.commits).memory s.plain.tasks sub.place

  abbrev core : State
  core = (part (program img) sub.task.entry sub.task.turns memory).core

  abbrev Turned : ℕ → Type 0
  Turned n = Ran img e.unit sub.task.epoch core n

  starts : (n : ℕ) (r : Turned n) → StartsAt img s.plain place task r.burst
  starts n r = record { follows = r.follows; looks = r.looks; start = r.start_is }

  -- it stands where the task does so many turns on
  end_is : (n : ℕ) (r : Turned n) → core_on img s.plain place task n ≡ r.burst.end
  end_is n r =
      let le : n ≤ r.burst.local = omega (arith, r.local_is) in
      core_after img s.plain place task r.burst (starts n r) n le ∙ (ap (λ k. after r.burst.looks k r.burst.start) (sym r.local_is) ∙ sym r.follows.end)

  zero_turns : 0 + sub.task.turns ≡ sub.task.turns
  zero_turns = omega arith

  going : core.done ≡ None
  going = ap (λ n. (part (program img) sub.task.entry n memory).core.done) (sym zero_turns) ∙ sub.turns.goes_on

  -- the local turns
  turned : (n : ℕ) → n ≤ the_local e → Turned n
  turned zero le = opened img e.unit sub.task.epoch core going
  turned (suc n) le =
      let r : Turned n = turned n (omega (arith, le)) in
      grown img e.unit sub.task.epoch core n r (subst (IsLocalAt img) (end_is n r) (sub.turns.locals n (omega (arith, le)))) (omega (arith, le, sub.turns.few))

  -- the burst with its ask
  burst_with : (r : Turned (the_local e)) (asks : Bool) → the_ask e ≡ asks → (b : Advance) × IsBurstOf img s.plain e.unit.0 (the_local e + turns_of (the_ask e)) b
  burst_with r false h =
      let none : ask_turns r.burst.ask ≡ 0 = ap ask_turns r.idle in
      let turns : turns_of (the_ask e) ≡ 0 = ap turns_of h in (
        r.burst,
        record {
          seat = seat_of (run_of (program img) memory task);
          seat_is = seat_of_task img config s e.unit.0 place task sub.at sub.task_is;
          unit_is = ap (λ (u : UnitId). u.0) r.unit_is;
          epoch = r.epoch_is;
          start = r.start_is;
          advance = record {
            follows = r.follows;
            looks = r.looks;
            most = omega (arith, none, turns, r.local_is, sub.turns.few);
            stopped = inl (omega (arith, turns, r.local_is, sub.turns.few));
          };
        },
      )
  burst_with r true h =
      let at : IsAskedAt img r.burst.end = subst (IsAskedAt img) (end_is (the_local e) r) (sub.turns.asks h) in
      let a = ask_of r.burst.end (next img r.burst.end) at.1 in
      let turns : turns_of (the_ask e) ≡ 1 = ap turns_of h in
      let one : ask_turns a.0 ≡ 1 = sym (turns_of-asks a.0) ∙ ap (λ x. turns_of (not x)) a.2 in
      let fits : Fits r.burst.end = subst Fits (end_is (the_local e) r) (task_fits img task.entry (the_local e + task.turns) memory) in
      let outcome : outcome_at r.burst.end (word_seen (slice_get r.burst.looks r.burst.local)) ≡ burst_outcome r.burst.end a.0 = outcome_last img r.burst r.follows r.looks at.0 ∙ a.1 in (
        record r.burst { ask = a.0 },
        record {
          seat = seat_of (run_of (program img) memory task);
          seat_is = seat_of_task img config s e.unit.0 place task sub.at sub.task_is;
          unit_is = ap (λ (u : UnitId). u.0) r.unit_is;
          epoch = r.epoch_is;
          start = r.start_is;
          advance = record {
            follows = record {
              looked = r.follows.looked;
              locals = r.follows.locals;
              end = r.follows.end;
              ask = inr (at.0, outcome);
              ready = ready_for r.burst.end (word_seen (slice_get r.burst.looks r.burst.local)) a.0 at.0 fits outcome;
              looks = r.follows.looks;
              few = omega (arith, one, turns, r.local_is, sub.turns.few);
            };
            looks = r.looks;
            most = omega (arith, one, turns, r.local_is, sub.turns.few);
            stopped = inr (inr a.2);
          };
        },
      )

  pub burst_for : (b : Advance) × IsBurstOf img s.plain e.unit.0 (the_local e + turns_of (the_ask e)) b
  burst_for = burst_with (turned (the_local e) (omega arith)) (the_ask e) refl

-- the event that an entry of this kind names
record Named (img : Image) (config : Config) (s : Standing) (e : Entry) (k : Kind) : Type 0 where
  event : Event
  is : IsEvent event
  replay : ReplaysAs k img s.plain e event
  accepted : refusal_of img config s event ≡ None
  entry : e ≡ entry_of event (reply_to img s event)

event_of : (img : Image) (config : Config) (s : Standing) (e : Entry) (k : Kind) → LegalKind k img config s e → Named img config s e k
unfolding entry_of
event_of img config s e Assign legal = record {
  event = AssignEvent e.unit.0 (the_arg e);
  is = tt;
  replay = (ap (λ (y : Entry). is_some y.arg) legal.1, refl);
  accepted = legal.0;
  entry = legal.1;
}
event_of img config s e SubmitKind legal =
    let b = burst_for img config s e legal in
    let r : Replayed img config s e b.0 = record { sub = legal; of = b.1 } in
    record {
      event = Submit b.0;
      is = b.1.advance.follows;
      replay = (ap (λ (y : Entry). is_some y.local) legal.entry, ap (λ (y : Entry). is_some y.ask) legal.entry, b.0, b.1, refl);
      accepted = accepted_replay img config s e b.0 r;
      entry = entry_replay img config s e b.0 r;
    }
event_of img config s e Replace legal = record {
  event = ReplaceEvent e.unit.0 (the_arg e);
  is = tt;
  replay = (ap (λ (y : Entry). is_some y.arg) legal.1, refl);
  accepted = legal.0;
  entry = legal.1;
}
event_of img config s e Cancel legal = record { event = CancelEvent e.unit.0; is = tt; replay = refl; accepted = legal.0; entry = legal.1 }
event_of img config s e Commit legal = record { event = CommitEvent e.unit.0; is = tt; replay = refl; accepted = legal.0; entry = legal.1 }

-- every legal entry has its event
pub has_event : (img : Image) → Given img → (config : Config) (s : Standing) (e : Entry) → LegalEntry img config s e → HasEvent img config s e
unfolding LegalEntry
has_event img given config s e legal =
    let x : Named img config s e e.kind = event_of img config s e e.kind legal in
    record {
      event = x.event;
      is = x.is;
      replay = x.replay;
      accepted = x.accepted;
      entry = x.entry;
      leads = ap (after_entry img s) x.entry ∙ entry_leads img given config s x.event x.is x.accepted;
    }
