-- Every cut has its blame.
use Rattle.std.proofs.Common.{ℕ, zero, suc, not, ◌≡◌, ◌≢◌, ◌==◌, ◌+◌, ◌-◌, ◌⊎◌, inl, inr, Bool, true, false, cond, List, [], ◌∷◌, map, length, Option, Some, None, refl, sym, ap, ◌∙◌, subst, is_some, option_map, slice_get}
use Rattle.std.proofs.lemmas.Option.{same_Some, none-some}
use Rattle.std.proofs.lemmas.Bool.{eq-eqb}
use borrow.Author.Tests.{both_ways}
use Rattle.svc_base.specs.declared.config.Config.{Config}
use Rattle.svc_image.specs.Image.{Image}
use Rattle.svc_core_laws.specs.declared.end.End.{End}
use Rattle.svc_core_laws.specs.declared.end.End.TheVariants as end
use Rattle.svc_core_laws.specs.State.{State}
use Rattle.svc_core_laws.specs.Program.{Program, Want, Local, Load, Store, Narrow, Emit, Run, Seq, part, seq, due_after, stopped_after, followed_by, IsProgram}
use Rattle.svc_core_laws.specs.Words.{program}
use Rattle.svc_core_laws.specs.Bursts.{Advance}
use Rattle.svc_bus_laws.specs.ByRows.{victim_after}
use Rattle.svc_bus_laws.proofs.ByRowsLaws.{victim_by_rows}
use Rattle.svc_bus_laws.proofs.MapViews.{victim_is}
use Rattle.svc_machine_laws.specs.declared.reply.Cause.TheVariants as cause
use Rattle.svc_machine_laws.specs.declared.reply.Cut.{Cut}
use Rattle.svc_machine_laws.specs.declared.reply.Reply.{Reply}
use Rattle.svc_machine_laws.specs.PlainMachine.{Task, Plain, Running, IsDue, runs_of, running, entry_of, stays, cuts_next, cuts_after, cuts_at, run_done, run_entry, is_misled, submit}
use Rattle.svc_machine_laws.specs.WholeMachine.{Machine, machine_of}
use Rattle.svc_machine_laws.specs.MachineLaws.{HasEnded}
use Rattle.svc_machine_laws.specs.Events.{Event, Assign, Submit, Replace, Cancel, Commit, IsEvent, asked_want, task_place}
use Rattle.svc_machine_laws.specs.Replies.{turn_cut, cut_from, whole_asked, whole_submitted, whole_reply, plain_cancelled, plain_committed, plain_reply, wrong_guess}
use Rattle.svc_machine_laws.specs.Standing.{Standing, refusal_of, reply_to}
use Rattle.svc_machine_laws.specs.Reached.{IsReached}
use Rattle.svc_machine_laws.specs.Blame.{Writes, IsBlamed, Misleads}
use Rattle.svc_machine_laws.proofs.Given.{Given}
use Rattle.svc_machine_laws.proofs.Accepted.{can_submit, can_cancel, can_commit, seat_places}
use Rattle.svc_machine_laws.proofs.Answering.{count, asked_reply}
use Rattle.svc_machine_laws.specs.Replies.{reply_after_check, plain_asked, plain_submitted}
use Rattle.svc_machine_laws.proofs.MachineEvents.{taken, head_ended}
use Rattle.svc_machine_laws.proofs.Parts.{seq_commit}

module _ (img : Image) (s : Plain) (b : Advance) (w : Want State) (asked : asked_want img b ≡ Some w) (place : ℕ) (at : task_place s b.unit.0 ≡ Some place) where
  abbrev m : Machine State
  m = machine_of (program img) s

  -- a write that cuts
  write_blame : (a : ℕ) → Writes w a → (n : ℕ) → victim_after m.versioned.rows place a ≡ Some n
      → IsBlamed img s (Submit b) (cut_from (cause.Violation (record { 0 = a })) s.commits (length m.seats) (suc place + n))
  write_blame a wrote n e = record {
    burst = b;
    event = refl;
    want = w;
    asked = asked;
    wrote = wrote;
    place = place;
    at = at;
    victim = suc place + n;
    is_victim = victim_is m.versioned place a (suc place + n) (victim_by_rows m.versioned place a ∙ ap (option_map (λ i. suc place + i)) e);
    cut_at = record { first = refl; tasks = ap (λ l. l - (suc place + n)) (count (program img) (seq (program img) s.commits).memory s.tasks) };
  }

  found_blame : (a : ℕ) → Writes w a → (o : Option ℕ) → victim_after m.versioned.rows place a ≡ o → (cut : Cut)
      → option_map (λ n. cut_from (cause.Violation (record { 0 = a })) s.commits (length m.seats) (suc place + n)) o ≡ Some cut → IsBlamed img s (Submit b) cut
  found_blame a wrote None e cut h = absurd (none-some cut h)
  found_blame a wrote (Some n) e cut h = subst (IsBlamed img s (Submit b)) (same_Some _ cut h) (write_blame a wrote n e)

-- what an asked turn cuts is blamed on its write
turn_blame : (img : Image) (s : Plain) (b : Advance) (w : Want State) (asked : asked_want img b ≡ Some w) (place : ℕ) (at : task_place s b.unit.0 ≡ Some place) (cut : Cut)
    → let m : Machine State = machine_of (program img) s in turn_cut w m.versioned.rows s.commits (length m.seats) place ≡ Some cut → IsBlamed img s (Submit b) cut
turn_blame img s b (Local c) asked place at cut h = absurd (none-some cut h)
turn_blame img s b (Load a value go) asked place at cut h = absurd (none-some cut h)
turn_blame img s b (Store a v c) asked place at cut h = found_blame img s b (Store a v c) asked place at a refl (victim_after (machine_of (program img) s).versioned.rows place a) refl cut h
turn_blame img s b (Narrow a f c) asked place at cut h = found_blame img s b (Narrow a f c) asked place at a refl (victim_after (machine_of (program img) s).versioned.rows place a) refl cut h
turn_blame img s b (Emit v c) asked place at cut h = absurd (none-some cut h)

ask_blame : (img : Image) (s : Standing) (b : Advance) (o : Option (Want State)) → asked_want img b ≡ o → (place : ℕ) → task_place s.plain b.unit.0 ≡ Some place → (cut : Cut)
    → (whole_asked (program img) (machine_of (program img) s.plain) s.lines place o).cut ≡ Some cut → IsBlamed img s.plain (Submit b) cut
ask_blame img s b None asked place at cut h = absurd (none-some cut h)
ask_blame img s b (Some w) asked place at cut h = turn_blame img s.plain b w asked place at cut h

-- where the next task doesn't stay, the run has stopped or another entry is due
not_staying : (ended : Option End) (next : Task) (ts : List Task) → is_some ended ≡ true → stays ended (map entry_of (next ∷ ts)) ≡ false
    → (is_some (stopped_after ended) ≡ true) ⊎ (due_after ended ≢ Some next.entry)
not_staying None next ts some h = absurd (both_ways false refl some)
not_staying (Some (end.Next e)) next ts some h = inr (λ same. both_ways (next.entry == e) h (eq-eqb next.entry e (sym (same_Some e next.entry same))))
not_staying (Some (end.Exit code)) next ts some h = inl refl
not_staying (Some (end.Trap number)) next ts some h = inl refl

commit_blame : (img : Image) → IsProgram (program img) → (k accepted epoch by : ℕ) (ts : List Task) (ended : End)
    → IsDue (seq (program img) k).due ts
    → ((x : Running State) → slice_get (runs_of (program img) (seq (program img) k).memory ts) 0 ≡ Some x → x.run.core.done ≡ Some ended)
    → (cut : Cut) → (plain_committed (program img) k ts).cut ≡ Some cut → IsBlamed img (record { commits = k; accepted = accepted; epoch = epoch; tasks = ts }) (Commit by) cut
commit_blame img good k accepted epoch by [] ended due done cut h = absurd (none-some cut h)
commit_blame img good k accepted epoch by (t ∷ ts) ended due done cut h = split (stays r.core.done (map entry_of ts)) refl ts refl h
  where
    p : Program State
    p = program img

    r : Run State
    r = part (program img) t.entry t.turns (seq (program img) k).memory

    s : Plain
    s = record { commits = k; accepted = accepted; epoch = epoch; tasks = t ∷ ts }

    over : r.core.done ≡ Some ended
    over = done (record { task = t; run = r }) refl

    after : seq (program img) (suc k) ≡ followed_by (program img) (seq (program img) k) r
    after = seq_commit (program img) good k t.entry t.turns ended due over

    guessed : (u : Task) (us : List Task) → us ≡ us → stays r.core.done (map entry_of (u ∷ us)) ≡ false
        → (is_some (seq (program img) (suc k)).stopped ≡ true) ⊎ ((seq (program img) (suc k)).due ≢ Some u.entry)
    guessed u us same e =
        subst (λ (q : Seq). (is_some q.stopped ≡ true) ⊎ (q.due ≢ Some u.entry)) (sym after) (not_staying r.core.done u us (ap is_some over) e)

    split : (keep : Bool) → stays r.core.done (map entry_of ts) ≡ keep → (us : List Task) → ts ≡ us → cond keep None (wrong_guess k us) ≡ Some cut → IsBlamed img s (Commit by) cut
    split true e us same h = absurd (none-some cut h)
    split false e [] same h = absurd (none-some cut h)
    split false e (u ∷ us) same h =
        subst (IsBlamed img s (Commit by)) (same_Some _ cut h)
        (inl (record {
          by = by;
          event = refl;
          head = t;
          next = u;
          others = us;
          tasks = ap (λ l. t ∷ l) same;
          wrong = guessed u us refl (ap (λ l. stays r.core.done (map entry_of l)) (sym same) ∙ e);
          cut_at = record { first = refl; tasks = ap (λ l. suc (length l) - 1) (sym same) };
        }))

-- what a check that cuts tells
not_off : (b : Bool) → not b ≡ true → b ≡ false
not_off false h = refl
not_off true h = absurd (both_ways false refl h)

wrong_next : (ended : End) (e : ℕ) (es : List ℕ) → cuts_next ended (e ∷ es) ≡ true → (is_some (stopped_after (Some ended)) ≡ true) ⊎ (due_after (Some ended) ≢ Some e)
wrong_next (end.Next n) e es h = inr (λ same. both_ways (e == n) (not_off (e == n) h) (eq-eqb e n (sym (same_Some n e same))))
wrong_next (end.Exit code) e es h = inl refl
wrong_next (end.Trap number) e es h = inl refl

none_next : (o : Option End) → cuts_after o [] ≡ false
none_next None = refl
none_next (Some x) = refl

misleads : {A : Type 0} (done : A → Option End) (entry : A → ℕ) (xs : List A) (place : ℕ) → cuts_at done entry xs place ≡ true → Misleads done entry xs place
misleads done entry [] place h = absurd (both_ways false refl h)
misleads done entry (x ∷ []) zero h = absurd (both_ways (cuts_after (done x) []) (none_next (done x)) h)
misleads done entry (x ∷ y ∷ xs) zero h = of (done x) refl h
  where
    of : (o : Option End) → done x ≡ o → cuts_after o (entry y ∷ map entry xs) ≡ true → Misleads done entry (x ∷ y ∷ xs) zero
    of None e h = absurd (both_ways false refl h)
    of (Some ended) e h = record { ended = ended; one = x; at = refl; done_is = e; next = y; next_is = refl; wrong = wrong_next ended (entry y) (map entry xs) h }
misleads done entry (x ∷ xs) (suc place) h =
    let r = misleads done entry xs place h in
    record { ended = r.ended; one = r.one; at = r.at; done_is = r.done_is; next = r.next; next_is = r.next_is; wrong = r.wrong }

cancel_blame : (img : Image) (s : Plain) (unit place : ℕ) → task_place s unit ≡ Some place → (cut : Cut) → (plain_cancelled s (Some place)).cut ≡ Some cut → IsBlamed img s (Cancel unit) cut
cancel_blame img s unit place at cut h =
    subst (IsBlamed img s (Cancel unit)) (same_Some _ cut h) (record { unit = unit; event = refl; place = place; at = at; cut_at = record { first = refl; tasks = refl } })

checked_blame : (img : Image) (s : Standing) (b : Advance) (place : ℕ) → task_place s.plain b.unit.0 ≡ Some place → (r : Reply) (cut : Cut) → (r.cut ≡ Some cut → IsBlamed img s.plain (Submit b) cut)
    → (c : Bool) → is_misled (program img) (submit (program img) s.plain place b.local (is_some (asked_want img b))) place ≡ c
    → (reply_after_check c s.plain.commits (length s.plain.tasks) place r).cut ≡ Some cut → IsBlamed img s.plain (Submit b) cut
checked_blame img s b place at r cut turn false e h = turn h
checked_blame img s b place at r cut turn true e h =
    subst (IsBlamed img s.plain (Submit b)) (same_Some _ cut h)
    (inr (record {
      burst = b;
      event = refl;
      place = place;
      at = at;
      misleads = misleads (run_done (program img)) run_entry (running (program img) (submit (program img) s.plain place b.local (is_some (asked_want img b)))) place e;
      cut_at = record { first = refl; tasks = refl };
    }))

-- EVERY CUT of an accepted event
pub blamed : (img : Image) → Given img → (config : Config) (s : Standing) → IsReached img config s → (x : Event) → IsEvent x → refusal_of img config s x ≡ None
    → (cut : Cut) → (reply_to img s x).cut ≡ Some cut → IsBlamed img s.plain x cut
unfolding reply_to plain_reply whole_reply
blamed img given config s reached (Assign unit guess) is ok cut h = absurd (none-some cut h)
blamed img given config s reached (Submit b) is ok cut h =
    let can = can_submit img config s b ok in
    let p : Program State = program img in
    let a : Plain = submit p s.plain can.place b.local (is_some (asked_want img b)) in
    let turn = asked_reply p s.plain s.lines can.place b.local b.end (asked_want img b) (taken img given config s b is can) in
    checked_blame img s b can.place can.at (plain_asked p s.plain s.lines can.place b.local (is_some (asked_want img b))) cut
    (λ e. ask_blame img s b (asked_want img b) refl can.place can.at cut (ap (λ (r : Reply). r.cut) turn ∙ e))
    (is_misled p a can.place) refl
    (ap (λ o. (plain_submitted p s.plain s.lines o b.local (is_some (asked_want img b))).cut) (sym can.at) ∙ h)
blamed img given config s reached (Replace unit a) is ok cut h = absurd (none-some cut h)
blamed img given config s reached (Cancel unit) is ok cut h =
    let can = can_cancel img config s unit ok in
    cancel_blame img s.plain unit can.place can.at cut (ap (λ o. (plain_cancelled s.plain o).cut) (sym can.at) ∙ h)
blamed img given config s reached (Commit by) is ok cut h =
    let done : HasEnded (program img) s.plain = head_ended img given config s (can_commit img config s by ok) in
    commit_blame img given.is_program s.plain.commits s.plain.accepted s.plain.epoch by s.plain.tasks done.end reached.due done.is cut h
