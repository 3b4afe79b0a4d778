-- The cut of each entry of a legal history has its blame.
use Rattle.std.proofs.Common.{inl, inr, ℕ, suc, ◌≡◌, length, is_some, List, Option, Some, None, refl, sym, ap, ◌∙◌, subst, option_map, slice_get, take}
use Rattle.svc_base.specs.declared.config.Config.{Config}
use Rattle.svc_base.specs.declared.ids.WordAddr.{WordAddr}
use Rattle.svc_base.specs.declared.served.Served.{Served}
use Rattle.svc_image.specs.Image.{Image}
use Rattle.svc_core_laws.specs.State.{State}
use Rattle.svc_core_laws.specs.Program.{Memory, Program, Want, Local, Load, Store, Narrow, Emit}
use Rattle.svc_core_laws.specs.Words.{program}
use Rattle.svc_core_laws.specs.Bursts.{Advance}
use Rattle.svc_machine_laws.specs.declared.reply.What.{What}
use Rattle.svc_machine_laws.specs.declared.reply.Cause.{Cause}
use Rattle.svc_machine_laws.specs.declared.reply.Cause.TheVariants as cause
use Rattle.svc_machine_laws.specs.declared.reply.Cut.{Cut}
use Rattle.svc_machine_laws.specs.declared.reply.Reply.{Reply}
use Rattle.svc_bus_laws.specs.LineTable.{LineTable}
use Rattle.svc_machine_laws.specs.PlainMachine.{Plain, running, run_done, run_entry, submit}
use Rattle.svc_machine_laws.specs.WholeMachine as whole
use Rattle.svc_machine_laws.specs.WholeMachine.{Machine, is_misled, machine_of, memory_seen}
use Rattle.svc_machine_laws.specs.Events.{Event, IsEvent, Submit, task_place, asked_want}
use Rattle.svc_machine_laws.specs.Replies.{turn_done, serves_at, whole_asked, whole_submitted, whole_reply, plain_reply}
use Rattle.svc_machine_laws.specs.Standing.{Standing, opened_at, refusal_of, reply_to}
use Rattle.svc_machine_laws.specs.Reached.{IsReached}
use Rattle.svc_machine_laws.specs.Blame.{Writes, IsCutAt, IsBlamedOn, Misleads}
use Rattle.svc_machine_laws.proofs.Given.{Given}
use Rattle.svc_machine_laws.proofs.Accepted.{can_submit, seat_places}
use Rattle.svc_machine_laws.proofs.Answering.{reply_is}
use Rattle.svc_machine_laws.proofs.Blames.{blamed}
use Rattle.svc_machine_laws.proofs.TaskLogs.{checked_what}
use Rattle.svc_history_laws.specs.declared.entry.ReplyKind.TheVariants as reply
use Rattle.svc_history_laws.specs.declared.entry.Entry.{Entry}
use Rattle.svc_history_laws.specs.Entries.{entry_of, entry_asking, reply_told, address_told, why_cut, cause_of, first_of, count_of}
use Rattle.svc_history_laws.specs.Legal.{the_ask, the_local, LegalHistory, LegalEntry, led_to}
use Rattle.svc_history_laws.specs.Causes.{CutsFrom, HasCause, CutsBy, IsBlamed}
use Rattle.svc_history_laws.specs.Histories.{HasEvent}
use Rattle.svc_history_laws.proofs.Leases.{has_event}
use Rattle.svc_history_laws.proofs.Legality.{wants_where_asks}
use Rattle.svc_history_laws.proofs.Histories.{Stands, stands, tallies}

-- the check of a guess leaves what a submit is answered
pub submitted_what : (p : Program State) (m : Machine State) (t : LineTable) (place : ℕ) (end : State) (w : Option (Want State)) → (whole_submitted p m t (Some place) end w).what ≡ (whole_asked p m t place w).what
submitted_what p m t place end w = checked_what (is_misled p (whole.submit m place end w).seats place) m.versioned.commits (length m.seats) place (whole_asked p m t place w)

-- what a turn that writes is answered
record IsStored (a : ℕ) (w : What) : Type 0 where
  told : reply_told w ≡ reply.Stored
  address : address_told w ≡ Some (record { 0 = a })

write_stored : (p : Program State) (w : Want State) (a : ℕ) (look : Memory) (serves : ℕ → Served) → Writes w a → IsStored a (turn_done p w look serves)
write_stored p (Local c) a look serves h = absurd h
write_stored p (Load b value go) a look serves h = absurd h
write_stored p (Store b v c) a look serves h = record { told = refl; address = ap (λ (x : ℕ). let y : WordAddr = record { 0 = x } in Some y) h }
write_stored p (Narrow b f c) a look serves h = record { told = refl; address = ap (λ (x : ℕ). let y : WordAddr = record { 0 = x } in Some y) h }
write_stored p (Emit v c) a look serves h = absurd h

stored : (img : Image) → Given img → (config : Config) (s : Standing) (b : Advance) → IsEvent (Submit b) → refusal_of img config s (Submit b) ≡ None
    → (w : Want State) → asked_want img b ≡ Some w → (a : ℕ) → Writes w a → IsStored a (reply_to img s (Submit b)).what
unfolding reply_to plain_reply whole_reply
stored img given config s b is ok w asked a wrote =
    let p : Program State = program img in
    let can = can_submit img config s b ok in
    let place = seat_places img config s b.unit.0 ∙ can.at in
    let answer =
    ap (λ o. (whole_asked p (machine_of p s.plain) s.lines can.place o).what) (sym asked)
    ∙ sym (submitted_what p (machine_of p s.plain) s.lines can.place b.end (asked_want img b))
    ∙ ap (λ o. (whole_submitted p (machine_of p s.plain) s.lines o b.end (asked_want img b)).what) (sym place)
    ∙ ap (λ (r : Reply). r.what) (reply_is img given config s (Submit b) is ok) in
    subst (IsStored a) answer (write_stored p w a (memory_seen (machine_of p s.plain).versioned can.place) (serves_at s.lines can.place) wrote)

module _ (img : Image) (given : Given img) (config : Config) (s : Standing) (reached : IsReached img config s) (x : Event) (is : IsEvent x) (ok : refusal_of img config s x ≡ None) where
  abbrev r : Reply
  r = reply_to img s x

  abbrev e : Entry
  e = entry_of x r

  cuts_from : (cut : Cut) (place : ℕ) → r.cut ≡ Some cut → IsCutAt s.plain cut place → CutsFrom s.plain e place
  unfolding entry_of
  cuts_from cut place h at = record { first = ap (option_map first_of) h ∙ ap Some at.first; squashed = ap (option_map count_of) h ∙ ap Some at.tasks }

  caused : (cut : Cut) → r.cut ≡ Some cut → (c : Cause) → IsBlamedOn img s.plain x cut c → HasCause (why_cut c) img s.plain e
  unfolding entry_of
  caused cut h (cause.Violation a) b =
      let there : IsStored a.0 r.what =
      subst (λ (y : Event). IsEvent y → refusal_of img config s y ≡ None → IsStored a.0 (reply_to img s y).what) (sym b.event)
      (λ its accepted. stored img given config s b.burst its accepted b.want b.asked a.0 b.wrote) is ok in
      record {
        kind = ap (λ (y : Event). (entry_asking y).kind) b.event;
        reply = there.told;
        word = a;
        address = there.address;
        place = b.place;
        at = ap (λ (y : Event). task_place s.plain (entry_asking y).unit.0) b.event ∙ b.at;
        victim = b.victim;
        is_victim = b.is_victim;
        cuts = cuts_from cut b.victim h b.cut_at;
      }
  caused cut h cause.WrongGuess (inl b) = inl (record {
    kind = ap (λ (y : Event). (entry_asking y).kind) b.event;
    head = b.head;
    next = b.next;
    others = b.others;
    tasks = b.tasks;
    wrong = b.wrong;
    cuts = cuts_from cut 1 h b.cut_at;
  })
  caused cut h cause.WrongGuess (inr b) =
      let p : Program State = program img in
      let turned : Plain = submit p s.plain b.place b.burst.local (is_some (asked_want img b.burst)) in
      let same : turned ≡ submit p s.plain b.place (the_local e) (the_ask e) =
      ap (submit p s.plain b.place b.burst.local) (wants_where_asks img b.burst)
      ∙ sym (ap (λ (y : Event). submit p s.plain b.place (the_local (entry_asking y)) (the_ask (entry_asking y))) b.event) in
      inr (record {
        kind = ap (λ (y : Event). (entry_asking y).kind) b.event;
        place = b.place;
        at = ap (λ (y : Event). task_place s.plain (entry_asking y).unit.0) b.event ∙ b.at;
        misleads = subst (λ (n : Plain). Misleads (run_done p) run_entry (running p n) b.place) same b.misleads;
        cuts = cuts_from cut (suc b.place) h b.cut_at;
      })
  caused cut h cause.Cancelled b = record {
    kind = ap (λ (y : Event). (entry_asking y).kind) b.event;
    place = b.place;
    at = ap (λ (y : Event). task_place s.plain (entry_asking y).unit.0) b.event ∙ b.at;
    cuts = cuts_from cut b.place h b.cut_at;
  }

  event_blamed : IsBlamed img s.plain e
  unfolding entry_of
  event_blamed = of r.cut refl
    where
      of : (o : Option Cut) → r.cut ≡ o → CutsBy (option_map cause_of r.cut) img s.plain e
      of None h = subst (λ o. CutsBy (option_map cause_of o) img s.plain e) (sym h) (ap (option_map first_of) h, ap (option_map count_of) h)
      of (Some cut) h = subst (λ o. CutsBy (option_map cause_of o) img s.plain e) (sym h) (caused cut h cut.cause (blamed img given config s reached x is ok cut h))

entry_blamed : (img : Image) → Given img → (config : Config) (s : Standing) → IsReached img config s → (e : Entry) → LegalEntry img config s e → IsBlamed img s.plain e
entry_blamed img given config s reached e legal =
    let x : HasEvent img config s e = has_event img given config s e legal in
    subst (IsBlamed img s.plain) (sym x.entry) (event_blamed img given config s reached x.event x.is x.accepted)

-- EACH ENTRY of a legal history
pub is_blamed : (img : Image) → Given img → (config : Config) (es : List Entry) → LegalHistory img config es → (i : ℕ) (e : Entry) → slice_get es i ≡ Some e → IsBlamed img (led_to img config (take i es)).plain e
is_blamed img given config es legal i e at =
    let st : Stands img config (opened_at img config 0) es i e = stands img config (opened_at img config 0) es i e legal at in
    entry_blamed img given config (led_to img config (take i es)) (tallies img given config (take i es) st.before).reached e st.here
