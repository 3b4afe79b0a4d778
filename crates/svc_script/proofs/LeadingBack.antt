-- The script of a legal history leads to it.
use Rattle.std.proofs.Common.{◌≡◌, ◌∙◌, ◌++◌, ◌∷◌, ◌+◌, ◌<◌, ◌≤◌, ◌^◌, [], ℕ, zero, suc, List, Option, Some, None, Bool, true, false, refl, sym, ap, subst, arith, length, map, take, option_map, slice_get, unwrap_or}
use Rattle.std.specs.Prelude.{IfSome, flat_map}
use Rattle.std.specs.List.{AllByRecursion}
use Rattle.std.proofs.lemmas.List.{append-nil, flat_map_more, length-map, take_all}
use Rattle.std.proofs.lemmas.Option.{none-some, same_Some, slice_get-map}
use Rattle.svc_base.specs.declared.config.Config.{Config}
use Rattle.svc_image.specs.Image.{Image, IsImage}
use Rattle.svc_core.specs.declared.burst.Lease.{Lease}
use Rattle.svc_base.specs.declared.ids.UnitId.{UnitId}
use Rattle.svc_core_laws.specs.Bursts.{Advance}
use Rattle.svc_core_laws.specs.State.{State}
use Rattle.svc_core_laws.specs.Words.{program}
use Rattle.svc_machine_laws.specs.PlainMachine.{Plain}
use Rattle.svc_machine_laws.specs.WholeMachine.{Machine, Seat, machine_of, seat_unit}
use Rattle.svc_machine_laws.specs.Refusals.{seat_at}
use Rattle.svc_machine_laws.specs.Events.{Event, seat_place}
use Rattle.svc_machine_laws.specs.Events as event
use Rattle.svc_machine_laws.specs.Standing.{Standing, opened_at, refusal_of, reply_to}
use Rattle.svc_machine_laws.proofs.Given.{given}
use Rattle.svc_machine_laws.proofs.Places.{found}
use Rattle.svc_machine.specs.Reads.{lease_from, lease_of}
use Rattle.svc_history_laws.specs.declared.entry.Entry.{Entry}
use Rattle.svc_history_laws.specs.declared.entry.Kind.{Kind}
use Rattle.svc_history_laws.specs.declared.entry.Kind.TheVariants.{Assign, Submit, Replace, Cancel, Commit}
use Rattle.svc_history_laws.specs.Entries.{entry_of}
use Rattle.svc_history_laws.specs.Histories.{HasEvent}
use Rattle.svc_history_laws.specs.Legal.{Legal, LegalEntry, LegalHistory, after_entry, last, the_arg, the_ask, the_local}
use Rattle.svc_history_laws.specs.Replay.{ReplaysAs}
use Rattle.svc_history_laws.specs.Submissions.{turns_of}
use Rattle.svc_history_laws.proofs.Leases.{has_event}
use Rattle.svc_history_laws.proofs.Replays.{one_replay}
use Rattle.svc_history.specs.Recorded.{IsLegal, Recorded, standing_of}
use Rattle.svc_report.specs.Trace.{HasRow, row_of}
use Rattle.svc_script.specs.declared.script.Step.{Step}
use Rattle.svc_script.specs.declared.playing.Answer.{Answer}
use Rattle.svc_script.specs.declared.playing.Answer.TheVariants as answer
use Rattle.svc_script.specs.Leading.{LeadsBack, LeadsTo, kind_to, script_of, step_to}
use Rattle.svc_script.specs.Script.{HasStepRow, arg_of}
use Rattle.svc_script.specs.Playing.{Accepts, DoesKind, Kept, Play, PlaysTo, Submits, TakesOn, Tries, answer_row}

-- an entry is legal after those before it
entry_legal : (img : Image) (config : Config) (s : Standing) (es : List Entry) (n : ℕ) (e : Entry) → Legal img config s es → slice_get es n ≡ Some e
    → LegalEntry img config (last img s (take n es)) e
unfolding Legal last
entry_legal img config s [] n e legal at = absurd (none-some e at)
entry_legal img config s (x ∷ es) zero e legal at = subst (LegalEntry img config s) (same_Some x e at) legal.0
entry_legal img config s (x ∷ es) (suc n) e legal at = entry_legal img config (after_entry img s x) es n e legal.1 at

take_next : (es : List Entry) (n : ℕ) (e : Entry) → slice_get es n ≡ Some e → take (suc n) es ≡ take n es ++ e ∷ []
take_next [] n e at = absurd (none-some e at)
take_next (x ∷ es) zero e at = ap (λ y. y ∷ []) (same_Some x e at)
take_next (x ∷ es) (suc n) e at = ap (λ l. x ∷ l) (take_next es n e at)

-- the step's event was accepted, and gave this entry
pub record Gave (r : Recorded) (e : Entry) (a : Answer) (next : Recorded) : Type 0 where
  pub answer_is : a ≡ answer.Accepted e
  pub event : Event
  pub accepts : Accepts r event e next

-- an event that isn't refused is accepted when it is tried
gave : (r : Recorded) (x : Event) (e : Entry) (a : Answer) (next : Recorded) → refusal_of r.machine.image r.machine.config (standing_of r) x ≡ None
    → e ≡ entry_of x (reply_to r.machine.image (standing_of r) x) → Tries r x a next → Gave r e a next
gave r x e (answer.Accepted f) next free entry tries =
    let same : f ≡ e = tries.entry ∙ sym entry in
    record { answer_is = ap answer.Accepted same; event = x; accepts = subst (λ (g : Entry). Accepts r x g next) same tries }
gave r x e (answer.Refused why) next free entry tries = absurd (none-some why (sym free ∙ tries.0))
gave r x e (answer.Taken local ask) next free entry tries = absurd tries
gave r x e answer.Nothing next free entry tries = absurd tries

-- what is known of an event of a legal entry
pub record Named (r : Recorded) (e : Entry) (k : Kind) (x : Event) : Type 0 where
  pub legal : IsLegal r
  pub replay : ReplaysAs k r.machine.image (standing_of r).plain e x
  pub free : refusal_of r.machine.image r.machine.config (standing_of r) x ≡ None
  pub entry : e ≡ entry_of x (reply_to r.machine.image (standing_of r) x)

gave_as : (r : Recorded) (x y : Event) (e : Entry) (a : Answer) (next : Recorded) (k : Kind) → Named r e k x → x ≡ y → Tries r y a next → Gave r e a next
gave_as r x y e a next k named same tries =
    gave r y e a next (subst (λ (z : Event). refusal_of r.machine.image r.machine.config (standing_of r) z ≡ None) same named.free)
    (subst (λ (z : Event). e ≡ entry_of z (reply_to r.machine.image (standing_of r) z)) same named.entry) tries

-- the seat of a unit's task is that unit's
pub seat_of_unit : (m : Machine State) (unit : ℕ) (seat : Seat State) → seat_at m unit ≡ Some seat → seat.unit ≡ unit
seat_of_unit m unit seat h = of (seat_place m unit) refl h
  where
    of : (o : Option ℕ) → seat_place m unit ≡ o → unwrap_or (option_map (slice_get m.seats) o) None ≡ Some seat → seat.unit ≡ unit
    of None e k = absurd (none-some seat k)
    of (Some q) e k =
        let at : slice_get (map seat_unit m.seats) q ≡ Some unit = found (map seat_unit m.seats) unit q e in
        same_Some seat.unit unit (sym (slice_get-map seat_unit m.seats q ∙ ap (option_map seat_unit) k) ∙ at)

-- the unit's lease is that of its seat
leased : (r : Recorded) (x : Event) (e : Entry) (named : Named r e Submit x) → lease_of r.machine e.unit.0 ≡ Some (lease_from named.replay.3.seat)
leased r x e named =
    ap (λ (s : Plain). option_map lease_from (seat_at (machine_of (program r.machine.image) s) e.unit.0)) named.legal.here.plain ∙ ap (option_map lease_from) named.replay.3.seat_is

-- a burst by so many turns from the unit's lease is the entry's
burst_replays : (r : Recorded) (x : Event) (e : Entry) (lease : Lease) (b : Advance) → Named r e Submit x → lease_of r.machine e.unit.0 ≡ Some lease
    → TakesOn r.machine.image lease (the_local e + turns_of (the_ask e)) b → ReplaysAs Submit r.machine.image (standing_of r).plain e (event.Submit b)
burst_replays r x e lease b named has takes =
    let one = named.replay.3 in
    let whole : Machine State = machine_of (program r.machine.image) (standing_of r).plain in
    let same : lease ≡ lease_from one.seat = same_Some lease (lease_from one.seat) (sym has ∙ leased r x e named) in (
      named.replay.0,
      named.replay.1,
      b,
      record {
        seat = one.seat;
        seat_is = one.seat_is;
        unit_is = ap (λ (u : UnitId). u.0) (takes.unit ∙ ap (λ (l : Lease). l.unit) same) ∙ seat_of_unit whole e.unit.0 one.seat one.seat_is;
        epoch = takes.epoch ∙ ap (λ (l : Lease). l.epoch) same;
        start = takes.start ∙ ap (λ (l : Lease). l.core) same;
        advance = takes.advance;
      },
      refl,
    )

-- with a lease the submit is the entry's, since its turns determine the burst; and there is one
gave_submit : (r : Recorded) (x : Event) (e : Entry) (a : Answer) (next : Recorded) → Named r e Submit x → (o : Option Lease) → lease_of r.machine e.unit.0 ≡ o
    → Submits o (the_local e + turns_of (the_ask e)) e.unit r a next → Gave r e a next
gave_submit r x e a next named None has submits = absurd (none-some (lease_from named.replay.3.seat) (sym has ∙ leased r x e named))
gave_submit r x e a next named (Some lease) has submits =
    let (b, takes, tries) = submits in
    let there = burst_replays r x e lease b named has takes in
    gave_as r x (event.Submit b) e a next Submit named (one_replay r.machine.image (standing_of r).plain e x (event.Submit b) Submit named.replay there) tries

-- the step that leads to a legal entry gives it
gave_kind : (r : Recorded) (x : Event) (e : Entry) (a : Answer) (next : Recorded) (kept after : Kept) (k : Kind) → Named r e k x → DoesKind (kind_to k e) e.unit r kept a next after → Gave r e a next
gave_kind r x e a next kept after Assign named does = gave_as r x (event.Assign e.unit.0 (the_arg e)) e a next Assign named named.replay.1 does.0
gave_kind r x e a next kept after Submit named does = gave_submit r x e a next named (lease_of r.machine e.unit.0) refl does.0
gave_kind r x e a next kept after Replace named does = gave_as r x (event.Replace e.unit.0 (the_arg e)) e a next Replace named named.replay.1 does.0
gave_kind r x e a next kept after Cancel named does = gave_as r x (event.Cancel e.unit.0) e a next Cancel named named.replay does.0
gave_kind r x e a next kept after Commit named does = gave_as r x (event.Commit e.unit.0) e a next Commit named named.replay does.0

gave_entry : (r : Recorded) (e : Entry) (a : Answer) (next : Recorded) (kept after : Kept) → IsImage r.machine.image → IsLegal r → LegalEntry r.machine.image r.machine.config (standing_of r) e
    → DoesKind (kind_to e.kind e) e.unit r kept a next after → Gave r e a next
gave_entry r e a next kept after image legal entry does =
    let has : HasEvent r.machine.image r.machine.config (standing_of r) e = has_event r.machine.image (given r.machine.image image) r.machine.config (standing_of r) e entry in
    gave_kind r has.event e a next kept after e.kind (record { legal = legal; replay = has.replay; free = has.accepted; entry = has.entry }) does

-- so many steps were done, and gave the first so many entries
pub record Led (start : Play) (es : List Entry) (n : ℕ) (p : Play) : Type 0 where
  pub image : p.run.machine.image ≡ start.run.machine.image
  pub config_is : p.run.machine.config ≡ start.run.machine.config
  pub legal : IsLegal p.run
  pub entries : p.run.entries ≡ take n es
  pub lines : p.text ≡ start.text ++ flat_map row_of (take n es)

one_more : (start : Play) (es : List Entry) (n : ℕ) (before p : Play) (e : Entry) (a : Answer) → slice_get es n ≡ Some e → Led start es n before → Gave before.run e a p.run → p.text ≡ before.text ++ answer_row a
    → Led start es (suc n) p
one_more start es n before p e a at led gave text =
    let more : take (suc n) es ≡ take n es ++ e ∷ [] = take_next es n e at in
    record {
      image = gave.accepts.image ∙ led.image;
      config_is = gave.accepts.config_is ∙ led.config_is;
      legal = gave.accepts.legal;
      entries = gave.accepts.entries ∙ (ap (λ (l : List Entry). l ++ e ∷ []) led.entries ∙ sym more);
      lines =
          text ∙ (ap (λ (b : Answer). before.text ++ answer_row b) gave.answer_is
          ∙ (ap (λ (t : List ℕ). t ++ row_of e) led.lines
          ∙ (flat_map_more row_of start.text (take n es) e ∙ ap (λ (l : List Entry). start.text ++ flat_map row_of l) (sym more))));
    }

module _ (start : Play) (es : List Entry) (image : IsImage start.run.machine.image) (history : LegalHistory start.run.machine.image start.run.machine.config es) (legal : IsLegal start.run) (none_yet : start.run.entries ≡ []) where
  -- the entry there is legal where the steps before it have led
  legal_here : (n : ℕ) (before : Play) (e : Entry) → slice_get es n ≡ Some e → Led start es n before → LegalEntry before.run.machine.image before.run.machine.config (standing_of before.run) e
  legal_here n before e at led =
      rw (led.image, led.config_is, led.entries) (entry_legal start.run.machine.image start.run.machine.config (opened_at start.run.machine.image start.run.machine.config 0) es n e history at)

  led_there : (n : ℕ) (p : Play) → PlaysTo (script_of es) n start p → Led start es n p
  led_there zero p plays =
      rw plays (record { image = refl; config_is = refl; legal = legal; entries = none_yet; lines = sym (append-nil start.text) })
  led_there (suc n) p (before, plays, s, at, (a, does, text)) =
      let led = led_there n before plays in
      let found = entry_at (slice_get es n) refl (sym (slice_get-map step_to es n) ∙ at) in
      let (e, here, same) = found in
      let done : DoesKind (kind_to e.kind e) e.unit before.run before.kept a p.run p.kept = subst (λ (t : Step). DoesKind t.kind t.unit before.run before.kept a p.run p.kept) (sym same) does in
      let there : IsImage before.run.machine.image = subst IsImage (sym led.image) image in
      one_more start es n before p e a here led (gave_entry before.run e a p.run before.kept p.kept there led.legal (legal_here n before e here led) done) text
    where
      entry_at : (o : Option Entry) → slice_get es n ≡ o → option_map step_to o ≡ Some s → (e : Entry) × (slice_get es n ≡ Some e) × (step_to e ≡ s)
      entry_at None here h = absurd (none-some s h)
      entry_at (Some e) here h = (e, here, same_Some (step_to e) s h)

leads_to : (img : Image) → IsImage img → (config : Config) (es : List Entry) → LegalHistory img config es → LeadsTo img config (script_of es) es
leads_to img image config es history start next opened plays =
    let there : LegalHistory start.run.machine.image start.run.machine.config es = rw (opened.image, opened.config_is) history in
    let led = led_there start es (subst IsImage (sym opened.image) image) there opened.legal opened.none_yet (length (script_of es)) next plays in
    let whole : take (length (script_of es)) es ≡ es = ap (λ n. take n es) (length-map es step_to) ∙ take_all (length es) es (omega arith) in
    record { entries = led.entries ∙ whole; lines = led.lines ∙ ap (λ (l : List Entry). start.text ++ flat_map row_of l) whole }

arg_low : (arg : Option ℕ) → IfSome arg (λ n. n < 2 ^ 32) → unwrap_or arg 0 < 2 ^ 32
arg_low None low = omega arith
arg_low (Some n) low = low

turns_low : (local : Option ℕ) (asks : Bool) → IfSome local (λ n. n ≤ 63) → unwrap_or local 0 + turns_of asks < 2 ^ 32
turns_low None true low = omega arith
turns_low None false low = omega arith
turns_low (Some n) true low = omega (arith, low)
turns_low (Some n) false low = omega (arith, low)

step_low : (k : Kind) (e : Entry) → HasRow e → IfSome (arg_of (kind_to k e)) (λ n. n < 2 ^ 32)
step_low Assign e row = arg_low e.arg row.arg
step_low Submit e row = turns_low e.local (the_ask e) row.local
step_low Replace e row = arg_low e.arg row.arg
step_low Cancel e row = tt
step_low Commit e row = tt

steps_low : (es : List Entry) → AllByRecursion HasRow es → AllByRecursion HasStepRow (script_of es)
steps_low [] rows = tt
steps_low (e ∷ es) rows = (record { unit = rows.0.unit; arg = step_low e.kind e rows.0 }, steps_low es rows.1)

pub led_back : (img : Image) → IsImage img → (config : Config) (es : List Entry) → LegalHistory img config es → AllByRecursion HasRow es → LeadsBack img config es
led_back img image config es history rows = record { rows = steps_low es rows; leads = leads_to img image config es history }
