-- What the step that leads to an entry comes to, and traces whose suppliers aren't compared.
use Rattle.std.proofs.Common.{◌≡◌, ◌⊎◌, ◌∙◌, ◌++◌, ◌∷◌, ◌+◌, ◌<◌, ◌&&◌, [], ℕ, zero, suc, List, Option, Some, None, Bool, true, false, refl, sym, ap, subst, arith, add-one, length, take, option_map, slice_get, unwrap_or, is_some, inl, inr}
use Rattle.std.proofs.lemmas.Option.{none-some, same_Some}
use borrow.Author.Tests.{both_ways}
use Rattle.svc_base.specs.declared.config.Config.{Config}
use Rattle.svc_base.specs.declared.ids.UnitId.{UnitId}
use Rattle.svc_base.specs.declared.refusal.Refusal.{Refusal}
use Rattle.svc_image.specs.Image.{Image, IsImage}
use Rattle.svc_core.specs.declared.burst.Lease.{Lease}
use Rattle.svc_core_laws.specs.Bursts.{Advance}
use Rattle.svc_core_laws.specs.State.{State}
use Rattle.svc_core_laws.specs.Words.{program}
use Rattle.svc_machine_laws.specs.PlainMachine.{Plain}
use Rattle.svc_machine_laws.specs.WholeMachine.{Machine, Seat, machine_of}
use Rattle.svc_machine_laws.specs.Refusals.{seat_at}
use Rattle.svc_machine_laws.specs.Events.{Event}
use Rattle.svc_machine_laws.specs.Events as event
use Rattle.svc_machine_laws.specs.Standing.{Standing, opened_at, refusal_of, reply_to}
use Rattle.svc_machine_laws.proofs.Given.{given}
use Rattle.svc_machine.specs.Reads.{lease_from, lease_of}
use Rattle.svc_history_laws.specs.declared.entry.Entry.{Entry}
use Rattle.svc_history_laws.specs.declared.entry.Kind.{Kind}
use Rattle.svc_history_laws.specs.declared.entry.Kind.TheVariants.{Assign, Submit, Replace, Cancel, Commit}
use Rattle.svc_history_laws.specs.Entries.{entry_of}
use Rattle.svc_history_laws.specs.Histories.{HasEvent}
use Rattle.svc_history_laws.specs.Legal.{Legal, LegalEntry, LegalHistory, LegalKind, after_entry, last, led_to, the_arg, the_ask, the_local}
use Rattle.svc_history_laws.specs.Replay.{IsBurstOf, IsRefusedThere, IsReplay, ReplaysAs}
use Rattle.svc_history_laws.specs.Submissions.{submission, turns_of}
use Rattle.svc_history_laws.proofs.Leases.{has_event}
use Rattle.svc_history_laws.proofs.Replays.{legal_agrees, one_replay}
use Rattle.svc_history.specs.Recorded.{IsLegal, Recorded, standing_of}
use Rattle.svc_history.specs.declared.trace.TraceFaultKind.{TraceFaultKind}
use Rattle.svc_history.specs.declared.trace.TraceFaultKind.TheVariants as fault
use Rattle.svc_script.specs.declared.playing.Answer.{Answer}
use Rattle.svc_script.specs.declared.playing.Answer.TheVariants as answer
use Rattle.svc_script.specs.Leading.{kind_to}
use Rattle.svc_script.specs.Playing.{Accepts, DoesKind, Kept, Submits, TakesOn, Tries, no_task}
use Rattle.svc_script.specs.Suppliers.{AllAlike, AreAlike, DiffersElsewhere, Follows, IsFaultOfRestAt, IsFirstWrong, IsSoundWith, IsWrongElsewhere, has_numbers, supplied_as}
use Rattle.svc_script.proofs.LeadingBack.{seat_of_unit}

-- ---- what a step's answer says of the entry

and_true : (x y : Bool) → x ≡ true → y ≡ true → (x && y) ≡ true
and_true true y p q = q
and_true false y p q = absurd (both_ways false refl p)

both_true : (x y : Bool) → (x && y) ≡ true → (x ≡ true) × (y ≡ true)
both_true true y h = (refl, h)
both_true false y h = absurd (both_ways false refl h)

-- an event that an entry names has the numbers that it needs
numbered : (k : Kind) (img : Image) (s : Plain) (e : Entry) (x : Event) → ReplaysAs k img s e x → has_numbers k e ≡ true
numbered Assign img s e x replay = replay.0
numbered Submit img s e x replay = and_true (is_some e.local) (is_some e.ask) replay.0 replay.1
numbered Replace img s e x replay = replay.0
numbered Cancel img s e x replay = refl
numbered Commit img s e x replay = refl

-- an entry without them names no event
pub wrong_numbers : (r : Recorded) (e : Entry) → has_numbers e.kind e ≡ false → IsWrongElsewhere r e fault.Refused
wrong_numbers r e none x replay = absurd (both_ways (has_numbers e.kind e) none (numbered e.kind r.machine.image (standing_of r).plain e x replay))

-- the event was tried, and this is the entry's
pub record Tried (r : Recorded) (e : Entry) (k : Kind) (a : Answer) (next : Recorded) : Type 0 where
  pub event : Event
  pub replay : ReplaysAs k r.machine.image (standing_of r).plain e event
  pub tries : Tries r event a next

-- a unit with a lease has a task
seat_from : (o : Option (Seat State)) (lease : Lease) → option_map lease_from o ≡ Some lease → (seat : Seat State) × (o ≡ Some seat) × (lease_from seat ≡ lease)
seat_from None lease h = absurd (none-some lease h)
seat_from (Some seat) lease h = (seat, refl, same_Some (lease_from seat) lease h)

burst_is : (r : Recorded) (e : Entry) (lease : Lease) (b : Advance) → IsLegal r → lease_of r.machine e.unit.0 ≡ Some lease
    → TakesOn r.machine.image lease (the_local e + turns_of (the_ask e)) b → IsBurstOf r.machine.image (standing_of r).plain e.unit.0 (the_local e + turns_of (the_ask e)) b
burst_is r e lease b legal has takes =
    let whole : Machine State = machine_of (program r.machine.image) (standing_of r).plain in
    let there : option_map lease_from (seat_at whole e.unit.0) ≡ Some lease =
    ap (λ (s : Plain). option_map lease_from (seat_at (machine_of (program r.machine.image) s) e.unit.0)) (sym legal.here.plain) ∙ has in
    let from = seat_from (seat_at whole e.unit.0) lease there in
    record {
      seat = from.0;
      seat_is = from.1;
      unit_is = ap (λ (u : UnitId). u.0) (takes.unit ∙ ap (λ (l : Lease). l.unit) (sym from.2)) ∙ seat_of_unit whole e.unit.0 from.0 from.1;
      epoch = takes.epoch ∙ ap (λ (l : Lease). l.epoch) (sym from.2);
      start = takes.start ∙ ap (λ (l : Lease). l.core) (sym from.2);
      advance = takes.advance;
    }

-- a unit without a lease has none, and so no burst of an entry's
no_burst : (r : Recorded) (e : Entry) (x : Event) → IsLegal r → lease_of r.machine e.unit.0 ≡ None → ReplaysAs Submit r.machine.image (standing_of r).plain e x → ⊥
no_burst r e x legal none replay =
    let seat = replay.3.seat in
    let there = ap (λ (s : Plain). option_map lease_from (seat_at (machine_of (program r.machine.image) s) e.unit.0)) legal.here.plain in
    none-some (lease_from seat) (sym none ∙ (there ∙ ap (option_map lease_from) replay.3.seat_is))

-- the step's event was the entry's, or there was none and it was refused
abbrev pub Did : Recorded → Entry → Kind → Answer → Recorded → Type 0
Did r e k a next = Tried r e k a next ⊎ ((a ≡ answer.Refused (no_task r e.unit)) × ((x : Event) → ReplaysAs k r.machine.image (standing_of r).plain e x → ⊥))

did_submit : (r : Recorded) (e : Entry) (a : Answer) (next : Recorded) → IsLegal r → has_numbers Submit e ≡ true → (o : Option Lease) → lease_of r.machine e.unit.0 ≡ o
    → Submits o (the_local e + turns_of (the_ask e)) e.unit r a next → Did r e Submit a next
did_submit r e a next legal is None has submits = inr (submits.0, λ x replay. no_burst r e x legal has replay)
did_submit r e a next legal is (Some lease) has (b, takes, tries) =
    let numbers = both_true (is_some e.local) (is_some e.ask) is in
    inl (record { event = event.Submit b; replay = (numbers.0, numbers.1, b, burst_is r e lease b legal has takes, refl); tries = tries })

pub did : (k : Kind) (r : Recorded) (e : Entry) (a : Answer) (next : Recorded) (kept after : Kept) → IsLegal r → has_numbers k e ≡ true → DoesKind (kind_to k e) e.unit r kept a next after → Did r e k a next
did Assign r e a next kept after legal is does = inl (record { event = event.Assign e.unit.0 (the_arg e); replay = (is, refl); tries = does.0 })
did Submit r e a next kept after legal is does = did_submit r e a next legal is (lease_of r.machine e.unit.0) refl does.0
did Replace r e a next kept after legal is does = inl (record { event = event.Replace e.unit.0 (the_arg e); replay = (is, refl); tries = does.0 })
did Cancel r e a next kept after legal is does = inl (record { event = event.Cancel e.unit.0; replay = refl; tries = does.0 })
did Commit r e a next kept after legal is does = inl (record { event = event.Commit e.unit.0; replay = refl; tries = does.0 })

-- an accepted event gives this entry
pub record Found (r : Recorded) (e found : Entry) (next : Recorded) : Type 0 where
  pub event : Event
  pub replay : IsReplay r.machine.image (standing_of r).plain e event
  pub accepts : Accepts r event found next

pub found_by : (r : Recorded) (e found : Entry) (next : Recorded) (kept after : Kept) → IsLegal r → has_numbers e.kind e ≡ true → DoesKind (kind_to e.kind e) e.unit r kept (answer.Accepted found) next after → Found r e found next
found_by r e found next kept after legal is does = of (did e.kind r e (answer.Accepted found) next kept after legal is does)
  where
    of : Did r e e.kind (answer.Accepted found) next → Found r e found next
    of (inl tried) = record { event = tried.event; replay = tried.replay; accepts = tried.tries }
    of (inr (is, none)) = absurd (cc is)

-- any other answer says that the entry's event is refused
other_answer : (r : Recorded) (e : Entry) (a : Answer) (next : Recorded) → ((f : Entry) → a ≡ answer.Accepted f → ⊥) → Did r e e.kind a next → IsWrongElsewhere r e fault.Refused
other_answer r e (answer.Accepted f) next not tried = absurd (not f refl)
other_answer r e (answer.Refused why) next not (inl tried) = λ x replay.
    ap is_some (ap (refusal_of r.machine.image r.machine.config (standing_of r)) (one_replay r.machine.image (standing_of r).plain e x tried.event e.kind replay tried.replay) ∙ tried.tries.0)
other_answer r e (answer.Taken local ask) next not (inl tried) = absurd tried.tries
other_answer r e answer.Nothing next not (inl tried) = absurd tried.tries
other_answer r e a next not (inr (is, none)) = λ x replay. absurd (none x replay)

pub wrong_answer : (r : Recorded) (e : Entry) (a : Answer) (next : Recorded) (kept after : Kept) → IsLegal r → has_numbers e.kind e ≡ true → DoesKind (kind_to e.kind e) e.unit r kept a next after
    → ((f : Entry) → a ≡ answer.Accepted f → ⊥) → IsWrongElsewhere r e fault.Refused
wrong_answer r e a next kept after legal is does not = other_answer r e a next not (did e.kind r e a next kept after legal is does)

pub follows : (r : Recorded) (e found : Entry) (next : Recorded) → Found r e found next → AreAlike found e → Follows r e next
follows r e found next is alike = record { found = found; alike = alike; legal = is.accepts.legal; entries = is.accepts.entries }

pub wrong_elsewhere : (r : Recorded) (e found : Entry) (next : Recorded) → Found r e found next → (AreAlike found e → ⊥) → IsWrongElsewhere r e fault.Differs
wrong_elsewhere r e found next is other = record {
  event = is.event;
  replay = is.replay;
  accepted = is.accepts.admitted;
  entry = λ alike. other (subst (λ (f : Entry). AreAlike f e) (sym is.accepts.entry) alike);
}

-- ---- entries that are alike

-- an event is that of an entry and of one that is alike
same_replay : (k : Kind) (img : Image) (s : Plain) (e f : Entry) (x : Event) → ReplaysAs k img s (supplied_as e f) x → ReplaysAs k img s e x
same_replay Assign img s e f x replay = replay
same_replay Submit img s e f x replay = replay
same_replay Replace img s e f x replay = replay
same_replay Cancel img s e f x replay = replay
same_replay Commit img s e f x replay = replay

as_replay : (k : Kind) (img : Image) (s : Plain) (e f : Entry) (x : Event) → ReplaysAs k img s e x → ReplaysAs k img s (supplied_as e f) x
as_replay Assign img s e f x replay = replay
as_replay Submit img s e f x replay = replay
as_replay Replace img s e f x replay = replay
as_replay Cancel img s e f x replay = replay
as_replay Commit img s e f x replay = replay

module _ (img : Image) (config : Config) where
  -- the entry of these fields of an event
  made : Standing → Kind → UnitId → (arg local : Option ℕ) → (ask : Option Bool) → Entry
  made s Assign unit arg local ask = entry_of (event.Assign unit.0 (unwrap_or arg 0)) (reply_to img s (event.Assign unit.0 (unwrap_or arg 0)))
  made s Submit unit arg local ask = submission img s unit (unwrap_or local 0) (unwrap_or ask false)
  made s Replace unit arg local ask = entry_of (event.Replace unit.0 (unwrap_or arg 0)) (reply_to img s (event.Replace unit.0 (unwrap_or arg 0)))
  made s Cancel unit arg local ask = entry_of (event.Cancel unit.0) (reply_to img s (event.Cancel unit.0))
  made s Commit unit arg local ask = entry_of (event.Commit unit.0) (reply_to img s (event.Commit unit.0))

  made_so : (s : Standing) (k : Kind) (a : Entry) → LegalKind k img config s a → a ≡ made s k a.unit a.arg a.local a.ask
  unfolding made entry_of
  made_so s Assign a legal = legal.1
  made_so s Submit a legal = legal.entry
  made_so s Replace a legal = legal.1
  made_so s Cancel a legal = legal.1
  made_so s Commit a legal = legal.1

  made_of : (s : Standing) (a e : Entry) → AreAlike a e → LegalEntry img config s a → a ≡ made s e.kind e.unit e.arg e.local e.ask
  unfolding LegalEntry
  made_of s a e alike legal = made_so s a.kind a legal ∙ ap (λ (x : Entry). made s x.kind x.unit x.arg x.local x.ask) alike

  -- a legal entry is determined by one that it is like
  one_entry : (s : Standing) (a b e : Entry) → AreAlike a e → AreAlike b e → LegalEntry img config s a → LegalEntry img config s b → a ≡ b
  one_entry s a b e as_a as_b legal_a legal_b = made_of s a e as_a legal_a ∙ sym (made_of s b e as_b legal_b)

  one_history : (s : Standing) (fs gs es : List Entry) → AllAlike fs es → AllAlike gs es → Legal img config s fs → Legal img config s gs → fs ≡ gs
  unfolding Legal
  one_history s [] [] [] p q legal_f legal_g = refl
  one_history s (f ∷ fs) (g ∷ gs) (e ∷ es) p q legal_f legal_g =
      let same : f ≡ g = one_entry s f g e p.0 q.0 legal_f.0 legal_g.0 in
      let rest : Legal img config (after_entry img s f) gs = subst (λ (x : Entry). Legal img config (after_entry img s x) gs) (sym same) legal_g.1 in
      (λ i. same i ∷ one_history (after_entry img s f) fs gs es p.1 q.1 legal_f.1 rest i)
  one_history s [] (g ∷ gs) [] p q legal_f legal_g = absurd q
  one_history s (f ∷ fs) [] [] p q legal_f legal_g = absurd p
  one_history s (f ∷ fs) (g ∷ gs) [] p q legal_f legal_g = absurd p
  one_history s [] gs (e ∷ es) p q legal_f legal_g = absurd p
  one_history s (f ∷ fs) [] (e ∷ es) p q legal_f legal_g = absurd q

  -- an entry that is alike isn't legal there, since the event is refused
  not_refused : (s : Standing) (f e : Entry) → IsImage img → AreAlike f e → LegalEntry img config s f → IsRefusedThere img config s e → ⊥
  not_refused s f e is alike legal refuses =
      let has : HasEvent img config s f = has_event img (given img is) config s f legal in
      let there : ReplaysAs e.kind img s.plain (supplied_as e f) has.event = subst (λ (x : Entry). ReplaysAs x.kind img s.plain x has.event) alike has.replay in
      both_ways (is_some (refusal_of img config s has.event)) (ap is_some has.accepted) (refuses has.event (same_replay e.kind img s.plain e f has.event there))

  -- nor where the event has another entry
  not_other : (s : Standing) (f e : Entry) → AreAlike f e → LegalEntry img config s f → DiffersElsewhere img config s e → ⊥
  not_other s f e alike legal differs =
      let there : IsReplay img s.plain f differs.event =
      subst (λ (x : Entry). ReplaysAs x.kind img s.plain x differs.event) (sym alike) (as_replay e.kind img s.plain e f differs.event differs.replay) in
      differs.entry (subst (λ (x : Entry). AreAlike x e) (legal_agrees img config s f differs.event legal there).entry alike)

  -- the last of some entries, and those before it
  pub record Parted (es : List Entry) (n : ℕ) (e : Entry) (fs : List Entry) : Type 0 where
    pub front : List Entry
    pub end : Entry
    pub whole : fs ≡ front ++ end ∷ []
    pub alike_front : AllAlike front (take n es)
    pub alike : AreAlike end e

  parted : (es : List Entry) (n : ℕ) (e : Entry) (fs : List Entry) → slice_get es n ≡ Some e → AllAlike fs (take (suc n) es) → Parted es n e fs
  parted [] n e fs at p = absurd (none-some e at)
  parted (x ∷ es) zero e [] at p = absurd p
  parted (x ∷ es) zero e (f ∷ []) at p = record { front = []; end = f; whole = refl; alike_front = tt; alike = subst (AreAlike f) (same_Some x e at) p.0 }
  parted (x ∷ es) zero e (f ∷ g ∷ fs) at p = absurd p.1
  parted (x ∷ es) (suc n) e [] at p = absurd p
  parted (x ∷ es) (suc n) e (f ∷ fs) at p =
      let rest = parted es n e fs at p.1 in
      record { front = f ∷ rest.front; end = rest.end; whole = ap (λ l. f ∷ l) rest.whole; alike_front = (p.0, rest.alike_front); alike = rest.alike }

  legal_parts : (s : Standing) (fs : List Entry) (f : Entry) → Legal img config s (fs ++ f ∷ []) → Legal img config s fs × LegalEntry img config (last img s fs) f
  unfolding Legal last
  legal_parts s [] f legal = (tt, legal.0)
  legal_parts s (g ∷ fs) f legal = let rest = legal_parts (after_entry img s g) fs f legal.1 in ((legal.0, rest.0), rest.1)

  -- if no entry that is alike is legal where those before it lead, no suppliers make the front sound
  unsound : (es found : List Entry) (n : ℕ) (e : Entry) → slice_get es n ≡ Some e → IsSoundWith img config (take n es) found
      → ((f : Entry) → AreAlike f e → LegalEntry img config (led_to img config found) f → ⊥) → (other : List Entry) → IsSoundWith img config (take (n + 1) es) other → ⊥
  unsound es found n e at before none other whole =
      let parts = parted es n e other at (subst (λ (k : ℕ). AllAlike other (take k es)) (add-one n) whole.alike) in
      let legal = legal_parts (opened_at img config 0) parts.front parts.end (subst (LegalHistory img config) parts.whole whole.legal) in
      let same : parts.front ≡ found = one_history (opened_at img config 0) parts.front found (take n es) parts.alike_front before.alike legal.0 before.legal in
      none parts.end parts.alike (subst (λ (fs : List Entry). LegalEntry img config (led_to img config fs) parts.end) same legal.1)

  -- what is wrong with the entry there is the fault of the trace
  pub fault_there : IsImage img → (r : Recorded) (es : List Entry) (n : ℕ) (e : Entry) (k : TraceFaultKind) → r.machine.image ≡ img → r.machine.config ≡ config → slice_get es n ≡ Some e
      → IsSoundWith img config (take n es) r.entries → IsWrongElsewhere r e k → IsFaultOfRestAt img config es n k
  fault_there is r es n e fault.Memory image config_is at before wrong = absurd wrong
  fault_there is r es n e fault.Refused image config_is at before wrong =
      let there : IsRefusedThere img config (led_to img config r.entries) e = rw (image, config_is) at wrong in
      record {
        found = r.entries;
        before = before;
        entry = e;
        there = at;
        wrong = there;
        faulty = unsound es r.entries n e at before (λ f alike legal. not_refused (led_to img config r.entries) f e is alike legal there);
      }
  fault_there is r es n e fault.Differs image config_is at before wrong =
      let there : DiffersElsewhere img config (led_to img config r.entries) e = rw (image, config_is) at wrong in
      record {
        found = r.entries;
        before = before;
        entry = e;
        there = at;
        wrong = there;
        faulty = unsound es r.entries n e at before (λ f alike legal. not_other (led_to img config r.entries) f e alike legal there);
      }

-- ---- one entry after another

alike_more : (fs es : List Entry) (f e : Entry) → AllAlike fs es → AreAlike f e → AllAlike (fs ++ f ∷ []) (es ++ e ∷ [])
alike_more [] [] f e p q = (q, tt)
alike_more (g ∷ fs) (d ∷ es) f e p q = (p.0, alike_more fs es f e p.1 q)
alike_more [] (d ∷ es) f e p q = absurd p
alike_more (g ∷ fs) [] f e p q = absurd p

take_next : (es : List Entry) (n : ℕ) (e : Entry) → slice_get es n ≡ Some e → take (suc n) es ≡ take n es ++ e ∷ []
take_next [] n e at = absurd (none-some e at)
take_next (x ∷ es) zero e at = ap (λ y. y ∷ []) (same_Some x e at)
take_next (x ∷ es) (suc n) e at = ap (λ l. x ∷ l) (take_next es n e at)

pub one_more_alike : (es : List Entry) (n : ℕ) (r : Recorded) (e : Entry) (next : Recorded) → slice_get es n ≡ Some e → AllAlike r.entries (take n es) → Follows r e next → AllAlike next.entries (take (n + 1) es)
one_more_alike es n r e next at before follows =
    let more : AllAlike (r.entries ++ follows.found ∷ []) (take n es ++ e ∷ []) = alike_more r.entries (take n es) follows.found e before follows.alike in
    let ends : AllAlike next.entries (take n es ++ e ∷ []) = subst (λ (fs : List Entry). AllAlike fs (take n es ++ e ∷ [])) (sym follows.entries) more in
    subst (λ (k : ℕ). AllAlike next.entries (take k es)) (sym (add-one n)) (subst (AllAlike next.entries) (sym (take_next es n e at)) ends)

-- the replayed entries of a recorder are a legal history
pub sound_so : (img : Image) (config : Config) (r : Recorded) (es : List Entry) → IsLegal r → r.machine.image ≡ img → r.machine.config ≡ config → AllAlike r.entries es → IsSoundWith img config es r.entries
sound_so img config r es legal image config_is alike = record { alike = alike; legal = rw (image, config_is) at legal.legal }
