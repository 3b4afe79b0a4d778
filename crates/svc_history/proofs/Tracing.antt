-- What a replay tells of an entry of a trace.
use Rattle.std.proofs.Common.{ℕ, ◌≡◌, ◌+◌, Bool, true, false, Option, Some, None, refl, sym, ap, ◌∙◌, subst, is_some, option_map, unwrap_or, slice_get, get_or, map, arith, zero, suc, ◌<◌, List, [], ◌∷◌, ◌++◌, length, take}
use Rattle.std.proofs.lemmas.Option.{none-some, same_Some, slice_get-map}
use mir.Val.{bool_byte}
use Rattle.svc_base.specs.declared.ids.UnitId.{UnitId}
use Rattle.svc_base.specs.declared.refusal.Refusal.{Refusal}
use Rattle.svc_base.specs.declared.config.Config.{Config}
use Rattle.svc_image.specs.Image.{Image}
use Rattle.svc_core.specs.declared.burst.Lease.{Lease}
use Rattle.svc_core_laws.specs.State.{State}
use Rattle.svc_core_laws.specs.Bursts.{Advance, IsAdvance}
use Rattle.svc_core_laws.specs.Words.{program}
use Rattle.svc_machine_laws.specs.PlainMachine.{Plain}
use Rattle.svc_machine_laws.specs.WholeMachine.{Machine, Seat, machine_of, seat_unit}
use Rattle.svc_machine_laws.specs.Events.{Event, Submit, seat_place}
use Rattle.svc_machine_laws.specs.Refusals.{seat_at}
use Rattle.svc_machine_laws.specs.Standing.{refusal_of, reply_to, Standing, opened_at}
use Rattle.svc_machine_laws.proofs.Places.{found}
use Rattle.svc_machine.specs.Value.{MachineValue}
use Rattle.svc_machine.specs.Reads.{lease_of, lease_from}
use Rattle.svc_history_laws.specs.declared.entry.Kind.TheVariants as kind
use Rattle.svc_history_laws.specs.declared.entry.Entry.{Entry}
use Rattle.svc_history_laws.specs.Entries.{entry_of}
use Rattle.svc_history_laws.specs.Submissions.{turns_of}
use Rattle.svc_history_laws.specs.Legal.{LegalEntry, Legal, LegalHistory, last, led_to, after_entry}
use Rattle.svc_history_laws.specs.Replay.{IsBurstOf, IsReplay, ReplaysAs, Lacks, IsFirstFault, IsRefusedThere, DiffersThere}
use Rattle.svc_history_laws.proofs.Replays.{legal_agrees, legal_lacks_nothing, no_replay, one_replay}
use Rattle.svc_history.specs.Recorded.{Recorded, IsLegal, standing_of}
use Rattle.svc_history.specs.declared.trace.TraceFaultKind.{TraceFaultKind}
use Rattle.svc_history.specs.declared.trace.TraceFaultKind.TheVariants as fault
use Rattle.svc_history.specs.Faults.{IsWrongThere, IsFaultAt, IsFaultyThere}

pub wrong_lacks : (r : Recorded) (e : Entry) → IsLegal r → Lacks e.kind r.machine.image r.machine.plain e → IsWrongThere r e fault.Refused
wrong_lacks r e is lacks =
    let there : Lacks e.kind r.machine.image (standing_of r).plain e = subst (λ (s : Plain). Lacks e.kind r.machine.image s e) is.here.plain lacks in (
      λ legal. legal_lacks_nothing r.machine.image r.machine.config (standing_of r) e legal there,
      λ x replay. absurd (no_replay r.machine.image (standing_of r).plain e x e.kind there replay),
    )

replay_there : (r : Recorded) (e : Entry) (x : Event) → IsLegal r → IsReplay r.machine.image r.machine.plain e x → IsReplay r.machine.image (standing_of r).plain e x
replay_there r e x is replay = subst (λ (s : Plain). IsReplay r.machine.image s e x) is.here.plain replay

pub wrong_refused : (r : Recorded) (e : Entry) (x : Event) (why : Refusal) → IsLegal r → IsReplay r.machine.image r.machine.plain e x
    → refusal_of r.machine.image r.machine.config (standing_of r) x ≡ Some why → IsWrongThere r e fault.Refused
wrong_refused r e x why is replay h =
    let there = replay_there r e x is replay in (
      λ legal. none-some why (sym (legal_agrees r.machine.image r.machine.config (standing_of r) e x legal there).accepted ∙ h),
      λ y other. ap is_some (ap (refusal_of r.machine.image r.machine.config (standing_of r)) (one_replay r.machine.image (standing_of r).plain e y x e.kind other there) ∙ h),
    )

pub wrong_differs : (r : Recorded) (e f : Entry) (x : Event) → IsLegal r → IsReplay r.machine.image r.machine.plain e x → refusal_of r.machine.image r.machine.config (standing_of r) x ≡ None
    → f ≡ entry_of x (reply_to r.machine.image (standing_of r) x) → (f ≡ e → ⊥) → IsWrongThere r e fault.Differs
wrong_differs r e f x is replay ok wrote other =
    let there = replay_there r e x is replay in (
      λ legal. other (wrote ∙ sym (legal_agrees r.machine.image r.machine.config (standing_of r) e x legal there).entry),
      record { event = x; replay = there; accepted = ok; entry = λ same. other (wrote ∙ sym same) },
    )

-- the seat of a unit's task is that unit's
seat_of_unit : (m : Machine State) (unit : ℕ) (seat : Seat State) → seat_at m unit ≡ Some seat → seat.unit ≡ unit
seat_of_unit m unit seat h = of (seat_place m unit) refl h
  where
    of : (o : Option ℕ) → seat_place m unit ≡ o → unwrap_or (option_map (slice_get m.seats) o) None ≡ Some seat → seat.unit ≡ unit
    of None e k = absurd (none-some seat k)
    of (Some q) e k =
        let at : slice_get (map seat_unit m.seats) q ≡ Some unit = found (map seat_unit m.seats) unit q e in
        same_Some seat.unit unit (sym (slice_get-map seat_unit m.seats q ∙ ap (option_map seat_unit) k) ∙ at)

some_from : {A B : Type 0} (f : A → B) (o : Option A) (y : B) → option_map f o ≡ Some y → (x : A) × (o ≡ Some x) × (f x ≡ y)
some_from f (Some x) y h = (x, refl, same_Some (f x) y h)
some_from f None y h = absurd (none-some y h)

-- the burst of a unit's lease is the replay of a submit
pub submit_replays : (m : MachineValue) (e : Entry) (lease : Lease) (local : ℕ) (asks : Bool) (turns : ℕ) (b : Advance) → lease_of m e.unit.0 ≡ Some lease
    → e.local ≡ Some local → e.ask ≡ Some asks → turns ≡ unwrap_or e.local 0 + turns_of (unwrap_or e.ask false) → b.unit ≡ lease.unit → b.epoch ≡ lease.epoch → b.start ≡ lease.core → IsAdvance m.image turns b
    → ReplaysAs kind.Submit m.image m.plain e (Submit b)
submit_replays m e lease local asks turns b has l a count unit epoch start advance =
    let whole : Machine State = machine_of (program m.image) m.plain in
    let from = some_from lease_from (seat_at whole e.unit.0) lease has in
    let seat : Seat State = from.0 in
    let of : IsBurstOf m.image m.plain e.unit.0 (unwrap_or e.local 0 + turns_of (unwrap_or e.ask false)) b = record {
      seat = seat;
      seat_is = from.1;
      unit_is = ap (λ (u : UnitId). u.0) (unit ∙ ap (λ (x : Lease). x.unit) (sym from.2)) ∙ seat_of_unit whole e.unit.0 seat from.1;
      epoch = epoch ∙ ap (λ (x : Lease). x.epoch) (sym from.2);
      start = start ∙ ap (λ (x : Lease). x.core) (sym from.2);
      advance = subst (λ n. IsAdvance m.image n b) count advance;
    } in
    (ap is_some l, ap is_some a, b, of, refl)

pub turns_are : (local : Option ℕ) (ask : Option Bool) (n : ℕ) (k : Bool) (x y : ℕ) → local ≡ Some n → ask ≡ Some k → x ≡ n → y ≡ bool_byte k → x + y ≡ unwrap_or local 0 + turns_of (unwrap_or ask false)
turns_are local ask n k x y l a ex ey = let el = ap (λ o. unwrap_or o 0) l in let ea = ap (λ o. turns_of (unwrap_or o false)) a in let e = byte k in omega (arith, ex, ey, el, ea, e)
  where
    byte : (k : Bool) → bool_byte k ≡ turns_of k
    byte true = refl
    byte false = refl

legal_last : (img : Image) (config : Config) (s : Standing) (es : List Entry) (e : Entry) → Legal img config s (es ++ e ∷ []) → LegalEntry img config (last img s es) e
unfolding Legal last
legal_last img config s [] e legal = legal.0
legal_last img config s (f ∷ es) e legal = legal_last img config (after_entry img s f) es e legal.1

take_next : (es : List Entry) (n : ℕ) (e : Entry) → slice_get es n ≡ Some e → take (suc n) es ≡ take n es ++ e ∷ []
take_next [] n e h = absurd (none-some e h)
take_next (x ∷ es) zero e h = ap (λ y. y ∷ []) (same_Some x e h)
take_next (x ∷ es) (suc n) e h = ap (λ l. x ∷ l) (take_next es n e h)

pub take_more : (es : List Entry) (n : ℕ) (e : Entry) → slice_get es n ≡ Some e → take (n + 1) es ≡ take n es ++ e ∷ []
take_more es n e h = let same : n + 1 ≡ suc n = omega arith in ap (λ k. take k es) same ∙ take_next es n e h

pub get_there : (es : List Entry) (n : ℕ) (d : Entry) → n < length es → slice_get es n ≡ Some (get_or es n d)
get_there [] n d h = absurd (omega (arith, h))
get_there (x ∷ es) zero d h = refl
get_there (x ∷ es) (suc n) d h = get_there es n d (omega (arith, h))

inside : (es : List Entry) (n : ℕ) (e : Entry) → slice_get es n ≡ Some e → n < length es
inside [] n e h = absurd (none-some e h)
inside (x ∷ es) zero e h = omega arith
inside (x ∷ es) (suc n) e h = let ih = inside es n e h in omega (arith, ih)

-- a recorder of the entries before the index, and an entry there that isn't legal where they lead
pub fault_at : (r : Recorded) (es : List Entry) (index : ℕ) (e : Entry) (k : TraceFaultKind) → IsLegal r → r.entries ≡ take index es → slice_get es index ≡ Some e → IsWrongThere r e k
    → IsFaultAt r.machine.image r.machine.config es index k
fault_at r es index e k is before here wrong = of k wrong
  where
    img : Image
    img = r.machine.image

    config : Config
    config = r.machine.config

    led : standing_of r ≡ led_to r.machine.image r.machine.config (take index es)
    led = ap (led_to r.machine.image r.machine.config) before

    first : (LegalEntry r.machine.image r.machine.config (standing_of r) e → ⊥) → IsFirstFault r.machine.image r.machine.config es index
    first no_entry = record {
      within = inside es index e here;
      sound = subst (LegalHistory r.machine.image r.machine.config) before is.legal;
      faulty = λ legal.
          let last_legal = legal_last r.machine.image r.machine.config (opened_at r.machine.image r.machine.config 0) (take index es) e (subst (LegalHistory r.machine.image r.machine.config) (take_more es index e here) legal) in
          no_entry (subst (λ s. LegalEntry r.machine.image r.machine.config s e) (sym led) last_legal);
    }

    there : (Is : Standing → Entry → Type 0) → Is (standing_of r) e → IsFaultyThere r.machine.image r.machine.config es index Is
    there Is wrong = λ f at. subst (λ s. Is s f) led (subst (Is (standing_of r)) (same_Some e f (sym here ∙ at)) wrong)

    of : (k : TraceFaultKind) → IsWrongThere r e k → IsFaultAt r.machine.image r.machine.config es index k
    of fault.Memory wrong = absurd wrong
    of fault.Refused wrong = (first wrong.0, there (IsRefusedThere r.machine.image r.machine.config) wrong.1)
    of fault.Differs wrong = (first wrong.0, there (DiffersThere r.machine.image r.machine.config) wrong.1)
