-- Where the entries of a legal history ask.
use Rattle.std.proofs.Common.{◌≡◌, ◌∙◌, ◌+◌, ◌++◌, ◌∷◌, [], ℕ, zero, suc, Bool, true, false, cond, ◌&&◌, List, Option, Some, None, length, take, map, option_map, is_some, slice_get, unwrap_or, refl, ap, sym, subst, arith}
use Rattle.std.proofs.lemmas.Bool.{both_ways}
use Rattle.std.proofs.lemmas.Option.{none-some, same_Some, slice_get-map}
use Rattle.svc_base.specs.declared.ids.UnitId.{UnitId}
use Rattle.svc_base.specs.declared.config.Config.{Config}
use Rattle.svc_image.specs.Image.{Image}
use Rattle.svc_core.specs.declared.burst.Lease.{Lease}
use Rattle.svc_core_laws.specs.State.{State}
use Rattle.svc_core_laws.specs.Bursts.{Advance, IsAdvance}
use Rattle.svc_core_laws.specs.Program.{locals}
use Rattle.svc_core_laws.specs.Words.{program}
use Rattle.svc_core_laws.proofs.Means.{means}
use Rattle.svc_machine_laws.specs.Events.{Submit as SubmitEvent, seat_place}
use Rattle.svc_machine_laws.specs.PlainMachine.{Plain}
use Rattle.svc_machine_laws.specs.Refusals.{seat_at}
use Rattle.svc_machine_laws.specs.Standing.{Standing, opened_at}
use Rattle.svc_machine_laws.specs.WholeMachine.{Machine, Seat, machine_of, seat_unit}
use Rattle.svc_machine_laws.proofs.Places.{found}
use Rattle.svc_machine.specs.Value.{MachineValue}
use Rattle.svc_machine.specs.Reads.{lease_from, lease_of}
use Rattle.svc_history_laws.specs.declared.entry.Entry.{Entry}
use Rattle.svc_history_laws.specs.declared.entry.Kind.{Kind}
use Rattle.svc_history_laws.specs.declared.entry.Kind.TheVariants.{Assign, Submit, Replace, Cancel, Commit}
use Rattle.svc_history_laws.specs.Entries.{entry_of}
use Rattle.svc_history_laws.specs.Legal.{IsSubmitted, Legal, LegalEntry, LegalHistory, LegalKind, after_entry, last, led_to, the_ask, the_local}
use Rattle.svc_history_laws.specs.Submissions.{turns_of}
use Rattle.svc_history_laws.specs.Replay.{IsBurstOf, IsReplay, ReplaysAs}
use Rattle.svc_history_laws.proofs.Replays.{legal_agrees}
use Rattle.svc_history.specs.Recorded.{IsLegal, Recorded}
use Rattle.svc_report.specs.Summary.{is_kind}
use Rattle.svc_instruction_profile.specs.Addresses.{address_at, address_there, addresses, addresses_from, asks, place_after}

-- ---- entry by entry

from_snoc : (img : Image) (s : Standing) (es : List Entry) (e : Entry) → addresses_from img s (es ++ e ∷ []) ≡ addresses_from img s es ++ address_at img (last img s es).plain e ∷ []
unfolding addresses_from last
from_snoc img s [] e = refl
from_snoc img s (f ∷ es) e = ap (λ l. address_at img s.plain f ∷ l) (from_snoc img (after_entry img s f) es e)

-- one entry more
pub addresses_more : (img : Image) (config : Config) (es : List Entry) (e : Entry) → addresses img config (es ++ e ∷ []) ≡ addresses img config es ++ address_at img (led_to img config es).plain e ∷ []
addresses_more img config es e = from_snoc img (opened_at img config 0) es e

length_from : (img : Image) (s : Standing) (es : List Entry) → length (addresses_from img s es) ≡ length es
unfolding addresses_from
length_from img s [] = refl
length_from img s (e ∷ es) = ap suc (length_from img (after_entry img s e) es)

pub as_many_addresses : (img : Image) (config : Config) (es : List Entry) → length (addresses img config es) ≡ length es
as_many_addresses img config es = length_from img (opened_at img config 0) es

-- ---- where a burst stops

some_from : {A B : Type 0} (f : A → B) (o : Option A) (y : B) → option_map f o ≡ Some y → (x : A) × (o ≡ Some x) × (f x ≡ y)
some_from f (Some x) y h = (x, refl, same_Some (f x) y h)
some_from f None y h = absurd (none-some y h)

-- the seat of a unit's task is that unit's
seat_of_unit : (m : Machine State) (unit : ℕ) (seat : Seat State) → seat_at m unit ≡ Some seat → seat.unit ≡ unit
seat_of_unit m unit seat h = of (seat_place m unit) refl h
  where
    of : (o : Option ℕ) → seat_place m unit ≡ o → unwrap_or (option_map (slice_get m.seats) o) None ≡ Some seat → seat.unit ≡ unit
    of None e k = absurd (none-some seat k)
    of (Some q) e k =
        let at : slice_get (map seat_unit m.seats) q ≡ Some unit = found (map seat_unit m.seats) unit q e in
        same_Some seat.unit unit (sym (slice_get-map seat_unit m.seats q ∙ ap (option_map seat_unit) k) ∙ at)

-- the burst of a unit's lease is that of its seat
burst_of : (m : MachineValue) (unit turns : ℕ) (lease : Lease) (b : Advance) → lease_of m unit ≡ Some lease
    → b.unit ≡ lease.unit → b.epoch ≡ lease.epoch → b.start ≡ lease.core → IsAdvance m.image turns b → IsBurstOf m.image m.plain unit turns b
burst_of m unit turns lease b has unit_is epoch start advance =
    let whole : Machine State = machine_of (program m.image) m.plain in
    let from = some_from lease_from (seat_at whole unit) lease has in
    let seat : Seat State = from.0 in
    record {
      seat = seat;
      seat_is = from.1;
      unit_is = ap (λ (u : UnitId). u.0) (unit_is ∙ ap (λ (x : Lease). x.unit) (sym from.2)) ∙ seat_of_unit whole unit seat from.1;
      epoch = epoch ∙ ap (λ (x : Lease). x.epoch) (sym from.2);
      start = start ∙ ap (λ (x : Lease). x.core) (sym from.2);
      advance = advance;
    }

-- an entry that asks is a submit
is_submit : (k : Kind) (b : Bool) → (is_kind Submit k && b) ≡ true → (k ≡ Submit) × (b ≡ true)
is_submit Assign b h = absurd (both_ways false refl h)
is_submit Submit b h = (refl, h)
is_submit Replace b h = absurd (both_ways false refl h)
is_submit Cancel b h = absurd (both_ways false refl h)
is_submit Commit b h = absurd (both_ways false refl h)

-- a legal submit has its numbers
has_local : (k : Kind) (img : Image) (config : Config) (s : Standing) (e : Entry) → k ≡ Submit → LegalKind k img config s e → e.local ≡ Some (the_local e)
has_local k img config s e is legal =
    let submitted : IsSubmitted img config s e = subst (λ (k : Kind). LegalKind k img config s e) is legal in
    ap (λ (y : Entry). y.local) submitted.entry

has_ask : (k : Kind) (img : Image) (config : Config) (s : Standing) (e : Entry) → k ≡ Submit → LegalKind k img config s e → e.ask ≡ Some (the_ask e)
has_ask k img config s e is legal =
    let submitted : IsSubmitted img config s e = subst (λ (k : Kind). LegalKind k img config s e) is legal in
    ap (λ (y : Entry). y.ask) submitted.entry

-- the burst of the unit's lease stops where the entry asks
pub burst_asks : (m : MachineValue) (s : Standing) (e : Entry) (lease : Lease) (b : Advance) → s.plain ≡ m.plain → LegalEntry m.image m.config s e
    → asks e ≡ true → lease_of m e.unit.0 ≡ Some lease
    → b.unit ≡ lease.unit → b.epoch ≡ lease.epoch → b.start ≡ lease.core → IsAdvance m.image (the_local e + 1) b
    → address_at m.image m.plain e ≡ Some b.end.pc
unfolding LegalEntry entry_of
burst_asks m s e lease b here legal asking has unit epoch start advance =
    let p = program m.image in
    let whole : Machine State = machine_of p m.plain in
    let found = some_from lease_from (seat_at whole e.unit.0) lease has in
    let seat : Seat State = found.0 in
    let submit = is_submit e.kind (the_ask e) asking in
    let local_is : e.local ≡ Some (the_local e) = has_local e.kind m.image m.config s e submit.0 legal in
    let ask_is : e.ask ≡ Some (the_ask e) = has_ask e.kind m.image m.config s e submit.0 legal in
    let one : turns_of (the_ask e) ≡ 1 = ap turns_of submit.1 in
    let count : the_local e + 1 ≡ the_local e + turns_of (the_ask e) = omega (arith, one) in
    let replays : ReplaysAs Submit m.image m.plain e (SubmitEvent b) = (
      ap is_some local_is,
      ap is_some ask_is,
      b,
      subst (λ (n : ℕ). IsBurstOf m.image m.plain e.unit.0 n b) count (burst_of m e.unit.0 (the_local e + 1) lease b has unit epoch start advance),
      refl,
    ) in
    let there : IsReplay m.image s.plain e (SubmitEvent b) =
    subst (λ (k : Kind). ReplaysAs k m.image s.plain e (SubmitEvent b)) (sym submit.0)
    (subst (λ (t : Plain). ReplaysAs Submit m.image t e (SubmitEvent b)) (sym here) replays) in
    let agreed = legal_agrees m.image m.config s e (SubmitEvent b) legal there in
    let same : the_local e ≡ b.local = same_Some (the_local e) b.local (sym local_is ∙ ap (λ (y : Entry). y.local) agreed.entry) in
    let from : seat.core ≡ b.start = ap (λ (l : Lease). l.core) found.2 ∙ sym start in
    let all = means m.image b advance.follows advance.looks in
    ap (λ (c : Bool). cond c (option_map (place_after m.image (the_local e)) (seat_at whole e.unit.0)) None) asking
    ∙ ap (option_map (place_after m.image (the_local e))) found.1
    ∙ ap (λ (n : ℕ). Some (locals p n seat.core).pc) same
    ∙ ap (λ (c : State). Some (locals p b.local c).pc) from
    ∙ ap (λ (c : State). Some c.pc) all.end

-- without a task nothing is asked
pub none_asks : (m : MachineValue) (e : Entry) → lease_of m e.unit.0 ≡ None → address_at m.image m.plain e ≡ None
none_asks m e none =
    let whole : Machine State = machine_of (program m.image) m.plain in
    ap (λ (o : Option (Seat State)). cond (asks e) (option_map (place_after m.image (the_local e)) o) None) (no_seat (seat_at whole e.unit.0) none)
    ∙ either (asks e)
  where
    no_seat : (o : Option (Seat State)) → option_map lease_from o ≡ None → o ≡ None
    no_seat None h = refl
    no_seat (Some x) h = absurd (none-some (lease_from x) (sym h))

    either : (b : Bool) → cond b (option_map (place_after m.image (the_local e)) None) None ≡ None
    either true = refl
    either false = refl

-- ---- the entries so far

take_next : (es : List Entry) (n : ℕ) (e : Entry) → slice_get es n ≡ Some e → take (suc n) es ≡ take n es ++ e ∷ []
take_next [] n e h = absurd (none-some e h)
take_next (x ∷ es) zero e h = ap (λ y. y ∷ []) (same_Some x e h)
take_next (x ∷ es) (suc n) e h = ap (λ l. x ∷ l) (take_next es n e h)

take_more : (es : List Entry) (n : ℕ) (e : Entry) → slice_get es n ≡ Some e → take (n + 1) es ≡ take n es ++ e ∷ []
take_more es n e h = let same : n + 1 ≡ suc n = omega arith in ap (λ k. take k es) same ∙ take_next es n e h

-- before any entry
pub no_addresses : (img : Image) (config : Config) → addresses img config [] ≡ []
unfolding addresses_from
no_addresses img config = refl

-- one address more
pub next_address : (img : Image) (config : Config) (es : List Entry) (i : ℕ) (e : Entry) (asked new : List (Option ℕ)) (a : Option ℕ) → slice_get es i ≡ Some e
    → asked ≡ addresses img config (take i es) → a ≡ address_at img (led_to img config (take i es)).plain e → new ≡ asked ++ a ∷ []
    → new ≡ addresses img config (take (i + 1) es)
next_address img config es i e asked new a there so_far is added =
    added ∙ ap (λ l. l ++ a ∷ []) so_far ∙ ap (λ b. addresses img config (take i es) ++ b ∷ []) is
    ∙ sym (addresses_more img config (take i es) e)
    ∙ ap (addresses img config) (sym (take_more es i e there))

-- the same where the recorder's image and configuration are those
pub next_noted : (img here : Image) (config used : Config) (es : List Entry) (i : ℕ) (e : Entry) (asked new : List (Option ℕ)) (a : Option ℕ) → here ≡ img → used ≡ config
    → slice_get es i ≡ Some e → asked ≡ addresses img config (take i es) → a ≡ address_there here used (take i es) e → new ≡ asked ++ a ∷ []
    → new ≡ addresses img config (take (i + 1) es)
next_noted img here config used es i e asked new a same_image same_config there so_far is added =
    next_address img config es i e asked new a there so_far
    (is ∙ ap (λ (j : Image). address_there j used (take i es) e) same_image ∙ ap (λ (g : Config). address_there img g (take i es) e) same_config) added

legal_last : (img : Image) (config : Config) (s : Standing) (es : List Entry) (e : Entry) → Legal img config s (es ++ e ∷ []) → LegalEntry img config (last img s es) e
unfolding Legal last
legal_last img config s [] e legal = legal.0
legal_last img config s (f ∷ es) e legal = legal_last img config (after_entry img s f) es e legal.1

-- the entry there is legal where the ones before it lead
pub legal_there : (img : Image) (config : Config) (es : List Entry) (i : ℕ) (e : Entry) → slice_get es i ≡ Some e → LegalHistory img config (take (i + 1) es)
    → LegalEntry img config (led_to img config (take i es)) e
legal_there img config es i e there legal =
    legal_last img config (opened_at img config 0) (take i es) e (subst (LegalHistory img config) (take_more es i e there) legal)

-- what is told of the next entry, where the recorder before it stands
pub noted : (m : MachineValue) (r new : Recorded) (es : List Entry) (i : ℕ) (e f : Entry) (a : Option ℕ) → m ≡ r.machine → IsLegal r → r.entries ≡ take i es
    → IsLegal new → new.machine.image ≡ r.machine.image → new.machine.config ≡ r.machine.config → new.entries ≡ take (i + 1) es
    → slice_get es i ≡ Some f → slice_get es i ≡ Some e
    → ((s : Standing) → s.plain ≡ m.plain → LegalEntry m.image m.config s f → a ≡ address_at m.image m.plain f)
    → a ≡ address_there r.machine.image r.machine.config (take i es) e
noted m r new es i e f a same is before next image config_is entries there_f there_e told =
    let img : Image = r.machine.image in
    let config : Config = r.machine.config in
    let s : Standing = led_to img config (take i es) in
    let one : f ≡ e = same_Some f e (sym there_f ∙ there_e) in
    let here : s.plain ≡ r.machine.plain = sym (is.here.plain ∙ ap (λ (l : List Entry). (led_to img config l).plain) before) in
    let all : LegalHistory img config (take (i + 1) es) =
    subst (λ (l : List Entry). LegalHistory img config l) entries
    (subst (λ (g : Config). LegalHistory img g new.entries) config_is
    (subst (λ (j : Image). LegalHistory j new.machine.config new.entries) image next.legal)) in
    let Says : MachineValue → Entry → Type 0 = λ m f. (s : Standing) → s.plain ≡ m.plain → LegalEntry m.image m.config s f → a ≡ address_at m.image m.plain f in
    let said : Says r.machine e = subst (λ (f : Entry). Says r.machine f) one (subst (λ (m : MachineValue). Says m f) same told) in
    said s here (legal_there img config es i e there_e all) ∙ ap (λ (p : Plain). address_at img p e) (sym here)
