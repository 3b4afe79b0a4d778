-- An asked turn on the bus, step by step.
use Rattle.std.proofs.Common.{ℕ, ◌≡◌, ◌^◌, ◌%◌, ◌+◌, Bool, true, false, cond, Option, Some, None, length, option_map, refl, sym, ap, ap₂, ◌∙◌, subst, is_none, arith}
use Rattle.std.proofs.lemmas.Bool.{eq-eqb}
use Rattle.svc_base.specs.declared.refusal.Refusal.TheVariants as refusal
use Rattle.svc_base.specs.declared.served.Served.{Served}
use Rattle.svc_base.specs.declared.served.Served.TheVariants as served
use Rattle.svc_rv32i.specs.declared.instr.StoreKind.{StoreKind}
use Rattle.svc_rv32i.specs.declared.instr.StoreKind.TheVariants as store
use Rattle.svc_image.specs.Image.{Image}
use Rattle.svc_core_laws.specs.State.{State}
use Rattle.svc_core_laws.specs.Local.{goes_on}
use Rattle.svc_core_laws.specs.Program.{Want, Store, Narrow}
use Rattle.svc_core_laws.specs.Turns.{arrives, word_address, lane_of}
use Rattle.svc_core_laws.specs.Words.{stored_word, wants_store, wants_write}
use Rattle.svc_bus_laws.specs.Versioned.{view}
use Rattle.svc_bus_laws.specs.LineTable.{Line, LineTable, is_active, is_reusable, line_at, unit_at, versioned_map}
use Rattle.svc_bus_laws.specs.Supplier.{Supplier}
use Rattle.svc_bus_laws.specs.Supplier as supply
use Rattle.svc_bus_laws.specs.Steps.{read, write, reuse, fill, with_line, line_after_reuse, filled_line, line_after_purging}
use Rattle.svc_bus_laws.specs.BusState.{BusState, Agrees, without_number}
use Rattle.svc_bus_laws.specs.Refusals.{bus_cache, set_full}
use Rattle.svc_bus_laws.proofs.ReadLaws.{active_parts, reusable_parts}
use Rattle.svc_machine_laws.specs.declared.reply.Cut.{Cut}
use Rattle.svc_machine_laws.specs.declared.reply.Reply.{Reply}
use Rattle.svc_machine_laws.specs.declared.reply.What.TheVariants as what
use Rattle.svc_machine_laws.specs.WholeMachine.{Seat, at_core}
use Rattle.svc_machine_laws.proofs.Lines.{read_keeps}
use Rattle.svc_machine_laws.specs.Replies.{served_by}
use Rattle.svc_bus.specs.Calls.{RunsAt, full_refusal}
use Rattle.svc_machine.specs.Asked.{IsDone, IsPrepared, IsRead, read_first, stored_cut, word_written}

-- the line that a step puts there
here : (lines : ℕ → ℕ → Option Line) (u a : ℕ) (line : Option Line) (others : Option Line → Option Line) → with_line lines u a line others u a ≡ line
here lines u a line others =
    ap₂ (λ x y. cond x (cond y line (others (lines u a))) (lines u a)) (eq-eqb a a refl) (eq-eqb u u refl)

valid : (line : Option Line) (l : Line) → line ≡ Some l → is_none (without_number line) ≡ false
valid line l e = ap (λ o. is_none (without_number o)) e

-- after a read of the word the unit has a line of it
own_line : (t : LineTable) (p a : ℕ) → is_none (without_number ((read t p a).lines (unit_at t p) a)) ≡ false
own_line t p a = split (is_active (line_at t p a)) (is_reusable (line_at t p a)) refl refl
  where
    split : (x y : Bool) → is_active (line_at t p a) ≡ x → is_reusable (line_at t p a) ≡ y → is_none (without_number ((cond x t (cond y (reuse t p a) (fill t p a))).lines (unit_at t p) a)) ≡ false
    split true y on other = let l = active_parts (line_at t p a) on in valid (line_at t p a) l.0 l.1
    split false true off on =
        let l = reusable_parts (line_at t p a) on in
        ap (λ o. is_none (without_number o)) (here t.lines (unit_at t p) a (line_after_reuse (t.commits + p) (line_at t p a)) (λ line. line))
        ∙ ap (λ o. is_none (without_number (line_after_reuse (t.commits + p) o))) l.1
    split false false off other = ap (λ o. is_none (without_number o)) (here t.lines (unit_at t p) a (Some (filled_line t p a)) line_after_purging)

-- so it has room for it
free_after : (b : BusState) (unit : ℕ) (t : LineTable) (p a : ℕ) → Agrees b (read t p a) → unit_at t p ≡ unit → set_full (bus_cache b unit) a ≡ None
free_after b unit t p a agrees at =
    let some : is_none (b.lines unit a) ≡ false = ap is_none (agrees.lines unit a) ∙ ap (λ u. is_none (without_number ((read t p a).lines u a))) (sym at) ∙ own_line t p a in
    simp some

pub room_after : (b : BusState) (unit : ℕ) (t : LineTable) (p a : ℕ) → Agrees b (read t p a) → unit_at t p ≡ unit → full_refusal b unit a ≡ None
room_after b unit t p a agrees at = ap (option_map (λ named. refusal.SetFull (record { 0 = named }))) (free_after b unit t p a agrees at)

-- the supplier that the bus tells
abbrev supplier_of : Served → Supplier
supplier_of served.Hit = supply.Hit
supplier_of served.Reuse = supply.Reuse
supplier_of (served.Version unit) = supply.Version unit.0
supplier_of served.Spill = supply.Spill
supplier_of (served.Committed unit) = supply.Committed unit.0
supplier_of served.Memory = supply.Memory

-- who served a read, as a reply tells it
pub served_by_one : (s : Served) (x : Supplier) → supplier_of s ≡ x → s ≡ served_by x
served_by_one s x h = tells s ∙ ap served_by h
  where
    tells : (s : Served) → s ≡ served_by (supplier_of s)
    tells served.Hit = refl
    tells served.Reuse = refl
    tells (served.Version unit) = refl
    tells served.Spill = refl
    tells (served.Committed unit) = refl
    tells served.Memory = refl

-- a store of less than a word, once it has read its word
module _ (b : BusState) (unit : ℕ) (t : LineTable) (p a lane value : ℕ) (bus : BusState) (word old : ℕ) (served : Served) where
  runs_after : RunsAt b unit t p → IsRead t p a bus old served → RunsAt bus unit (read t p a) p
  runs_after runs done =
      let units : (read t p a).units ≡ t.units = read_keeps (λ u. u.units) t p a refl refl in
      record {
        agrees = done.table;
        within = let e = ap length units in let w = runs.within in omega (arith, e, w);
        unit_is = read_keeps (λ u. unit_at u p) t p a refl refl ∙ runs.unit_is;
      }

  pub prepared : (kind : StoreKind) → (kind ≡ store.Word → ⊥) → RunsAt b unit t p → IsRead t p a bus old served → word ≡ stored_word kind lane value old → IsPrepared t unit p a kind lane value bus word (Some served)
  prepared store.Byte less runs done is = record {
    runs = runs_after runs done;
    word_is = is ∙ ap (stored_word store.Byte lane value) done.value_is;
    served_is = ap Some done.served_is;
    words = done.table.words ∙ read_keeps (λ u. u.words) t p a refl refl;
  }
  prepared store.Half less runs done is = record {
    runs = runs_after runs done;
    word_is = is ∙ ap (stored_word store.Half lane value) done.value_is;
    served_is = ap Some done.served_is;
    words = done.table.words ∙ read_keeps (λ u. u.words) t p a refl refl;
  }
  prepared store.Word less runs done is = absurd (less refl)

-- what a store wants of this word, from this byte of it on
abbrev writes : Image → State → StoreKind → (a lane v : ℕ) → Want State
writes img s store.Byte a lane v = Narrow a (stored_word store.Byte lane v) (arrives img (goes_on s))
writes img s store.Half a lane v = Narrow a (stored_word store.Half lane v) (arrives img (goes_on s))
writes img s store.Word a lane v = Store a (v % 2 ^ 32) (arrives img (goes_on s))

writes_is : (img : Image) (s : State) (kind : StoreKind) (addr v : ℕ) → writes img s kind (word_address addr) (lane_of addr) v ≡ wants_write img s kind addr v
writes_is img s store.Byte addr v = refl
writes_is img s store.Half addr v = refl
writes_is img s store.Word addr v = refl

module _ (img : Image) (seat : Seat State) (t : LineTable) (p a lane v : ℕ) (prepared wrote : BusState) (word : ℕ) (served : Option Served) (cut : Option Cut) where
  written : (kind : StoreKind) → IsPrepared t seat.unit p a kind lane v prepared word served
      → cut ≡ stored_cut (read_first kind t p a) p a → Agrees wrote (write (read_first kind t p a) p a word)
      → IsDone img (Some (writes img seat.core kind a lane v)) t p seat (at_core (arrives img (goes_on seat.core)) seat) wrote (record { what = what.Stored (record { 0 = a }) word served; cut = cut })
  written store.Byte h c e = record {
    seat = refl;
    table = subst (λ w. Agrees wrote (write (read t p a) p a w)) h.word_is e;
    reply_is = ap₂ (λ w s. record { what = what.Stored (record { 0 = a }) w s; cut = cut }) h.word_is h.served_is ∙ ap {B = Reply} (λ o. record { what = what.Stored (record { 0 = a }) (word_written store.Byte lane v (view (versioned_map t) p a)) (Some (Rattle.svc_machine_laws.specs.Replies.serves_at t p a)); cut = o }) c;
  }
  written store.Half h c e = record {
    seat = refl;
    table = subst (λ w. Agrees wrote (write (read t p a) p a w)) h.word_is e;
    reply_is = ap₂ (λ w s. record { what = what.Stored (record { 0 = a }) w s; cut = cut }) h.word_is h.served_is ∙ ap {B = Reply} (λ o. record { what = what.Stored (record { 0 = a }) (word_written store.Half lane v (view (versioned_map t) p a)) (Some (Rattle.svc_machine_laws.specs.Replies.serves_at t p a)); cut = o }) c;
  }
  written store.Word h c e = record {
    seat = refl;
    table = subst (λ w. Agrees wrote (write t p a w)) h.word_is e;
    reply_is = ap₂ (λ w s. record { what = what.Stored (record { 0 = a }) w s; cut = cut }) h.word_is h.served_is ∙ ap {B = Reply} (λ o. record { what = what.Stored (record { 0 = a }) (v % 2 ^ 32) None; cut = o }) c;
  }

  -- a store inside the data
  pub store_done : (kind : StoreKind) (addr : ℕ) (trap : Option ℕ) (core : State) → trap ≡ None → a ≡ word_address addr → lane ≡ lane_of addr
      → IsPrepared t seat.unit p a kind lane v prepared word served
      → cut ≡ stored_cut (read_first kind t p a) p a → Agrees wrote (write (read_first kind t p a) p a word)
      → core ≡ arrives img (goes_on seat.core)
      → IsDone img (Some (wants_store img seat.core kind addr v trap)) t p seat (at_core core seat) wrote (record { what = what.Stored (record { 0 = a }) word served; cut = cut })
  store_done kind addr trap core inside at byte h c e turn =
      let want : writes img seat.core kind a lane v ≡ wants_store img seat.core kind addr v trap =
      ap₂ (λ x y. writes img seat.core kind x y v) at byte ∙ writes_is img seat.core kind addr v ∙ ap (wants_store img seat.core kind addr v) (sym inside) in
      let P : Want State → State → Type 0 = λ w s. IsDone img (Some w) t p seat (at_core s seat) wrote (record { what = what.Stored (record { 0 = a }) word served; cut = cut }) in
      subst (λ s. P (wants_store img seat.core kind addr v trap) s) (sym turn) (subst (λ w. P w (arrives img (goes_on seat.core))) want (written kind h c e))
