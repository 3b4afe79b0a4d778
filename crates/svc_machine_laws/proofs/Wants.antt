-- What a turn of an image's program wants: its word is one of the data, and its turn is one more.
use Rattle.std.proofs.Common.{nat_lt, ℕ, ◌≡◌, ◌+◌, ◌*◌, ◌%◌, ◌==◌, ◌<◌, ◌≤◌, ◌&&◌, Bool, true, false, Option, Some, None, refl, sym, ap, ◌∙◌, subst, arith}
use Rattle.std.specs.Prelude.{nat_le, if◌then◌else◌}
use Rattle.std.proofs.lemmas.Bool.{leb-true}
use Rattle.std.proofs.lemmas.Option.{none-some, same_Some}
use Rattle.svc_rv32i.specs.declared.instr.Register.{Register}
use Rattle.svc_rv32i.specs.declared.instr.LoadKind.{LoadKind}
use Rattle.svc_rv32i.specs.declared.instr.LoadKind.TheVariants as load
use Rattle.svc_rv32i.specs.declared.instr.StoreKind.{StoreKind}
use Rattle.svc_rv32i.specs.declared.instr.StoreKind.TheVariants as store
use Rattle.svc_image.specs.Image.{Image, is_entry}
use Rattle.svc_core_laws.specs.declared.ask.Ask.{Ask}
use Rattle.svc_core_laws.specs.declared.ask.Ask.TheVariants as ask
use Rattle.svc_core_laws.specs.declared.end.End.{End}
use Rattle.svc_core_laws.specs.State.{State}
use Rattle.svc_core_laws.specs.Local.{TurnOutcome, ends, goes_on, sets}
use Rattle.svc_core_laws.specs.Local as out
use Rattle.svc_core_laws.specs.Numbers.{load_bytes, store_bytes}
use Rattle.svc_core_laws.specs.Turns.{data_words, data_start, word_address, access_trap, unless_read_only, store_trap, entry_test_if, entry_test, arrives, outputs, next}
use Rattle.svc_core_laws.specs.Program.{Want, Local, Load, Store, Narrow, Emit}
use Rattle.svc_core_laws.specs.Words.{outcome_want, wants, wants_load, wants_store, wants_write}
use Rattle.svc_core_laws.specs.Bursts.{Advance, Means, burst_outcome, is_nothing}
use Rattle.svc_machine_laws.specs.MachineLaws.{IsWithin}
use Rattle.svc_machine_laws.specs.Events.{want_of, asked_want}
use Rattle.svc_machine_laws.specs.LineEvents.{word_of}
use Rattle.svc_machine_laws.specs.Refusals.{word_unless, asked_word}

-- an access of some bytes that doesn't trap is to a word of the data
in_words : (words n addr : ℕ) → 0 < n → access_trap words n addr ≡ None → word_address addr < words
in_words words n addr some h = split (addr % n == 0) (nat_le data_start addr) (nat_le (addr + n) (data_start + 4 * words)) refl refl refl h
  where
    split : (x y z : Bool) → (addr % n == 0) ≡ x → nat_le data_start addr ≡ y → nat_le (addr + n) (data_start + 4 * words) ≡ z
        → if◌then◌else◌ {A = Option ℕ} x (if◌then◌else◌ {A = Option ℕ} (y && z) None (Some 6)) (Some 5) ≡ None → word_address addr < words
    split true true true e f g k =
        let low : data_start ≤ addr = leb-true data_start addr f in
        let high : addr + n ≤ data_start + 4 * words = leb-true (addr + n) (data_start + 4 * words) g in
        omega (arith, low, high, some)
    split true true false e f g k = absurd (none-some 6 (sym k))
    split true false z e f g k = absurd (none-some 6 (sym k))
    split false y z e f g k = absurd (none-some 5 (sym k))

-- a store that doesn't trap is an access that doesn't
access_passes : (read_only : Bool) (o : Option ℕ) → unless_read_only read_only o ≡ None → o ≡ None
access_passes read_only (Some trap) h = absurd (none-some trap (sym h))
access_passes read_only None h = refl

load_some : (kind : LoadKind) → 0 < load_bytes kind
load_some load.Byte = omega arith
load_some load.Half = omega arith
load_some load.Word = omega arith
load_some load.ByteUnsigned = omega arith
load_some load.HalfUnsigned = omega arith

store_some : (kind : StoreKind) → 0 < store_bytes kind
store_some store.Byte = omega arith
store_some store.Half = omega arith
store_some store.Word = omega arith

-- the wanted word is one of the data
pub wanted_within : (img : Image) (s : State) (o : TurnOutcome) → IsWithin (data_words img) (outcome_want img s o)
wanted_within img s (out.Local c) = tt
wanted_within img s (out.Load kind rd addr) = by (access_trap (data_words img) (load_bytes kind) addr) refl
  where
    by : (t : Option ℕ) → access_trap (data_words img) (load_bytes kind) addr ≡ t → IsWithin (data_words img) (wants_load img s kind rd addr t)
    by (Some trap) e = tt
    by None e = in_words (data_words img) (load_bytes kind) addr (load_some kind) e
wanted_within img s (out.Store kind addr v) = by (store_trap (data_words img) img.read_only (store_bytes kind) addr) refl
  where
    write : (k : StoreKind) → word_address addr < data_words img → IsWithin (data_words img) (wants_write img s k addr v)
    write store.Byte h = h
    write store.Half h = h
    write store.Word h = h

    by : (t : Option ℕ) → store_trap (data_words img) img.read_only (store_bytes kind) addr ≡ t → IsWithin (data_words img) (wants_store img s kind addr v t)
    by (Some trap) e = tt
    by None e = write kind (in_words (data_words img) (store_bytes kind) addr (store_some kind) (access_passes (nat_lt (word_address addr) img.read_only) _ e))
wanted_within img s (out.Emit w) = tt

-- after such a turn the count is this
abbrev pub LeavesCount : ℕ → Want State → Type 0
LeavesCount n (Local c) = c.count ≡ n
LeavesCount n (Load a value go) = (v : ℕ) → (go v).count ≡ n
LeavesCount n (Store a w c) = c.count ≡ n
LeavesCount n (Narrow a f c) = c.count ≡ n
LeavesCount n (Emit w c) = c.count ≡ n

arrived_counts : (entry : Bool) (s : State) → (entry_test entry s).count ≡ s.count
unfolding entry_test
arrived_counts true s = by s.done
  where
    by : (d : Option End) → (entry_test_if true s d).count ≡ s.count
    by None = refl
    by (Some e) = refl
arrived_counts false s = by s.done
  where
    by : (d : Option End) → (entry_test_if false s d).count ≡ s.count
    by None = refl
    by (Some e) = refl

sets_counts : (r v : ℕ) (s : State) → (sets r v s).count ≡ s.count + 1
unfolding sets
sets_counts r v s = refl

-- an asked turn adds one to the count
pub asked_counts : (img : Image) (s : State) (a : Ask) (w : Want State) → want_of img s a ≡ Some w → LeavesCount (s.count + 1) w
asked_counts img s ask.Nothing w h = absurd (none-some w h)
asked_counts img s (ask.Load kind rd addr) w h = subst (LeavesCount (s.count + 1)) (same_Some _ w h) (by (access_trap (data_words img) (load_bytes kind) addr))
  where
    by : (t : Option ℕ) → LeavesCount (s.count + 1) (wants_load img s kind rd addr t)
    by (Some trap) = refl
    by None = λ v. arrived_counts (is_entry img (sets rd.number v s).pc) (sets rd.number v s) ∙ sets_counts rd.number v s
asked_counts img s (ask.Store kind addr v) w h = subst (LeavesCount (s.count + 1)) (same_Some _ w h) (by (store_trap (data_words img) img.read_only (store_bytes kind) addr))
  where
    on : (arrives img (goes_on s)).count ≡ s.count + 1
    on = arrived_counts (is_entry img (goes_on s).pc) (goes_on s)

    write : (k : StoreKind) → LeavesCount (s.count + 1) (wants_write img s k addr v)
    write store.Byte = on
    write store.Half = on
    write store.Word = on

    by : (t : Option ℕ) → LeavesCount (s.count + 1) (wants_store img s kind addr v t)
    by (Some trap) = refl
    by None = write kind
asked_counts img s (ask.Emit e) w h = subst (LeavesCount (s.count + 1)) (same_Some _ w h) (arrived_counts (is_entry img (outputs s).pc) (outputs s))

-- so is the word that an ask wants
pub asked_within : (img : Image) (s : State) (a : Ask) (w : Want State) → want_of img s a ≡ Some w → IsWithin (data_words img) w
asked_within img s ask.Nothing w h = absurd (none-some w h)
asked_within img s (ask.Load kind rd addr) w h = subst (IsWithin (data_words img)) (same_Some _ w h) (wanted_within img s (out.Load kind rd addr))
asked_within img s (ask.Store kind addr v) w h = subst (IsWithin (data_words img)) (same_Some _ w h) (wanted_within img s (out.Store kind addr v))
asked_within img s (ask.Emit e) w h = subst (IsWithin (data_words img)) (same_Some _ w h) (wanted_within img s (out.Emit e))

-- what a burst's ask wants is the next turn at its end
pub asked_next : (img : Image) (b : Advance) → Means img b → (w : Want State) → asked_want img b ≡ Some w → wants img b.end ≡ w
unfolding wants
asked_next img b m w h = by b.ask m.ask h
  where
    by : (a : Ask) → (is_nothing a ≡ false → next img b.end ≡ burst_outcome b.end a) → want_of img b.end a ≡ Some w → outcome_want img b.end (next img b.end) ≡ w
    by ask.Nothing n h = absurd (none-some w h)
    by (ask.Load kind rd addr) n h = ap (outcome_want img b.end) (n refl) ∙ same_Some _ w h
    by (ask.Store kind addr v) n h = ap (outcome_want img b.end) (n refl) ∙ same_Some _ w h
    by (ask.Emit e) n h = ap (outcome_want img b.end) (n refl) ∙ same_Some _ w h

-- the word that an ask wants is the asked word
load_word : (img : Image) (s : State) (kind : LoadKind) (rd : Register) (addr : ℕ) (t : Option ℕ) → word_of (wants_load img s kind rd addr t) ≡ word_unless t addr
load_word img s kind rd addr None = refl
load_word img s kind rd addr (Some trap) = refl

store_word : (img : Image) (s : State) (kind : StoreKind) (addr v : ℕ) (t : Option ℕ) → word_of (wants_store img s kind addr v t) ≡ word_unless t addr
store_word img s store.Byte addr v None = refl
store_word img s store.Half addr v None = refl
store_word img s store.Word addr v None = refl
store_word img s kind addr v (Some trap) = refl

pub asked_word_is : (img : Image) (s : State) (a : Ask) (w : Want State) → want_of img s a ≡ Some w → word_of w ≡ asked_word img a
asked_word_is img s ask.Nothing w h = absurd (none-some w h)
asked_word_is img s (ask.Load kind rd addr) w h = ap word_of (sym (same_Some _ w h)) ∙ load_word img s kind rd addr (access_trap (data_words img) (load_bytes kind) addr)
asked_word_is img s (ask.Store kind addr v) w h = ap word_of (sym (same_Some _ w h)) ∙ store_word img s kind addr v (store_trap (data_words img) img.read_only (store_bytes kind) addr)
asked_word_is img s (ask.Emit e) w h = ap word_of (sym (same_Some _ w h))
