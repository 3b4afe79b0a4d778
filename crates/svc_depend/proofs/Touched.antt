-- The words that an asked turn touches are those that its turn wants.
use Rattle.std.proofs.Common.{◌≡◌, ℕ, false, List, Option, Some, None, refl, sym, ◌∙◌, ap, ap₂}
use Rattle.std.specs.Prelude.{slice_index}
use Rattle.svc_rv32i.specs.declared.instr.Register.{Register}
use Rattle.svc_rv32i.specs.declared.instr.LoadKind.{LoadKind}
use Rattle.svc_rv32i.specs.declared.instr.StoreKind.{StoreKind}
use Rattle.svc_rv32i.specs.declared.instr.StoreKind.TheVariants as store
use Rattle.svc_rv32i.specs.declared.decoded.Decoded.{Decoded}
use Rattle.svc_image.specs.Image.{Image, fetch}
use Rattle.svc_image.specs.Slots.{decoded_at}
use Rattle.svc_core_laws.specs.declared.ask.Ask.{Ask}
use Rattle.svc_core_laws.specs.declared.ask.Ask.TheVariants as ask
use Rattle.svc_core_laws.specs.Numbers.{load_bytes, store_bytes}
use Rattle.svc_core_laws.specs.State.{State}
use Rattle.svc_core_laws.specs.Local.{outcome_at}
use Rattle.svc_core_laws.specs.Turns.{data_words, word_address, access_trap, store_trap}
use Rattle.svc_core_laws.specs.Words.{wants, outcome_want, wants_load, wants_store}
use Rattle.svc_core_laws.specs.Bursts.{is_nothing, burst_outcome}
use Rattle.svc_core_laws.specs.Steps.{step_of, after_ask}
use Rattle.svc_core_laws.proofs.Ends.{next_running}
use Rattle.svc_core_laws.proofs.OneStep.{at_entry, step_is}
use Rattle.svc_core.specs.Decoded.{outcome_at_found}
use Rattle.svc_core.proofs.Decoding.{found_turn}
use Rattle.svc_depend_laws.specs.Chain.{word_read, word_written}
use Rattle.svc_depend.specs.Touch.{unless_trap, part_read, asked_read, asked_written}

load_reads : (img : Image) (s : State) (kind : LoadKind) (rd : Register) (addr : ℕ) (trap : Option ℕ) → word_read (wants_load img s kind rd addr trap) ≡ unless_trap trap (word_address addr)
load_reads img s kind rd addr (Some trap) = refl
load_reads img s kind rd addr None = refl

load_writes : (img : Image) (s : State) (kind : LoadKind) (rd : Register) (addr : ℕ) (trap : Option ℕ) → word_written (wants_load img s kind rd addr trap) ≡ None
load_writes img s kind rd addr (Some trap) = refl
load_writes img s kind rd addr None = refl

store_reads : (img : Image) (s : State) (kind : StoreKind) (addr v : ℕ) (trap : Option ℕ) → word_read (wants_store img s kind addr v trap) ≡ part_read kind (unless_trap trap (word_address addr))
store_reads img s store.Byte addr v (Some trap) = refl
store_reads img s store.Half addr v (Some trap) = refl
store_reads img s store.Word addr v (Some trap) = refl
store_reads img s store.Byte addr v None = refl
store_reads img s store.Half addr v None = refl
store_reads img s store.Word addr v None = refl

store_writes : (img : Image) (s : State) (kind : StoreKind) (addr v : ℕ) (trap : Option ℕ) → word_written (wants_store img s kind addr v trap) ≡ unless_trap trap (word_address addr)
store_writes img s kind addr v (Some trap) = refl
store_writes img s store.Byte addr v None = refl
store_writes img s store.Half addr v None = refl
store_writes img s store.Word addr v None = refl

shown_reads : (img : Image) (s c : State) (a : Ask) → word_read (outcome_want img s (burst_outcome c a)) ≡ asked_read (data_words img) img.read_only a
shown_reads img s c ask.Nothing = refl
shown_reads img s c (ask.Load kind rd addr) = load_reads img s kind rd addr (access_trap (data_words img) (load_bytes kind) addr)
shown_reads img s c (ask.Store kind addr v) = store_reads img s kind addr v (store_trap (data_words img) img.read_only (store_bytes kind) addr)
shown_reads img s c (ask.Emit w) = refl

shown_writes : (img : Image) (s c : State) (a : Ask) → word_written (outcome_want img s (burst_outcome c a)) ≡ asked_written (data_words img) img.read_only a
shown_writes img s c ask.Nothing = refl
shown_writes img s c (ask.Load kind rd addr) = load_writes img s kind rd addr (access_trap (data_words img) (load_bytes kind) addr)
shown_writes img s c (ask.Store kind addr v) = store_writes img s kind addr v (store_trap (data_words img) img.read_only (store_bytes kind) addr)
shown_writes img s c (ask.Emit w) = refl

module _ (img : Image) (s c : State) (a : Ask) (found : Option Decoded) (words read_only : ℕ) (running : s.done ≡ None) (here : found ≡ decoded_at img s.pc) (turn : outcome_at_found s found ≡ burst_outcome c a) (size : words ≡ data_words img) (first : read_only ≡ img.read_only) where
  outcome : outcome_at s (fetch img s.pc) ≡ burst_outcome c a
  outcome = found_turn s (fetch img s.pc) ∙ ap (outcome_at_found s) (sym here) ∙ turn

  wants_is : wants img s ≡ outcome_want img s (burst_outcome c a)
  unfolding wants
  wants_is = ap (outcome_want img s) (next_running img s running ∙ outcome)

  pub turn_reads : asked_read words read_only a ≡ word_read (wants img s)
  turn_reads = ap₂ (λ n r. asked_read n r a) size first ∙ sym (ap word_read wants_is ∙ shown_reads img s c a)

  pub turn_writes : asked_written words read_only a ≡ word_written (wants img s)
  turn_writes = ap₂ (λ n r. asked_written n r a) size first ∙ sym (ap word_written wants_is ∙ shown_writes img s c a)

  -- the whole turn
  pub turn_is : (m : List ℕ) → (is_nothing a ≡ false → c ≡ s) → step_of img s m ≡ at_entry img (after_ask words read_only a c (slice_index m))
  turn_is m asked = step_is img a s c (fetch img s.pc) words read_only m running refl outcome asked size first
