-- A turn on bytes does what it wants of words.
use Rattle.std.proofs.Common.{◌≡◌, ℕ, ◌+◌, ◌-◌, ◌*◌, ◌^◌, ◌/◌, ◌%◌, ◌<◌, ◌≤◌, Bool, true, false, cond, List, ◌++◌, length, get_or, arith, sym, ◌∙◌, ap, refl, Option, Some, None}
use Rattle.std.specs.Prelude.{◌==◌, ◌&&◌, nat_le, nat_lt, unwrap_or}
use Rattle.std.proofs.lemmas.List.{append-nil}
use Rattle.std.proofs.lemmas.Bool.{eqb-true, eqb-false, leb-true, and_parts, cond_both}
use Rattle.svc_rv32i.specs.declared.instr.Register.{Register}
use Rattle.svc_rv32i.specs.declared.instr.LoadKind.{LoadKind}
use Rattle.svc_rv32i.specs.declared.instr.LoadKind.TheVariants as load
use Rattle.svc_rv32i.specs.declared.instr.StoreKind.{StoreKind}
use Rattle.svc_rv32i.specs.declared.instr.StoreKind.TheVariants as store
use Rattle.svc_core_laws.specs.Numbers.{extension, load_bytes, store_bytes}
use Rattle.svc_image.specs.Image.{Image}
use Rattle.svc_core_laws.specs.State.{State}
use Rattle.svc_core_laws.specs.Local.{TurnOutcome, ends, goes_on, sets}
use Rattle.svc_core_laws.specs.Local as out
use Rattle.svc_core_laws.specs.Bytes.{number_at, word_at, with_bytes, bytes_from, word_with_bytes, IsMemory}
use Rattle.svc_core_laws.specs.Turns.{Turn, data_words, data_start, word_address, access_trap, unless_read_only, store_trap, arrives, next, loads, stores, on_bytes, plain}
use Rattle.svc_core_laws.specs.Words.{wants_load, wants_store, outcome_want, wants}
use Rattle.svc_core_laws.specs.Program.{Memory, Run, Action, act, wrote, over, output, Words, with_word}
use Rattle.svc_core_laws.proofs.Memory.{load-is, store-is, store_elsewhere, length-with_bytes, bytes-with_bytes, number-below}

-- where an access that isn't a trap lies: byte o of word a
record Place (img : Image) (n addr : ℕ) : Type 0 where
  pub rest : ℕ
  pub fits : (addr - data_start) % 4 + (n + rest) ≡ 4
  pub within : 4 * ((addr - data_start) / 4) + 4 ≤ 4 * data_words img

data IsWidth : ℕ → Type 0 where
  one : IsWidth 1
  two : IsWidth 2
  four : IsWidth 4

load_width : (kind : LoadKind) → IsWidth (load_bytes kind)
load_width load.Byte = one
load_width load.Half = two
load_width load.Word = four
load_width load.ByteUnsigned = one
load_width load.HalfUnsigned = two

store_width : (kind : StoreKind) → IsWidth (store_bytes kind)
store_width store.Byte = one
store_width store.Half = two
store_width store.Word = four

placed : (img : Image) (n addr : ℕ) → IsWidth n → addr % n ≡ 0 → data_start ≤ addr → addr + n ≤ data_start + 4 * data_words img → Place img n addr
placed img _ addr one e low high = record { rest = 3 - (addr - data_start) % 4; fits = omega arith; within = omega arith }
placed img _ addr two e low high = record { rest = 2 - (addr - data_start) % 4; fits = omega arith; within = omega arith }
placed img _ addr four e low high = record { rest = 0; fits = omega arith; within = omega arith }

passed : (b : Bool) (x : Option ℕ) (k : ℕ) → cond b x (Some k) ≡ None → (b ≡ true) × (x ≡ None)
passed true x k e = (refl, e)
passed false x k e = absurd cc

-- a store that doesn't trap is an access that doesn't
written-access : (words read_only n addr : ℕ) → store_trap words read_only n addr ≡ None → access_trap words n addr ≡ None
written-access words read_only n addr = by (nat_lt (word_address addr) read_only) (access_trap words n addr)
  where
    by : (b : Bool) (o : Option ℕ) → unless_read_only b o ≡ None → o ≡ None
    by b (Some trap) e = absurd cc
    by b None e = refl

place : (img : Image) (n addr : ℕ) → IsWidth n → access_trap (data_words img) n addr ≡ None → Place img n addr
place img n addr w e =
    let p = passed (addr % n == 0) _ 5 e in
    let q = passed (nat_le data_start addr && nat_le (addr + n) (data_start + 4 * data_words img)) None 6 p.1 in
    let r = and_parts (nat_le data_start addr) (nat_le (addr + n) (data_start + 4 * data_words img)) q.0 in
    placed img n addr w (eqb-true (addr % n) 0 p.0) (leb-true data_start addr r.0) (leb-true (addr + n) (data_start + 4 * data_words img) r.1)

-- what a turn leaves, on bytes and on words, after what was done before
pub record After (img : Image) (m : Memory) (log : List Action) (t : Turn) (r : Run State) : Type 0 where
  pub core : r.core ≡ t.core
  pub memory : (a : ℕ) → over (wrote r.log) m a ≡ word_at t.memory a
  pub output : output r.log ≡ output log ++ t.output
  pub is_memory : IsMemory (data_words img) t.memory

-- the memory of bytes is what was written over the words
abbrev pub Stands : Memory → List Action → List ℕ → Type 0
Stands base log m = (a : ℕ) → over (wrote log) base a ≡ word_at m a

quotient : (x : ℕ) → 4 * (x / 4) + x % 4 ≡ x
quotient x = omega arith

same_load : (img : Image) (base : Memory) (log : List Action) (s : State) (m : List ℕ) → Stands base log m → (kind : LoadKind) (rd : Register) (addr : ℕ) → IsMemory (data_words img) m → (o : Option ℕ) → access_trap (data_words img) (load_bytes kind) addr ≡ o → After img base log (loads img s m kind rd addr o) (act (wants_load img s kind rd addr o) (word_at m) log)
same_load img base log s m stands kind rd addr is (Some trap) e = record { core = refl; memory = stands; output = sym (append-nil (output log)); is_memory = is }
same_load img base log s m stands kind rd addr is None e =
    let x = addr - data_start in
    let n = load_bytes kind in
    let p = place img n addr (load_width kind) e in
    let same : bytes_from (x % 4) n (word_at m (x / 4)) ≡ number_at n x m = sym (load-is (x % 4) n p.rest (x / 4) m p.fits is.bytes) ∙ ap (λ (k : ℕ). number_at n k m) (quotient x) in
    record {
      core = ap (λ (v : ℕ). arrives img (sets rd.number (extension kind v) s)) same;
      memory = stands;
      output = sym (append-nil (output log));
      is_memory = is;
    }

-- one more word stands over a memory
over_one : (b w a x : ℕ) (words : Words) (m : Memory) → (b ≡ a → w ≡ x) → ((b ≡ a → ⊥) → over words m a ≡ x) → over (with_word b w words) m a ≡ x
over_one b w a x words m at elsewhere = cond_both (b == a) (Some w) (words a) (λ (o : Option ℕ). unwrap_or o (m a) ≡ x) (λ e. at (eqb-true b a e)) (λ e. elsewhere (eqb-false b a e))

-- the memory after a store, by words
stored : (img : Image) (base : Memory) (log : List Action) (m : List ℕ) → Stands base log m → (n addr v : ℕ) → IsMemory (data_words img) m → Place img n addr → (a : ℕ) → over (with_word ((addr - data_start) / 4) (word_with_bytes ((addr - data_start) % 4) n v (word_at m ((addr - data_start) / 4))) (wrote log)) base a ≡ word_at (with_bytes n (addr - data_start) v m) a
stored img base log m stands n addr v is p a =
    let x = addr - data_start in
    let turned : word_at (with_bytes n x v m) a ≡ word_at (with_bytes n (4 * (x / 4) + x % 4) v m) a = ap (λ (k : ℕ). word_at (with_bytes n k v m) a) (sym (quotient x)) in
    let fits : 4 * (x / 4) + 4 ≤ length m = omega (arith, p.within, is.size) in
    over_one (x / 4) (word_with_bytes (x % 4) n v (word_at m (x / 4))) a (word_at (with_bytes n x v m) a) (wrote log) base
    (λ same. sym (store-is (x % 4) n p.rest (x / 4) v m p.fits is.bytes fits) ∙ ap (word_at (with_bytes n (4 * (x / 4) + x % 4) v m)) same ∙ sym turned)
    (λ other. stands a ∙ sym (store_elsewhere (x % 4) n p.rest (x / 4) a v m p.fits (λ e. other (sym e))) ∙ sym turned)

kept : (img : Image) (m : List ℕ) (n k v : ℕ) → IsMemory (data_words img) m → IsMemory (data_words img) (with_bytes n k v m)
kept img m n k v is = record { size = length-with_bytes n k v m ∙ is.size; bytes = bytes-with_bytes n k v m is.bytes }

-- a whole word in place of a word
replaced_whole : (o v w : ℕ) → o ≡ 0 → w < 2 ^ 32 → word_with_bytes o 4 v w ≡ v % 2 ^ 32
replaced_whole o v w e h = rw e (omega arith)

whole_word : (m : List ℕ) (a : ℕ) → ((i : ℕ) → get_or m i 0 < 256) → word_at m a < 2 ^ 32
unfolding word_at
whole_word m a bytes = number-below 4 (4 * a) m bytes

same_store : (img : Image) (base : Memory) (log : List Action) (s : State) (m : List ℕ) → Stands base log m → (kind : StoreKind) (addr v : ℕ) → IsMemory (data_words img) m → (o : Option ℕ) → store_trap (data_words img) img.read_only (store_bytes kind) addr ≡ o → After img base log (stores img s m kind addr v o) (act (wants_store img s kind addr v o) (word_at m) log)
same_store img base log s m stands kind addr v is (Some trap) e = record { core = refl; memory = stands; output = sym (append-nil (output log)); is_memory = is }
same_store img base log s m stands store.Byte addr v is None e = record { core = refl; memory = stored img base log m stands 1 addr v is (place img 1 addr one (written-access (data_words img) img.read_only 1 addr e)); output = sym (append-nil (output log)); is_memory = kept img m 1 (addr - data_start) v is }
same_store img base log s m stands store.Half addr v is None e = record { core = refl; memory = stored img base log m stands 2 addr v is (place img 2 addr two (written-access (data_words img) img.read_only 2 addr e)); output = sym (append-nil (output log)); is_memory = kept img m 2 (addr - data_start) v is }
same_store img base log s m stands store.Word addr v is None e =
    let x = addr - data_start in
    let p = place img 4 addr four (written-access (data_words img) img.read_only 4 addr e) in
    let whole : word_with_bytes (x % 4) 4 v (word_at m (x / 4)) ≡ v % 2 ^ 32 = replaced_whole (x % 4) v (word_at m (x / 4)) (omega (arith, p.fits)) (whole_word m (x / 4) is.bytes) in
    record {
      core = refl;
      memory = λ a. ap (λ (w : ℕ). over (with_word (x / 4) w (wrote log)) base a) (sym whole) ∙ stored img base log m stands 4 addr v is p a;
      output = sym (append-nil (output log));
      is_memory = kept img m 4 x v is;
    }

same_outcome : (img : Image) (base : Memory) (log : List Action) (s : State) (m : List ℕ) → Stands base log m → (x : TurnOutcome) → IsMemory (data_words img) m → After img base log (on_bytes img s m x) (act (outcome_want img s x) (word_at m) log)
same_outcome img base log s m stands (out.Local c) is = record { core = refl; memory = stands; output = sym (append-nil (output log)); is_memory = is }
same_outcome img base log s m stands (out.Load kind rd addr) is = same_load img base log s m stands kind rd addr is (access_trap (data_words img) (load_bytes kind) addr) refl
same_outcome img base log s m stands (out.Store kind addr v) is = same_store img base log s m stands kind addr v is (store_trap (data_words img) img.read_only (store_bytes kind) addr) refl
same_outcome img base log s m stands (out.Emit w) is = record { core = refl; memory = stands; output = refl; is_memory = is }

-- a turn on bytes is what the turn wants, done on words
pub same_turn : (img : Image) (base : Memory) (log : List Action) (s : State) (m : List ℕ) → Stands base log m → IsMemory (data_words img) m → After img base log (plain img s m) (act (wants img s) (word_at m) log)
unfolding plain wants
same_turn img base log s m stands is = same_outcome img base log s m stands (next img s) is
