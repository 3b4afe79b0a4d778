-- A running task that asks has a turn left, and a word left where it puts one out.
use Rattle.std.proofs.Common.{◌≡◌, ℕ, zero, suc, ◌<◌, ◌≤◌, ◌==◌, Bool, true, false, List, Option, Some, None, refl, sym, ◌∙◌, subst, arith}
use Rattle.std.proofs.lemmas.Option.{none-some}
use Rattle.std.proofs.lemmas.Bool.{cond_both, eq-eqb}
use borrow.Author.Tests.{both_ways}
use Rattle.svc_rv32i.specs.declared.instr.Instr.{Instr}
use Rattle.svc_rv32i.specs.declared.instr.Instr.TheVariants as i
use Rattle.svc_rv32i.specs.declared.instr.LoadKind.{LoadKind}
use Rattle.svc_rv32i.specs.declared.instr.Register.{Register}
use Rattle.svc_rv32i.specs.declared.instr.StoreKind.{StoreKind}
use Rattle.svc_rv32i.specs.declared.instr.StoreKind.TheVariants as store
use Rattle.svc_rv32i.specs.Meaning.{meaning}
use Rattle.svc_image.specs.Image.{Image, fetch, is_entry}
use Rattle.svc_core_laws.specs.declared.ask.Ask.{Ask}
use Rattle.svc_core_laws.specs.declared.ask.Ask.TheVariants as ask
use Rattle.svc_core_laws.specs.declared.end.End.{End}
use Rattle.svc_core_laws.specs.declared.end.End.TheVariants as end
use Rattle.svc_core_laws.specs.Numbers.{load_bytes, store_bytes}
use Rattle.svc_core_laws.specs.State.{State}
use Rattle.svc_core_laws.specs.Local.{TurnOutcome, ends, goes_on, sets, calls, outcome_of, outcome_of_meaning, outcome_of_word, outcome_at}
use Rattle.svc_core_laws.specs.Local as out
use Rattle.svc_core_laws.specs.Turns.{data_words, access_trap, store_trap, entry_test_if, entry_test, arrives, outputs}
use Rattle.svc_core_laws.specs.Words.{wants_load, wants_store, outcome_want, wants, program}
use Rattle.svc_core_laws.specs.Program.{Memory, Want, Run, Action, act, part, over, wrote}
use Rattle.svc_core_laws.specs.Bursts.{burst_outcome, IsReady}
use Rattle.svc_core_laws.proofs.Ends.{CountsTurn, Locally, outcome_counts, next_running, stays}

-- what an outcome says of the turns and words left
Leaves : State → TurnOutcome → Type 0
Leaves s (out.Local c) = s.count ≡ s.limit → (e : End) × (c.done ≡ Some e)
Leaves s (out.Load kind rd addr) = s.count ≡ s.limit → ⊥
Leaves s (out.Store kind addr v) = s.count ≡ s.limit → ⊥
Leaves s (out.Emit w) = (s.count ≡ s.limit → ⊥) × (s.emitted ≡ 64 → ⊥)

FewWords : State → TurnOutcome → Type 0
FewWords s (out.Local c) = Unit {0}
FewWords s (out.Load kind rd addr) = Unit {0}
FewWords s (out.Store kind addr v) = Unit {0}
FewWords s (out.Emit w) = s.emitted ≡ 64 → ⊥

calls_few : (x17 : ℕ) (s : State) → FewWords s (calls x17 s)
unfolding calls FewWords
calls_few x17 s =
    let P : TurnOutcome → Type 0 = FewWords s in
    cond_both (x17 == 0) _ _ P (λ e. tt)
    (λ e. cond_both (x17 == 1) _ _ P (λ e. cond_both (s.emitted == 64) _ _ P (λ e. tt) (λ e. λ same. both_ways (s.emitted == 64) e (eq-eqb s.emitted 64 same))) (λ e. tt))

instr_few : (s : State) (x : Instr) → FewWords s (outcome_of s x)
unfolding outcome_of FewWords
instr_few s (i.Lui rd imm) = tt
instr_few s (i.Auipc rd imm) = tt
instr_few s (i.OpImm op rd rs1 imm) = tt
instr_few s (i.ShiftImm op rd rs1 amount) = tt
instr_few s (i.Op op rd rs1 rs2) = tt
instr_few s (i.Jal rd imm) = tt
instr_few s (i.Jalr rd rs1 imm) = tt
instr_few s (i.Branch test rs1 rs2 imm) = tt
instr_few s (i.Load kind rd rs1 imm) = tt
instr_few s (i.Store kind rs1 rs2 imm) = tt
instr_few s (i.Fence rd rs1 imm) = tt
instr_few s i.Ecall = calls_few _ s
instr_few s i.Ebreak = tt

meaning_few : (s : State) (o : Option Instr) → FewWords s (outcome_of_meaning s o)
unfolding FewWords
meaning_few s None = tt
meaning_few s (Some x) = instr_few s x

word_few : (s : State) (o : Option ℕ) → FewWords s (outcome_of_word s o)
unfolding FewWords
word_few s None = tt
word_few s (Some w) = meaning_few s (meaning w)

early : (s : State) (x : TurnOutcome) → (s.count ≡ s.limit → ⊥) → FewWords s x → Leaves s x
unfolding FewWords Leaves
early s (out.Local c) ne few = λ same. absurd (ne same)
early s (out.Load kind rd addr) ne few = ne
early s (out.Store kind addr v) ne few = ne
early s (out.Emit w) ne few = (ne, few)

leaves : (s : State) (word : Option ℕ) → Leaves s (outcome_at s word)
unfolding outcome_at Leaves
leaves s word =
    cond_both (s.count == s.limit) _ _ (Leaves s)
    (λ e. λ same. (end.Trap 1, refl))
    (λ e. early s (outcome_of_word s word) (λ same. both_ways (s.count == s.limit) e (eq-eqb s.count s.limit same)) (word_few s word))

-- a core within its limits: it has turned no more than its limit while it runs, and has output at most 64 words
pub record Fits (s : State) : Type 0 where
  pub turns : s.done ≡ None → s.count ≤ s.limit
  pub words : s.emitted ≤ 64

-- what may come of a turn that is within them
Moves : State → TurnOutcome → Type 0
Moves s (out.Local c) = Fits c
Moves s (out.Load kind rd addr) = s.count < s.limit
Moves s (out.Store kind addr v) = s.count < s.limit
Moves s (out.Emit w) = (s.count < s.limit) × (s.emitted < 64)

below_limit : (a b : ℕ) → a ≤ b → (a ≡ b → ⊥) → a < b
below_limit a b le ne = grind (arith, le, ne)

moves : (s : State) (x : TurnOutcome) → s.done ≡ None → Fits s → Locally (CountsTurn (λ pc. Unit {0}) 0 s) x → Leaves s x → Moves s x
unfolding Leaves Moves
moves s (out.Local c) r fits counts left = record {
  turns = λ n. let lt : s.count < s.limit = below_limit s.count s.limit (fits.turns r) (λ same. let x = left same in none-some x.0 (sym n ∙ x.1)) in omega (arith, lt, counts.count, counts.limit);
  words = omega (arith, fits.words, counts.emitted);
}
moves s (out.Load kind rd addr) r fits counts left = below_limit s.count s.limit (fits.turns r) left
moves s (out.Store kind addr v) r fits counts left = below_limit s.count s.limit (fits.turns r) left
moves s (out.Emit w) r fits counts left = (below_limit s.count s.limit (fits.turns r) left.0, below_limit s.emitted 64 fits.words left.1)

trapped_fits : (s : State) (e : End) → Fits s → Fits (ends e s)
trapped_fits s e fits = record { turns = λ n. absurd (none-some e (sym n)); words = fits.words }

arrived_fits : (entry : Bool) (s : State) (o : Option End) → s.done ≡ o → Fits s → Fits (entry_test_if entry s o)
arrived_fits true s None e fits = record { turns = λ n. absurd (none-some (end.Next s.pc) (sym n)); words = fits.words }
arrived_fits false s None e fits = fits
arrived_fits entry s (Some x) e fits = fits

arrives_fits : (img : Image) (s : State) → Fits s → Fits (arrives img s)
unfolding entry_test
arrives_fits img s fits = arrived_fits (is_entry img s.pc) s s.done refl fits

set_fits : (r v : ℕ) (s : State) → s.count < s.limit → Fits s → Fits (sets r v s)
unfolding sets
set_fits r v s lt fits = record { turns = λ n. omega (arith, lt); words = fits.words }

gone_fits : (s : State) → s.count < s.limit → Fits s → Fits (goes_on s)
gone_fits s lt fits = record { turns = λ n. omega (arith, lt); words = fits.words }

out_fits : (s : State) → s.count < s.limit → s.emitted < 64 → Fits (outputs s)
out_fits s lt few = record { turns = λ n. omega (arith, lt); words = omega (arith, few) }

load_fits : (img : Image) (s : State) (kind : LoadKind) (rd : Register) (addr : ℕ) (o : Option ℕ) (m : Memory) (log : List Action) → Fits s → s.count < s.limit → Fits (act (wants_load img s kind rd addr o) m log).core
load_fits img s kind rd addr (Some trap) m log fits lt = trapped_fits s (end.Trap trap) fits
load_fits img s kind rd addr None m log fits lt = arrives_fits img _ (set_fits rd.number _ s lt fits)

store_fits : (img : Image) (s : State) (kind : StoreKind) (addr v : ℕ) (o : Option ℕ) (m : Memory) (log : List Action) → Fits s → s.count < s.limit → Fits (act (wants_store img s kind addr v o) m log).core
store_fits img s kind addr v (Some trap) m log fits lt = trapped_fits s (end.Trap trap) fits
store_fits img s store.Byte addr v None m log fits lt = arrives_fits img (goes_on s) (gone_fits s lt fits)
store_fits img s store.Half addr v None m log fits lt = arrives_fits img (goes_on s) (gone_fits s lt fits)
store_fits img s store.Word addr v None m log fits lt = arrives_fits img (goes_on s) (gone_fits s lt fits)

wanted_fits : (img : Image) (s : State) (x : TurnOutcome) (m : Memory) (log : List Action) → Fits s → Moves s x → Fits (act (outcome_want img s x) m log).core
unfolding Moves
wanted_fits img s (out.Local c) m log fits moved = arrives_fits img c moved
wanted_fits img s (out.Load kind rd addr) m log fits moved = load_fits img s kind rd addr (access_trap (data_words img) (load_bytes kind) addr) m log fits moved
wanted_fits img s (out.Store kind addr v) m log fits moved = store_fits img s kind addr v (store_trap (data_words img) img.read_only (store_bytes kind) addr) m log fits moved
wanted_fits img s (out.Emit w) m log fits moved = arrives_fits img (outputs s) (out_fits s moved.0 moved.1)

turn_fits : (img : Image) (s : State) (m : Memory) (log : List Action) (o : Option End) → s.done ≡ o → Fits s → Fits (act (wants img s) m log).core
unfolding wants
turn_fits img s m log None r fits =
    subst (λ (x : TurnOutcome). Fits (act (outcome_want img s x) m log).core) (sym (next_running img s r))
    (wanted_fits img s (outcome_at s (fetch img s.pc)) m log fits (moves s (outcome_at s (fetch img s.pc)) r fits (outcome_counts (λ pc. Unit {0}) s (fetch img s.pc) r) (leaves s (fetch img s.pc))))
turn_fits img s m log (Some e) h fits = subst (λ (w : Want State). Fits (act w m log).core) (sym (stays img s e h)) fits

-- so is each task
pub task_fits : (img : Image) (e n : ℕ) (m : Memory) → Fits (part (program img) e n m).core
task_fits img e zero m = record { turns = λ n. omega arith; words = omega arith }
task_fits img e (suc n) m = let r : Run State = part (program img) e n m in turn_fits img r.core (over (wrote r.log) m) r.log r.core.done refl (task_fits img e n m)

-- and what it asks for may be done
pub ready_for : (s : State) (word : Option ℕ) (a : Ask) → s.done ≡ None → Fits s → outcome_at s word ≡ burst_outcome s a → IsReady s a
unfolding Leaves
ready_for s word a r fits e = of a (subst (Leaves s) e (leaves s word))
  where
    of : (a : Ask) → Leaves s (burst_outcome s a) → IsReady s a
    of ask.Nothing left = tt
    of (ask.Load kind rd addr) left = (r, below_limit s.count s.limit (fits.turns r) left)
    of (ask.Store kind addr v) left = (r, below_limit s.count s.limit (fits.turns r) left)
    of (ask.Emit w) left = (r, below_limit s.count s.limit (fits.turns r) left.0, below_limit s.emitted 64 fits.words left.1)
