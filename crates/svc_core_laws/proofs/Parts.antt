-- The turns of a task on bytes are those of the program on words.
use Rattle.std.proofs.Common.{◌≡◌, ℕ, zero, suc, List, [], ◌++◌, ◌+◌, add-one, sym, ◌∙◌, ap, refl, subst}
use Rattle.svc_core_laws.specs.State.{State}
use Rattle.svc_core_laws.specs.Bytes.{word_at, IsMemory}
use Rattle.svc_image.specs.Image.{Image}
use Rattle.svc_core_laws.specs.Turns.{Turn, data_words, plain, then_plain}
use Rattle.svc_core_laws.specs.Words.{wants, program}
use Rattle.svc_core_laws.specs.Program.{Memory, Run, act, turn, part, wrote, over}
use Rattle.svc_core_laws.specs.Sequence.{plain_part, IsSame}
use Rattle.svc_core_laws.proofs.OnWords.{same_turn, After}

-- one more turn of a run that left the same
one_more : (img : Image) (m : Memory) (t : Turn) (r : Run State) → IsSame img m t r → IsSame img m (then_plain img t) (act (wants img r.core) (over (wrote r.log) m) r.log)
one_more img m t r s =
    let memories : over (wrote r.log) m ≡ word_at t.memory = λ i a. s.memory a i in
    let after : After img m r.log (plain img t.core t.memory) (act (wants img t.core) (word_at t.memory) r.log) = same_turn img m r.log t.core t.memory s.memory s.is_memory in
    let run : act (wants img r.core) (over (wrote r.log) m) r.log ≡ act (wants img t.core) (word_at t.memory) r.log = ap (λ (c : State). act (wants img c) (over (wrote r.log) m) r.log) s.core ∙ ap (λ (x : Memory). act (wants img t.core) x r.log) memories in
    subst (λ (u : Run State). IsSame img m (then_plain img t) u) (sym run)
    (record {
      core = after.core;
      memory = after.memory;
      output = after.output ∙ ap (λ (x : List ℕ). x ++ (plain img t.core t.memory).output) s.output;
      is_memory = after.is_memory;
    })

pub same_part : (img : Image) (e n : ℕ) (m : List ℕ) → IsMemory (data_words img) m → IsSame img (word_at m) (plain_part img e n m) (part (program img) e n (word_at m))
same_part img e zero m is = record { core = refl; memory = λ a. refl; output = refl; is_memory = is }
same_part img e (suc n) m is = one_more img (word_at m) (plain_part img e n m) (part (program img) e n (word_at m)) (same_part img e n m is)

-- one turn on bytes and on words
pub same_one : (img : Image) (s : State) (m : List ℕ) → IsMemory (data_words img) m → IsSame img (word_at m) (plain img s m) (act (wants img s) (word_at m) [])
same_one img s m is =
    let after : After img (word_at m) [] (plain img s m) (act (wants img s) (word_at m) []) = same_turn img (word_at m) [] s m (λ a. refl) is in
    record { core = after.core; memory = after.memory; output = after.output; is_memory = after.is_memory }

pub plain_more : (img : Image) (e n : ℕ) (m : List ℕ) → plain_part img e (n + 1) m ≡ then_plain img (plain_part img e n m)
plain_more img e n m = ap (λ (j : ℕ). plain_part img e j m) (add-one n)

pub part_more : (img : Image) (e n : ℕ) (m : Memory) → part (program img) e (n + 1) m ≡ turn (program img) (part (program img) e n m) m
part_more img e n m = ap (λ (j : ℕ). part (program img) e j m) (add-one n)
