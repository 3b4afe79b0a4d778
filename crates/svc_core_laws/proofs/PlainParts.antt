-- A part of a task on flat memories of bytes depends on its exposed words alone.
use Rattle.std.proofs.Common.{ℕ, ◌≡◌, true, List, Option, Some, sym, ap, ◌∙◌, unwrap_or}
use Rattle.svc_image.specs.Image.{Image}
use Rattle.svc_core_laws.specs.Bytes.{IsMemory, word_at}
use Rattle.svc_core_laws.specs.State.{State}
use Rattle.svc_core_laws.specs.Turns.{Turn, data_words}
use Rattle.svc_core_laws.specs.Program.{Memory, Run, part, exposed_words, wrote, output}
use Rattle.svc_core_laws.specs.Words.{program}
use Rattle.svc_core_laws.specs.Sequence.{plain_part, IsSame, IsSamePart}
use Rattle.svc_core_laws.proofs.Central.{part_agrees}
use Rattle.svc_core_laws.proofs.Parts.{same_part}

-- a written word stands in the memory that the turns leave
written_is : (img : Image) (m : Memory) (t : Turn) (r : Run State) → IsSame img m t r → (a v : ℕ) → wrote r.log a ≡ Some v → word_at t.memory a ≡ v
written_is img m t r same a v h = sym (same.memory a) ∙ ap (λ (o : Option ℕ). unwrap_or o (m a)) h

-- what two parts left that did the same on words
left_same : (img : Image) (m other : Memory) (t u : Turn) (r s : Run State) → IsSame img m t r → IsSame img other u s → r ≡ s → IsSamePart (wrote r.log) t u
left_same img m other t u r s first second e = record {
  core = sym first.core ∙ (ap (λ (x : Run State). x.core) e ∙ second.core);
  output = sym first.output ∙ (ap (λ (x : Run State). output x.log) e ∙ second.output);
  words = λ a v h. (written_is img m t r first a v h, written_is img other u s second a v (sym (ap (λ (x : Run State). wrote x.log a) e) ∙ h));
}

pub same_plain : (img : Image) (entry turns : ℕ) (m other : List ℕ) → IsMemory (data_words img) m → IsMemory (data_words img) other
    → ((a : ℕ) → exposed_words (part (program img) entry turns (word_at m)).log a ≡ true → word_at m a ≡ word_at other a)
    → IsSamePart (wrote (part (program img) entry turns (word_at m)).log) (plain_part img entry turns m) (plain_part img entry turns other)
same_plain img entry turns m other is other_is agree =
    left_same img (word_at m) (word_at other) (plain_part img entry turns m) (plain_part img entry turns other)
    (part (program img) entry turns (word_at m)) (part (program img) entry turns (word_at other))
    (same_part img entry turns m is) (same_part img entry turns other other_is)
    (part_agrees (program img) entry turns (word_at m) (word_at other) agree)
