-- The sequential order on bytes is that of the program on words.
use Rattle.std.specs.Prelude.{All, true, is_some}
use Rattle.std.proofs.Common.{◌≡◌, ℕ, zero, suc, ◌^◌, ◌<◌, List, ◌++◌, Option, Some, None, sym, ◌∙◌, ap, refl, subst}
use Rattle.svc_image.specs.Image.{Image, is_entry}
use Rattle.svc_core_laws.specs.declared.end.End.{End}
use Rattle.svc_core_laws.specs.declared.end.End.TheVariants as end
use Rattle.svc_core_laws.specs.State.{State, limit_of}
use Rattle.svc_core_laws.specs.Bytes.{word_at, IsMemory}
use Rattle.svc_core_laws.specs.Turns.{data_words}
use Rattle.svc_core_laws.specs.Words.{program}
use Rattle.svc_core_laws.specs.Program.{Memory, Seq, seq, task, next_task, followed_by, due_after, stopped_after, output}
use Rattle.svc_core_laws.specs.Sequence.{plain_task, plain_seq, next_plain, after_task, PlainSeq, IsSame, IsSameSeq}
use Rattle.svc_core_laws.proofs.Parts.{same_part}
use Rattle.svc_core_laws.proofs.Ends.{is_program}
use Rattle.svc_core_laws.proofs.ImageBytes.{word-bytes_of, memory_of}

-- a task after equal sequences
same_after : (img : Image) (s : PlainSeq) (w : Seq) (e : ℕ) → IsSameSeq img s w → IsSameSeq img (after_task s (plain_task img e s.memory)) (followed_by (program img) w (task (program img) e w.memory))
same_after img s w e h =
    let memories : word_at s.memory ≡ w.memory = λ i a. sym (h.memory a) i in
    let t = plain_task img e s.memory in
    let same : IsSame img w.memory t (task (program img) e w.memory) = subst (λ (m : Memory). IsSame img m t (task (program img) e m)) memories (same_part img e (suc (limit_of img e)) s.memory h.is_memory) in
    record {
      memory = same.memory;
      output = ap (λ (x : List ℕ). x ++ output (task (program img) e w.memory).log) h.output ∙ ap (λ (x : List ℕ). s.output ++ x) same.output;
      due = ap (λ (c : State). due_after c.done) same.core;
      stopped = ap (λ (c : State). stopped_after c.done) same.core;
      is_memory = same.is_memory;
    }

same_next : (img : Image) (s : PlainSeq) (w : Seq) (o : Option ℕ) → IsSameSeq img s w → IsSameSeq img (next_plain img s o) (next_task (program img) w o)
same_next img s w None h = h
same_next img s w (Some e) h = same_after img s w e h

pub same_seq : (img : Image) (k : ℕ) → All (λ w. w < 2 ^ 32) img.words → IsSameSeq img (plain_seq img k) (seq (program img) k)
same_seq img zero fit = record { memory = λ a. sym (word-bytes_of img.words a fit); output = refl; due = refl; stopped = refl; is_memory = memory_of img.words fit }
same_seq img (suc k) fit =
    let h = same_seq img k fit in
    subst (λ (o : Option ℕ). IsSameSeq img (next_plain img (plain_seq img k) (plain_seq img k).due) (next_task (program img) (seq (program img) k) o)) (sym h.due)
    (same_next img (plain_seq img k) (seq (program img) k) (plain_seq img k).due h)

-- a whole task on bytes has ended
pub plain_ends : (img : Image) (e : ℕ) (m : List ℕ) → IsMemory (data_words img) m → is_some (plain_task img e m).core.done ≡ true
plain_ends img e m is = subst (λ (s : State). is_some s.done ≡ true) (same_part img e (suc (limit_of img e)) m is).core ((is_program img).ends e (word_at m))

due_some : (o : Option End) (e : ℕ) → due_after o ≡ Some e → o ≡ Some (end.Next e)
due_some None e h = cc
due_some (Some (end.Next pc)) e h = cc
due_some (Some (end.Exit code)) e h = cc
due_some (Some (end.Trap number)) e h = cc

due_next : (img : Image) (s : Seq) (o : Option ℕ) (e : ℕ) → s.due ≡ o → ((d : ℕ) → s.due ≡ Some d → is_entry img d ≡ true) → (next_task (program img) s o).due ≡ Some e → is_entry img e ≡ true
due_next img s None e at before h = before e h
due_next img s (Some d) e at before h = (is_program img).enters d (suc (limit_of img d)) s.memory e (due_some (task (program img) d s.memory).core.done e h)

-- each due entry is an entry
pub due_enters : (img : Image) → is_entry img img.start ≡ true → (k e : ℕ) → (seq (program img) k).due ≡ Some e → is_entry img e ≡ true
due_enters img first zero e h = let same : img.start ≡ e = cc in subst (λ (x : ℕ). is_entry img x ≡ true) same first
due_enters img first (suc k) e h = due_next img (seq (program img) k) (seq (program img) k).due e refl (due_enters img first k) h
