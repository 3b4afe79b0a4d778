-- Tasks on a flat memory of bytes, and the sequential run.
use Rattle.std.specs.Prelude.{◌≡◌, ℕ, zero, suc, Bool, if◌then◌else◌, List, [], ◌++◌, Option, Some, None, unwrap_or}
use Rattle.svc_image.specs.Image.{Image}
use Rattle.svc_core_laws.specs.declared.end.End.{End}
use Rattle.svc_core_laws.specs.declared.end.End.TheVariants as end
use Rattle.svc_core_laws.specs.declared.end.Ending.{Ending}
use Rattle.svc_core_laws.specs.declared.end.Ending.TheVariants as ending
use Rattle.svc_core_laws.specs.State.{State, start, limit_of}
use Rattle.svc_core_laws.specs.Bytes.{word_at, bytes_of, IsMemory}
use Rattle.svc_core_laws.specs.Turns.{Turn, plain_turns, data_words}
use Rattle.svc_core_laws.specs.Program.{Words, Memory, Run, Seq, wrote, over, output, due_after, stopped_after}

-- part of a task: n plain turns from an entry
abbrev pub plain_part : Image → (e n : ℕ) → List ℕ → Turn
plain_part img e n m = plain_turns img n (record { core = start img e; memory = m; output = [] })

-- a whole task: one turn more than its limit
abbrev pub plain_task : Image → ℕ → List ℕ → Turn
plain_task img e m = plain_part img e (suc (limit_of img e)) m

-- what the first tasks leave: the flat memory, the output, the entry of the next task, and the exit or trap that
-- stopped the run. A run that has stopped stays as it is.
pub record PlainSeq : Type 0 where
  pub memory : List ℕ
  pub output : List ℕ
  pub due : Option ℕ
  pub stopped : Option End

-- what is left once this task has run
abbrev pub after_task : PlainSeq → Turn → PlainSeq
after_task s t = record {
  memory = t.memory;
  output = s.output ++ t.output;
  due = due_after t.core.done;
  stopped = stopped_after t.core.done;
}

-- the next task, if one is due
abbrev pub next_plain : Image → PlainSeq → Option ℕ → PlainSeq
next_plain img s None = s
next_plain img s (Some e) = after_task s (plain_task img e s.memory)

-- the sequential run: the first k tasks, one after another, on one flat memory of bytes
abbrev pub plain_seq : Image → ℕ → PlainSeq
plain_seq img zero = record { memory = bytes_of img.words; output = []; due = Some img.start; stopped = None }
plain_seq img (suc k) = let s = plain_seq img k in next_plain img s s.due

-- the ending of a run that could go on at this entry: full if no further event is accepted, otherwise open
abbrev pub goes_on_at : Bool → ℕ → Ending
goes_on_at full e = if full then ending.Full e else ending.Open e

-- the ending of a run: the exit or trap that stopped it, otherwise the entry of the next task
abbrev pub ending_of : Bool → Option End → Option ℕ → Ending
ending_of full None due = goes_on_at full (unwrap_or due 0)
ending_of full (Some (end.Next e)) due = goes_on_at full e
ending_of full (Some (end.Exit code)) due = ending.Exit code
ending_of full (Some (end.Trap number)) due = ending.Trap number

-- turns on bytes and turns on words leave the same
pub record IsSame (img : Image) (m : Memory) (t : Turn) (r : Run State) : Type 0 where
  pub core : r.core ≡ t.core
  pub memory : (a : ℕ) → over (wrote r.log) m a ≡ word_at t.memory a
  pub output : output r.log ≡ t.output
  pub is_memory : IsMemory (data_words img) t.memory

-- the sequential runs on bytes and on words are the same
pub record IsSameSeq (img : Image) (s : PlainSeq) (w : Seq) : Type 0 where
  pub memory : (a : ℕ) → w.memory a ≡ word_at s.memory a
  pub output : w.output ≡ s.output
  pub due : w.due ≡ s.due
  pub stopped : w.stopped ≡ s.stopped
  pub is_memory : IsMemory (data_words img) s.memory

-- two parts did the same: they leave the same core and the same output, and each written word has the same value
pub record IsSamePart (written : Words) (t u : Turn) : Type 0 where
  pub core : t.core ≡ u.core
  pub output : t.output ≡ u.output
  pub words : (a v : ℕ) → written a ≡ Some v → (word_at t.memory a ≡ v) × (word_at u.memory a ≡ v)
