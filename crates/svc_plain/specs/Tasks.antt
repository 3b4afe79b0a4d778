-- How many tasks a sequential run runs, and what some of them leave.
use Rattle.std.specs.Prelude.{◌≡◌, ℕ, zero, suc, ◌+◌, ◌≤◌, List, Option, Some, None, length, slice_index}
use Rattle.svc_image.specs.Image.{Image}
use Rattle.svc_core_laws.specs.declared.end.End.{End}
use Rattle.svc_core_laws.specs.Program.{seq}
use Rattle.svc_core_laws.specs.Words.{program}
use Rattle.svc_core_laws.specs.Turns.{data_words}
use Rattle.svc_core_laws.specs.Sequence.{plain_seq}

-- one task if one is due, otherwise none
abbrev pub tasks_due : Option ℕ → ℕ
tasks_due None = 0
tasks_due (Some entry) = 1

-- how many of the first k tasks there are: a program that has ended has no further task
abbrev pub tasks_run : Image → ℕ → ℕ
tasks_run img zero = 0
tasks_run img (suc k) = tasks_run img k + tasks_due (plain_seq img k).due

-- of the first k tasks in sequential order there are this many; they leave these words of memory, this output, this
-- entry for the next task and, if one of them stopped the run, its end
pub record IsRun (img : Image) (k count : ℕ) (after out : List ℕ) (next : Option ℕ) (last : Option End) : Type 0 where
  pub tasks : count ≡ tasks_run img k
  pub few : count ≤ k
  pub size : length after ≡ data_words img
  pub memory : (a : ℕ) → slice_index after a ≡ (seq (program img) k).memory a
  pub output : out ≡ (seq (program img) k).output
  pub due : next ≡ (seq (program img) k).due
  pub stopped : last ≡ (seq (program img) k).stopped
