-- The texts of what tasks need: together, task by task, and word by word.
use Rattle.std.specs.Prelude.{ℕ, zero, suc, ◌||◌, nat_lt, cond, List, [], ◌∷◌, ◌++◌, None, codes, decimal, flat_map}
use Rattle.std.specs.Prelude.{unwrap_or}
use Rattle.svc_base.specs.declared.config.TheConstants.{MAX_UNITS}
use Rattle.svc_image.specs.Image.{Image}
use Rattle.svc_core_laws.specs.declared.end.Ending.{Ending}
use Rattle.svc_core_laws.specs.Turns.{data_words}
use Rattle.svc_core_laws.specs.Words.{program}
use Rattle.svc_text.specs.Rows.{row}
use Rattle.svc_report.specs.Summary.{summary_of}
use Rattle.svc_depend_laws.specs.Needs.{units_of}
use Rattle.svc_depend_laws.specs.Counts.{readers, writers, nearest_of_word}
use Rattle.svc_depend.specs.declared.needs.TaskNeeds.{TaskNeeds}
use Rattle.svc_depend.specs.declared.needs.Totals.{Totals}

-- ---- of all tasks

abbrev pub named_row : List ℕ → ℕ → List ℕ
named_row name number = row name (number ∷ [])

-- the units of a machine, of which there are at most 16, that no task that began rightly can make violate
abbrev pub totals_rows : Totals → List ℕ
totals_rows t =
    named_row (codes "turns") t.turns ++ named_row (codes "needs") t.needs ++ named_row (codes "memory") t.memory
    ++ named_row (codes "nearest") (unwrap_or t.nearest 0) ++ named_row (codes "units") (units_of MAX_UNITS t.nearest)
    ++ named_row (codes "chain") t.chain

-- so many tasks and their ending, as a summary tells them, and what they need together
abbrev pub totals_text : (tasks : ℕ) → Ending → Totals → List ℕ
totals_text tasks ending t = summary_of [] tasks ending None ++ totals_rows t

-- ---- task by task

abbrev pub told_of_task : TaskNeeds → List ℕ
told_of_task x = x.entry ∷ x.turns ∷ x.needs ∷ x.memory ∷ unwrap_or x.nearest 0 ∷ x.stores ∷ x.chain ∷ []

abbrev pub task_row : TaskNeeds → List ℕ
task_row x = row (decimal x.task) (told_of_task x)

abbrev pub task_header : List ℕ
task_header = codes "task,entry,turns,needs,memory,nearest,stores,chain\n"

abbrev pub task_table : List TaskNeeds → List ℕ
task_table tasks = task_header ++ flat_map task_row tasks

-- ---- word by word

-- the texts of the first so many, one after another
abbrev pub text_over : (ℕ → List ℕ) → (n : ℕ) → List ℕ
text_over text zero = []
text_over text (suc n) = text_over text n ++ text n

-- the row of a word that tasks need or write
abbrev pub word_row_of : (word readers writers nearest : ℕ) → List ℕ
word_row_of word readers writers nearest =
    cond (nat_lt 0 readers || nat_lt 0 writers) (row (decimal word) (readers ∷ writers ∷ nearest ∷ [])) []

-- that of a word, for the first so many tasks
abbrev pub word_row : Image → (tasks word : ℕ) → List ℕ
word_row img tasks word =
    word_row_of word (readers (program img) tasks word) (writers (program img) tasks word)
    (unwrap_or (nearest_of_word (program img) tasks word) 0)

abbrev pub word_header : List ℕ
word_header = codes "word,readers,writers,nearest\n"

abbrev pub word_table : Image → (tasks : ℕ) → List ℕ
word_table img tasks = word_header ++ text_over (word_row img tasks) (data_words img)
