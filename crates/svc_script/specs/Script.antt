-- The text of a script.
use Rattle.std.specs.Prelude.{ℕ, zero, suc, List, [], ◌∷◌, ◌++◌, Option, Some, None, IfSome, codes, decimal, flat_map}
use Rattle.std.specs.Prelude.{length, take, ◌≡◌, ◌≢◌, ◌<◌, ◌≤◌, ◌^◌}
use Rattle.svc_script.specs.declared.script.StepKind.{StepKind}
use Rattle.svc_script.specs.declared.script.StepKind.TheVariants as kind
use Rattle.svc_script.specs.declared.script.StepWord.{StepWord}
use Rattle.svc_script.specs.declared.script.StepWord.TheVariants as word
use Rattle.svc_script.specs.declared.script.Step.{Step}
use Rattle.svc_report.specs.declared.error.ReportError.{ReportError}
use Rattle.svc_report.specs.Fields.{optional, unit_text}
use Rattle.svc_report.specs.Lines.{line}
use Rattle.svc_report.specs.Rows.{IsRowsFault, records_of}

-- the word of a step
abbrev pub word_text : StepWord → List ℕ
word_text word.Assign = codes "assign"
word_text word.Submit = codes "submit"
word_text word.Replace = codes "replace"
word_text word.Cancel = codes "cancel"
word_text word.Commit = codes "commit"
word_text word.Take = codes "take"
word_text word.Give = codes "give"

-- the word of a step's kind
abbrev pub word_of : StepKind → StepWord
word_of (kind.Assign guess) = word.Assign
word_of (kind.Submit turns) = word.Submit
word_of (kind.Replace addr) = word.Replace
word_of kind.Cancel = word.Cancel
word_of kind.Commit = word.Commit
word_of (kind.Take turns) = word.Take
word_of kind.Give = word.Give

-- the number of a step, if it has one
abbrev pub arg_of : StepKind → Option ℕ
arg_of (kind.Assign guess) = Some guess
arg_of (kind.Submit turns) = Some turns
arg_of (kind.Replace addr) = Some addr.0
arg_of kind.Cancel = None
arg_of kind.Commit = None
arg_of (kind.Take turns) = Some turns
arg_of kind.Give = None

-- the kind of step with this word and number, if there is one
abbrev pub kind_with : StepWord → Option ℕ → Option StepKind
kind_with word.Assign (Some guess) = Some (kind.Assign guess)
kind_with word.Submit (Some turns) = Some (kind.Submit turns)
kind_with word.Replace (Some addr) = Some (kind.Replace (record { 0 = addr }))
kind_with word.Cancel None = Some kind.Cancel
kind_with word.Commit None = Some kind.Commit
kind_with word.Take (Some turns) = Some (kind.Take turns)
kind_with word.Give None = Some kind.Give
kind_with _ _ = None

-- the names of the columns
abbrev pub script_header : List (List ℕ)
script_header = codes "kind" ∷ codes "unit" ∷ codes "arg" ∷ []

-- the three columns of a step
unfoldable pub step_columns : Step → List (List ℕ)
step_columns s = word_text (word_of s.kind) ∷ unit_text s.unit ∷ optional decimal (arg_of s.kind) ∷ []

-- the records of a script of these steps
abbrev pub script_records : List Step → List (List (List ℕ))
script_records steps = records_of script_header step_columns steps

-- the row of a step
abbrev pub step_row : Step → List ℕ
step_row s = line (step_columns s)

-- the text of a script of these steps: the names of the columns, and a row for each step
abbrev pub script_text : List Step → List ℕ
script_text steps = line script_header ++ flat_map step_row steps

-- the numbers of a step are in the ranges of their columns
pub record HasStepRow (s : Step) : Type 0 where
  pub unit : s.unit.0 ≤ 255
  pub arg : IfSome (arg_of s.kind) (λ n. n < 2 ^ 32)

-- the first bad column of a record, counted from 1: some step has the columns before it, and none has this one too; 0
-- if the number of fields is wrong
unfoldable pub FirstBadStep : List (List ℕ) → ℕ → Type 0
FirstBadStep fields zero = length fields ≢ 3
FirstBadStep fields (suc k) =
    (length fields ≡ 3) × ((s : Step) × HasStepRow s × (take k fields ≡ take k (step_columns s)))
    × ((s : Step) → HasStepRow s → take (suc k) fields ≢ take (suc k) (step_columns s))

-- a reading fails for memory or the reader, or names the text's first bad record, if the text is known, with its first
-- bad column
abbrev pub IsScriptFault : Option (List ℕ) → ReportError → Type 0
IsScriptFault known error = IsRowsFault script_header step_columns HasStepRow FirstBadStep known error
