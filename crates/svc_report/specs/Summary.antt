-- The text of a summary.
use Rattle.std.specs.Prelude.{ℕ, List, [], ◌∷◌, ◌++◌, Option, Some, None, Bool, true, false, codes, decimal, flat_map}
use Rattle.std.specs.Prelude.{count_by}
use Rattle.svc_core_laws.specs.declared.end.Ending.{Ending}
use Rattle.svc_core_laws.specs.declared.end.Ending.TheVariants as ending
use Rattle.svc_history_laws.specs.declared.entry.Kind.{Kind}
use Rattle.svc_history_laws.specs.declared.entry.Kind.TheVariants as kind
use Rattle.svc_history_laws.specs.declared.entry.ServedKind.{ServedKind}
use Rattle.svc_history_laws.specs.declared.entry.ServedKind.TheVariants as served
use Rattle.svc_history_laws.specs.declared.entry.CutKind.{CutKind}
use Rattle.svc_history_laws.specs.declared.entry.CutKind.TheVariants as cause
use Rattle.svc_history_laws.specs.declared.entry.Entry.{Entry}
use Rattle.svc_report.specs.declared.counts.Counts.{Counts}
use Rattle.svc_report.specs.Lines.{line}

-- the entry has this kind; this supplier; this cause
abbrev pub is_kind : Kind → Kind → Bool
is_kind kind.Assign kind.Assign = true
is_kind kind.Submit kind.Submit = true
is_kind kind.Replace kind.Replace = true
is_kind kind.Cancel kind.Cancel = true
is_kind kind.Commit kind.Commit = true
is_kind _ _ = false

abbrev pub is_supplier : ServedKind → Option ServedKind → Bool
is_supplier served.Hit (Some served.Hit) = true
is_supplier served.Reuse (Some served.Reuse) = true
is_supplier served.Version (Some served.Version) = true
is_supplier served.Spill (Some served.Spill) = true
is_supplier served.Committed (Some served.Committed) = true
is_supplier served.Memory (Some served.Memory) = true
is_supplier _ _ = false

abbrev pub is_cause : CutKind → Option CutKind → Bool
is_cause cause.Violation (Some cause.Violation) = true
is_cause cause.Guess (Some cause.Guess) = true
is_cause cause.Cancel (Some cause.Cancel) = true
is_cause _ _ = false

-- how many entries have the kind; the supplier; the cause
abbrev pub count_of_kind : Kind → List Entry → ℕ
count_of_kind k h = count_by (λ e. is_kind k e.kind) h

abbrev pub count_of_supplier : ServedKind → List Entry → ℕ
count_of_supplier k h = count_by (λ e. is_supplier k e.served) h

abbrev pub count_of_cause : CutKind → List Entry → ℕ
count_of_cause k h = count_by (λ e. is_cause k e.cause) h

-- how many entries of a history have each kind, each supplier and each cause
abbrev pub counts_of : List Entry → Counts
counts_of h = record {
  assign = count_of_kind kind.Assign h;
  submit = count_of_kind kind.Submit h;
  replace = count_of_kind kind.Replace h;
  cancel = count_of_kind kind.Cancel h;
  commit = count_of_kind kind.Commit h;
  hit = count_of_supplier served.Hit h;
  reuse = count_of_supplier served.Reuse h;
  version = count_of_supplier served.Version h;
  spill = count_of_supplier served.Spill h;
  committed = count_of_supplier served.Committed h;
  memory = count_of_supplier served.Memory h;
  violation = count_of_cause cause.Violation h;
  guess = count_of_cause cause.Guess h;
  cancelled = count_of_cause cause.Cancel h;
}

-- a row of a name and a number
abbrev pub number_row : List ℕ → ℕ → List ℕ
number_row name number = line (name ∷ decimal number ∷ [])

-- a row for each output word, in order
abbrev pub output_rows : List ℕ → List ℕ
output_rows output = flat_map (λ word. number_row (codes "out") word) output

-- the word and the number that say how a run ended
abbrev pub ending_word : Ending → List ℕ
ending_word (ending.Exit code) = codes "exit"
ending_word (ending.Trap number) = codes "trap"
ending_word (ending.Full entry) = codes "full"
ending_word (ending.Open entry) = codes "open"

abbrev pub ending_number : Ending → ℕ
ending_number (ending.Exit code) = code
ending_number (ending.Trap number) = number
ending_number (ending.Full entry) = entry
ending_number (ending.Open entry) = entry

-- the row of both
abbrev pub ending_row : Ending → List ℕ
ending_row e = number_row (ending_word e) (ending_number e)

-- the names of the counts, in their order
abbrev pub count_names : List (List ℕ)
count_names =
    codes "kind-assign" ∷ codes "kind-submit" ∷ codes "kind-replace" ∷ codes "kind-cancel" ∷ codes "kind-commit"
    ∷ codes "served-hit" ∷ codes "served-reuse" ∷ codes "served-version"
    ∷ codes "served-spill" ∷ codes "served-committed" ∷ codes "served-memory"
    ∷ codes "cut-violation" ∷ codes "cut-guess" ∷ codes "cut-cancel" ∷ []

-- the counts in this order
abbrev pub count_numbers : Counts → List ℕ
count_numbers c =
    c.assign ∷ c.submit ∷ c.replace ∷ c.cancel ∷ c.commit
    ∷ c.hit ∷ c.reuse ∷ c.version ∷ c.spill ∷ c.committed ∷ c.memory
    ∷ c.violation ∷ c.guess ∷ c.cancelled ∷ []

-- a row for each name and its number
abbrev pub number_rows : List (List ℕ) → List ℕ → List ℕ
number_rows [] numbers = []
number_rows (name ∷ names) [] = []
number_rows (name ∷ names) (number ∷ numbers) = number_row name number ++ number_rows names numbers

-- a row for each count, if they are given
abbrev pub counts_rows : Option Counts → List ℕ
counts_rows None = []
counts_rows (Some c) = number_rows count_names (count_numbers c)

-- the output words, the number of tasks, the ending, and the counts if they are given
abbrev pub summary_of : List ℕ → ℕ → Ending → Option Counts → List ℕ
summary_of output tasks ending counts =
    output_rows output ++ (number_row (codes "tasks") tasks ++ (ending_row ending ++ counts_rows counts))
