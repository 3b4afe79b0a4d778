-- What is told of a faulty entry of a trace.
use Rattle.std.specs.Prelude.{◌≡◌, ◌≢◌, ℕ, ◌+◌, ◌-◌, ◌<◌, ◌++◌, List, [], Option, Some, None, codes, decimal, length}
use Rattle.std.specs.Prelude.{take}
use Rattle.svc_base.specs.declared.refusal.Refusal.{Refusal}
use Rattle.svc_base.specs.Refusals.{number_of}
use Rattle.svc_history_laws.specs.declared.entry.Entry.{Entry}
use Rattle.svc_names.specs.Rows.{field}
use Rattle.svc_report.specs.Trace.{row_of, text_of}
use Rattle.svc_script.specs.declared.playing.Answer.{Answer}
use Rattle.svc_script.specs.declared.playing.Answer.TheVariants as answer
use Rattle.svc_reasons.specs.Words.{an_event, missing_column, refusal_words, replace_first}

-- a row without its end
abbrev pub bare : List ℕ → List ℕ
bare row = take (length row - 1) row

-- ---- the first column that differs

-- up to this place two rows have the same fields, and there they differ; or they have the same thirteen fields
abbrev pub IsFirstOther : (mine theirs : List ℕ) → Option ℕ → Type 0
IsFirstOther mine theirs None = (k : ℕ) → k < 13 → field k mine ≡ field k theirs
IsFirstOther mine theirs (Some place) =
    ((k : ℕ) → k < place → field k mine ≡ field k theirs) × (place < 13) × (field place mine ≢ field place theirs)

-- ---- the lines

-- the beginning of a line about a row
abbrev pub row_start : (row : ℕ) → List ℕ
row_start row = codes "svcsim: row " ++ decimal row ++ codes ": "

-- a number that its event needs is missing
abbrev pub missing_line : (row : ℕ) → Entry → List ℕ
missing_line row e =
    row_start row ++ missing_column e.kind e ++ codes " is empty, and " ++ an_event e.kind ++ codes " needs it\n"

-- its event is refused
abbrev pub refusal_line : (row : ℕ) → Refusal → List ℕ
refusal_line row why =
    row_start row ++ codes "refusal " ++ decimal (number_of why) ++ codes ": " ++ refusal_words why ++ replace_first why
    ++ codes "\n"

-- a column has one value in the trace, and another in the machine's row
unfoldable pub other_line : (row : ℕ) → (column mine theirs : List ℕ) → List ℕ
other_line row column mine theirs =
    row_start row ++ column ++ codes " is \"" ++ mine ++ codes "\", and the machine has \"" ++ theirs ++ codes "\"\n"

-- the column of this place, where the columns have these names
abbrev pub difference_line : (row : ℕ) → (names mine theirs : List ℕ) → Option ℕ → List ℕ
difference_line row names mine theirs None = []
difference_line row names mine theirs (Some place) =
    other_line row (field place names) (field place mine) (field place theirs)

-- the whole row that a sound trace has there
abbrev pub sound_line : (theirs : List ℕ) → List ℕ
sound_line theirs = codes "svcsim: a sound trace has there: " ++ theirs

-- the first column in which two rows differ, and the whole row that a sound trace has there
abbrev pub TellsRows : (row : ℕ) → (names mine theirs : List ℕ) → List ℕ → Type 0
TellsRows row names mine theirs text =
    (place : Option ℕ) × IsFirstOther (bare mine) (bare theirs) place
    × (text ≡ difference_line row (bare names) (bare mine) (bare theirs) place ++ sound_line theirs)

-- so it is for the rows of two entries; the columns have the names that stand in a trace's first row
abbrev pub TellsDifference : (row : ℕ) → (e found : Entry) → List ℕ → Type 0
TellsDifference row e found text = TellsRows row (text_of []) (row_of e) (row_of found) text

-- what is told of an entry, by what the machine answers to its event there
abbrev pub IsReason : (row : ℕ) → Entry → Option Answer → List ℕ → Type 0
IsReason row e None text = text ≡ missing_line row e
IsReason row e (Some (answer.Accepted found)) text = TellsDifference row e found text
IsReason row e (Some (answer.Refused why)) text = text ≡ refusal_line row why
IsReason row e (Some (answer.Taken local ask)) text = text ≡ []
IsReason row e (Some answer.Nothing) text = text ≡ []
