-- What the bars and marks of a picture mean, in a sentence each.
use Rattle.std.specs.Prelude.{ℕ, List, [], ◌++◌, Option, Some, None, codes, decimal}
use Rattle.svc_base.specs.declared.ids.UnitId.{UnitId}
use Rattle.svc_base.specs.declared.ids.WordAddr.{WordAddr}
use Rattle.svc_history_laws.specs.declared.entry.ServedKind.{ServedKind}
use Rattle.svc_history_laws.specs.declared.entry.ServedKind.TheVariants as by
use Rattle.svc_text.specs.Parts.{digits_of}
use Rattle.svc_task_runs.specs.declared.task_run.Fate.{Fate}
use Rattle.svc_task_runs.specs.declared.task_run.Fate.TheVariants as fate
use Rattle.svc_task_runs.specs.declared.task_run.TaskRun.{TaskRun}
use Rattle.svc_marks.specs.declared.marks.Mark.{Mark}
use Rattle.svc_marks.specs.declared.marks.MarkKind.{MarkKind}
use Rattle.svc_marks.specs.declared.marks.MarkKind.TheVariants as mark
use Rattle.svc_marks.specs.declared.marks.Spot.{Spot}

-- ---- bars

-- why an entry squashed a task
abbrev pub cause_of : Fate → List ℕ
cause_of fate.Violation = codes " squashed it: an earlier task stored to a word that had been read too early"
cause_of fate.Guess = codes " squashed it: a task before it went on elsewhere than guessed, or ended the program"
cause_of fate.Cancel = codes " squashed it: it, or a task before it, was cancelled"
cause_of _ = codes " committed it"

-- what became of a task, and by which entry
abbrev pub fate_sentence : TaskRun → Option ℕ → List ℕ
fate_sentence t None = codes "nothing has decided yet what becomes of it"
fate_sentence t (Some last) = codes "entry " ++ decimal last ++ cause_of t.fate

-- ---- marks

-- who acts: the unit, with its task if one runs there
abbrev pub actor : (unit : ℕ) → Option TaskRun → List ℕ
actor unit None = codes "unit " ++ decimal unit
actor unit (Some t) = codes "task " ++ decimal t.number ++ codes " on unit " ++ decimal unit

-- of which unit, if one is told
abbrev pub of_unit : Option UnitId → List ℕ
of_unit None = []
of_unit (Some unit) = codes " of unit " ++ decimal unit.0

-- what a read was given
abbrev pub supply : ServedKind → Option UnitId → List ℕ
supply by.Hit from = codes "its own line"
supply by.Reuse from = codes "its own committed line"
supply by.Version from = codes "the version" ++ of_unit from
supply by.Spill from = codes "the spilled version" ++ of_unit from
supply by.Committed from = codes "the committed version" ++ of_unit from
supply by.Memory from = codes "memory"

-- the same behind some words, if anything is told
abbrev pub supply_after : (before : List ℕ) → Option ServedKind → Option UnitId → List ℕ
supply_after before None from = []
supply_after before (Some served) from = before ++ supply served from

-- a word between some words, if there is one
abbrev pub word_between : (before after : List ℕ) → Option WordAddr → List ℕ
word_between before after None = []
word_between before after (Some word) = before ++ decimal word.0 ++ after

-- an entry behind some words, if there is one
abbrev pub entry_after : (before : List ℕ) → Option ℕ → List ℕ
entry_after before None = []
entry_after before (Some place) = before ++ decimal place

-- where the version was stored that a read was given
abbrev pub stored_at : Option Spot → List ℕ
stored_at None = []
stored_at (Some spot) = codes " of unit " ++ decimal spot.lane.0 ++ entry_after (codes ", stored by entry ") spot.place

-- where a word was read too early
unfoldable pub read_at : Option Spot → List ℕ
read_at None = []
read_at (Some spot) = entry_after (codes " in entry ") spot.place

-- the sentence of each kind
unfoldable pub load_sentence : Mark → List ℕ
load_sentence m =
    actor m.entry.unit.0 m.task ++ codes " loads "
    ++ word_between (codes "word ") (codes " as ") m.entry.addr ++ digits_of m.entry.word
    ++ supply_after (codes ", from ") m.entry.served m.entry.from

unfoldable pub store_sentence : Mark → List ℕ
store_sentence m =
    actor m.entry.unit.0 m.task ++ codes " stores "
    ++ word_between (codes "word ") (codes " as ") m.entry.addr ++ digits_of m.entry.word
    ++ supply_after (codes ", its other bytes from ") m.entry.served m.entry.from

unfoldable pub output_sentence : Mark → List ℕ
output_sentence m = actor m.entry.unit.0 m.task ++ codes " puts out " ++ digits_of m.entry.word

unfoldable pub replace_sentence : Mark → List ℕ
replace_sentence m =
    codes "unit " ++ decimal m.entry.unit.0 ++ codes " lets a line go"
    ++ word_between (codes ", of word ") [] m.entry.addr

unfoldable pub commit_sentence : Mark → List ℕ
commit_sentence m =
    codes "task " ++ digits_of m.entry.word ++ codes " is committed, as unit " ++ decimal m.entry.unit.0
    ++ codes " asked"

unfoldable pub handed_sentence : Mark → List ℕ
handed_sentence m =
    actor m.entry.unit.0 m.task ++ codes " reads " ++ word_between (codes "word ") (codes " in ") m.entry.addr
    ++ codes "the version" ++ stored_at m.other

unfoldable pub early_read : Mark → List ℕ
early_read m = codes "which task " ++ digits_of m.entry.first ++ codes " read too early" ++ read_at m.other

unfoldable pub number_after : (before : List ℕ) → Option ℕ → List ℕ
number_after before number = before ++ digits_of number

unfoldable pub squash_sentence : Mark → List ℕ
squash_sentence m =
    actor m.entry.unit.0 m.task ++ codes " stores " ++ word_between (codes "word ") (codes ", ") m.entry.addr
    ++ early_read m ++ number_after (codes "; tasks squashed: ") m.entry.squashed

-- what a mark of a kind means
abbrev pub sentence_of_kind : Mark → MarkKind → List ℕ
sentence_of_kind m mark.Load = load_sentence m
sentence_of_kind m mark.Store = store_sentence m
sentence_of_kind m mark.PutOut = output_sentence m
sentence_of_kind m mark.Replace = replace_sentence m
sentence_of_kind m mark.Commit = commit_sentence m
sentence_of_kind m mark.Handed = handed_sentence m
sentence_of_kind m mark.Squash = squash_sentence m
