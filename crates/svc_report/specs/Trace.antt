-- The text of a trace.
use Rattle.std.specs.Prelude.{ℕ, zero, suc, List, [], ◌∷◌, ◌++◌, Option, IfSome, codes, decimal, flat_map, length, take}
use Rattle.std.specs.Prelude.{get_or, ◌<◌, ◌≤◌, ◌^◌, ◌≡◌, ◌≢◌}
use Rattle.svc_base.specs.declared.limits.TheConstants.{MAX_BURST_TURNS}
use Rattle.svc_history_laws.specs.declared.entry.Entry.{Entry}
use Rattle.svc_report.specs.declared.error.ReportError.{ReportError}
use Rattle.svc_report.specs.Fields.{address_text, ask_word, cause_word, kind_word, optional, reply_word, served_word}
use Rattle.svc_report.specs.Fields.{unit_text}
use Rattle.svc_report.specs.Lines.{line}
use Rattle.svc_report.specs.Rows.{IsBadRow, IsRowsFault, records_of}

-- the names of the columns
abbrev pub header : List (List ℕ)
header =
    codes "kind" ∷ codes "unit" ∷ codes "arg" ∷ codes "local" ∷ codes "ask" ∷ codes "reply" ∷ codes "addr"
    ∷ codes "word" ∷ codes "served" ∷ codes "from" ∷ codes "cause" ∷ codes "first" ∷ codes "squashed" ∷ []

-- the thirteen columns of an entry
unfoldable pub columns : Entry → List (List ℕ)
columns e =
    kind_word e.kind ∷ unit_text e.unit ∷ optional decimal e.arg ∷ optional decimal e.local ∷ optional ask_word e.ask
    ∷ reply_word e.reply ∷ optional address_text e.addr ∷ optional decimal e.word ∷ optional served_word e.served
    ∷ optional unit_text e.from ∷ optional cause_word e.cause ∷ optional decimal e.first
    ∷ optional decimal e.squashed ∷ []

-- the row of an entry
abbrev pub row_of : Entry → List ℕ
row_of e = line (columns e)

-- the text of a history: the names of the columns, and a row for each entry
abbrev pub text_of : List Entry → List ℕ
text_of h = line header ++ flat_map row_of h

-- the records of that text
abbrev pub trace_records : List Entry → List (List (List ℕ))
trace_records h = records_of header columns h

-- the numbers of an entry are in the ranges of their columns; here a number has no bound of its own, so the bounds of
-- the types are listed too
pub record HasRow (e : Entry) : Type 0 where
  pub unit : e.unit.0 ≤ 255
  pub arg : IfSome e.arg (λ n. n < 2 ^ 32)
  pub local : IfSome e.local (λ n. n ≤ MAX_BURST_TURNS)
  pub addr : IfSome e.addr (λ a. a.0 < 2 ^ 32)
  pub word : IfSome e.word (λ n. n < 2 ^ 32)
  pub from : IfSome e.from (λ u. u.0 ≤ 255)
  pub first : IfSome e.first (λ n. n < 2 ^ 32)
  pub squashed : IfSome e.squashed (λ n. n < 2 ^ 32)

-- no entry has this field in this column
abbrev pub IsBadField : List ℕ → ℕ → Type 0
IsBadField field k = (e : Entry) → HasRow e → field ≢ get_or (columns e) k []

-- the first bad column of a record, counted from 1: the columns before it are those of an entry, and no entry has its
-- field there; 0 if the number of fields is wrong
unfoldable pub FirstBad : List (List ℕ) → ℕ → Type 0
FirstBad fields zero = length fields ≢ 13
FirstBad fields (suc k) =
    (length fields ≡ 13) × ((e : Entry) × HasRow e × (take k fields ≡ take k (columns e)))
    × IsBadField (get_or fields k []) k

-- a bad record follows the rows of some entries
abbrev pub IsBadEntry : List ℕ → ℕ → ℕ → Type 0
IsBadEntry text row column = IsBadRow header columns HasRow FirstBad text row column

-- a reading fails for memory or the reader, or names the text's first bad record, if the text is known, with its first
-- bad column
abbrev pub IsReadFault : Option (List ℕ) → ReportError → Type 0
IsReadFault known error = IsRowsFault header columns HasRow FirstBad known error
