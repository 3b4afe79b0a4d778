-- The records of a text.
use Rattle.std.specs.Prelude.{ℕ, zero, suc, List, [], ◌∷◌, ◌≡◌, ◌≢◌, length, take, get_or, ◌⊎◌}
use Rattle.csv.specs.Reading.{AreRecords, Reached, Ready, default_config, reader_config, reader_trim, strip_bom}
use Rattle.csv.specs.declared.parser.State.{State}
use Rattle.csv.specs.declared.parser.State.TheVariants as st
use Rattle.csv.specs.declared.reader.Reader.{Reader}
use Rattle.csv.specs.declared.reader.Trim.TheVariants as trim
use Rattle.svc_record_limit.specs.Limit.{readable}

-- what is read of a text begins with these records, as `csv` reads it with its usual settings
abbrev pub BeginsWith : List ℕ → List (List (List ℕ)) → Type 0
BeginsWith text records =
    (s : State) × (rest : List ℕ) × Reached default_config st.StartRecord (readable text) records s rest

-- a text is these records and no more
abbrev pub IsText : List ℕ → List (List (List ℕ)) → Type 0
IsText text records = AreRecords default_config st.StartRecord (strip_bom text) records

-- what is read of a text is these records and no more
abbrev pub IsRead : List ℕ → List (List (List ℕ)) → Type 0
IsRead text records = AreRecords default_config st.StartRecord (readable text) records

-- the first column in which the fields differ from these names, counted from 1; 0 if their number is wrong
unfoldable pub FirstOther : List (List ℕ) → List (List ℕ) → ℕ → Type 0
FirstOther fields names zero = length fields ≢ length names
FirstOther fields names (suc k) =
    (length fields ≡ length names) × (take k fields ≡ take k names) × (get_or fields k [] ≢ get_or names k [])

-- the text has no record, which is reported as row 1 and column 0, or its first record isn't these names
abbrev pub IsBadHeader : List ℕ → List (List ℕ) → ℕ → ℕ → Type 0
IsBadHeader text names row column =
    (row ≡ 1) × ((IsRead text [] × (column ≡ 0))
    ⊎ ((fields : List (List ℕ)) × BeginsWith text (fields ∷ []) × FirstOther fields names column))

-- a reader that takes each record with the usual settings of `csv`
abbrev pub IsOpen : {R : Type 0} → Reader R → Type 0
IsOpen r = (reader_trim r ≡ trim.None) × Ready r × (reader_config r ≡ default_config)
