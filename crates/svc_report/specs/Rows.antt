-- Texts with a row for each item: traces and scripts.
use Rattle.std.specs.Prelude.{ℕ, List, [], ◌∷◌, ◌++◌, ◌+◌, Option, Some, None, length, map, ◌≡◌, ◌⊎◌}
use Rattle.std.specs.List.{AllByRecursion}
use Rattle.svc_report.specs.declared.error.ReportError.{ReportError}
use Rattle.svc_report.specs.declared.error.ReportError.TheVariants as fault
use Rattle.svc_report.specs.Records.{BeginsWith, IsBadHeader}

-- the records of a text of these names and these items
abbrev pub records_of : {A : Type 0} → List (List ℕ) → (A → List (List ℕ)) → List A → List (List (List ℕ))
records_of names columns items = names ∷ map columns items

-- a bad record follows the rows of some items
abbrev pub IsBadRow : {A : Type 0} → List (List ℕ) → (A → List (List ℕ)) → (A → Type 0)
    → (List (List ℕ) → ℕ → Type 0) → List ℕ → ℕ → ℕ → Type 0
IsBadRow {A} names columns HasRow FirstBad text row column =
    (items : List A) × AllByRecursion HasRow items × (row ≡ length items + 2) × (fields : List (List ℕ))
    × BeginsWith text (records_of names columns items ++ (fields ∷ [])) × FirstBad fields column

-- a reading fails for memory or the reader, or names the text's first bad record, if the text is known, with its first
-- bad column
abbrev pub IsRowsFault : {A : Type 0} → List (List ℕ) → (A → List (List ℕ)) → (A → Type 0)
    → (List (List ℕ) → ℕ → Type 0) → Option (List ℕ) → ReportError → Type 0
IsRowsFault names columns HasRow FirstBad known fault.Memory = Unit {0}
IsRowsFault names columns HasRow FirstBad known fault.Read = Unit {0}
IsRowsFault names columns HasRow FirstBad known fault.Write = ⊥
IsRowsFault names columns HasRow FirstBad None (fault.Row row column) = Unit {0}
IsRowsFault names columns HasRow FirstBad (Some text) (fault.Row row column) =
    IsBadHeader text names row column ⊎ IsBadRow names columns HasRow FirstBad text row column
