-- Tables of names, and their text.
use Rattle.std.specs.Prelude.{◌≡◌, ◌≢◌, ◌⊎◌, ◌<◌, ◌+◌, ◌++◌, ◌∷◌, [], ◌&&◌, ◌^◌, ℕ, zero, suc, List, Option, Some, None}
use Rattle.std.specs.Prelude.{Bool, true, false, codes, decimal, get_or, length, nat_le, nat_lt}
use Rattle.std.specs.Cmp.Lexicographic.{slice_cmp}
use Rattle.std.specs.List.{AllByRecursion}
use Rattle.std.specs.Ordering.{is_lt, nat_cmp, ordering_then}
use Rattle.std.specs.Str.{bytes_eq}
use Rattle.svc_tokens.specs.Characters.{name_at}
use Rattle.svc_report.specs.declared.error.ReportError.{ReportError}
use Rattle.svc_report.specs.declared.error.ReportError.TheVariants as fault
use Rattle.svc_report.specs.Records.{BeginsWith, IsBadHeader}
use Rattle.svc_report.specs.Rows.{records_of}
use Rattle.svc_names.specs.declared.name.Name.{Name}

-- a text is a name: it isn't empty, has at most 2,000 characters, and the assembler reads all of it as one
abbrev pub is_name_text : List ℕ → Bool
is_name_text text = nat_lt 0 (length text) && nat_le (length text) 2000 && bytes_eq (name_at text) text

-- ---- the order of names

-- a name stands before one of this text and address: its address is lower, or it is the same and the text comes first
abbrev pub is_before : Name → (text : List ℕ) → (address : ℕ) → Bool
is_before n text address = is_lt (ordering_then (nat_cmp n.address address) (slice_cmp nat_cmp n.text.items text))

-- one of this text and address may stand behind these names: the last of them stands before it
abbrev pub comes_next : List Name → (text : List ℕ) → (address : ℕ) → Bool
comes_next [] text address = true
comes_next (n ∷ []) text address = is_before n text address
comes_next (n ∷ m ∷ names) text address = comes_next (m ∷ names) text address

-- each name stands before the next
abbrev pub are_in_order : List Name → Bool
are_in_order [] = true
are_in_order (n ∷ []) = true
are_in_order (n ∷ m ∷ names) = is_before n m.text.items m.address && are_in_order (m ∷ names)

-- each of these is a name
abbrev pub are_named : List Name → Bool
are_named [] = true
are_named (n ∷ names) = is_name_text n.text.items && are_named names

-- ---- the text of a table

-- the names of the columns
abbrev pub header : List (List ℕ)
header = codes "name" ∷ codes "address" ∷ []

-- the two columns of a name
abbrev pub columns : Name → List (List ℕ)
columns n = n.text.items ∷ decimal n.address ∷ []

-- the records of a table
abbrev pub table_records : List Name → List (List (List ℕ))
table_records names = records_of header columns names

-- a name has a row in a table
pub record HasRow (n : Name) : Type 0 where
  pub name : is_name_text n.text.items ≡ true
  pub small : n.address < 2 ^ 32

-- names that are a table
pub record IsTable (names : List Name) : Type 0 where
  pub rows : AllByRecursion HasRow names
  pub order : are_in_order names ≡ true

-- ---- bad tables

-- a record may stand behind these names: it has a name, and this address, which comes next
pub record IsNext (names : List Name) (fields : List (List ℕ)) (address : ℕ) : Type 0 where
  pub text_is : fields ≡ get_or fields 0 [] ∷ decimal address ∷ []
  pub name : is_name_text (get_or fields 0 []) ≡ true
  pub small : address < 2 ^ 32
  pub next : comes_next names (get_or fields 0 []) address ≡ true

-- the first bad column of a record behind these names, counted from 1: a name that is none, or an address with which it
-- may not stand there; 0 if the number of fields is wrong
unfoldable pub FirstBad : List Name → List (List ℕ) → ℕ → Type 0
FirstBad names fields zero = length fields ≢ 2
FirstBad names fields (suc zero) = (length fields ≡ 2) × (is_name_text (get_or fields 0 []) ≡ false)
FirstBad names fields (suc (suc zero)) =
    (length fields ≡ 2) × (is_name_text (get_or fields 0 []) ≡ true) × ((address : ℕ) → IsNext names fields address → ⊥)
FirstBad names fields _ = ⊥

-- a bad record follows the rows of some table
abbrev pub IsBadName : List ℕ → (row column : ℕ) → Type 0
IsBadName text row column =
    (names : List Name) × IsTable names × (row ≡ length names + 2) × (fields : List (List ℕ))
    × BeginsWith text (table_records names ++ (fields ∷ []))
    × FirstBad names fields column

-- a reading fails for memory or the reader, or names the text's first bad record, if the text is known, with its first
-- bad column
abbrev pub IsNamesFault : Option (List ℕ) → ReportError → Type 0
IsNamesFault known fault.Memory = Unit {0}
IsNamesFault known fault.Read = Unit {0}
IsNamesFault known fault.Write = ⊥
IsNamesFault None (fault.Row row column) = Unit {0}
IsNamesFault (Some text) (fault.Row row column) = IsBadHeader text header row column ⊎ IsBadName text row column
