-- Rows with names at their ends.
use Rattle.std.specs.Prelude.{◌++◌, ◌∷◌, ◌+◌, ◌*◌, ◌==◌, ◌||◌, [], ℕ, zero, suc, List, Option, Some, None, Bool, false}
use Rattle.std.specs.Prelude.{codes, is_some, not, option_map, if◌then◌else◌}
use Rattle.std.specs.Str.{bytes_eq}
use Rattle.svc_image.specs.declared.layout.TheConstants.{DATA_START}
use Rattle.svc_tokens.specs.Characters.{value_of}
use Rattle.svc_names.specs.declared.name.Name.{Name}
use Rattle.svc_names.specs.declared.rows.Column.{Column}
use Rattle.svc_names.specs.declared.rows.Column.TheVariants as column
use Rattle.svc_names.specs.declared.rows.Rows.{Rows}
use Rattle.svc_names.specs.declared.rows.Rows.TheVariants as rows
use Rattle.svc_names.specs.Near.{label, nearest}

-- ---- the fields of a row

-- what stands before the first comma
unfoldable pub before_comma : List ℕ → List ℕ
before_comma [] = []
before_comma (b ∷ row) = if b == 44 then [] else b ∷ before_comma row

-- what follows it
unfoldable pub past_comma : List ℕ → List ℕ
past_comma [] = []
past_comma (b ∷ row) = if b == 44 then row else past_comma row

-- what follows the first so many commas
unfoldable pub past_commas : ℕ → List ℕ → List ℕ
past_commas zero row = row
past_commas (suc n) row = past_comma (past_commas n row)

-- the field of this place, counted from 0
abbrev pub field : (place : ℕ) → List ℕ → List ℕ
field place row = before_comma (past_commas place row)

-- ---- the address of a row

-- the column of a row's address, by the row's first field
unfoldable pub ending_column : List ℕ → Option Column
ending_column first =
    if bytes_eq first (codes "full") || bytes_eq first (codes "open") then Some (column.Text 1) else None

unfoldable pub shown_column : List ℕ → Option Column
shown_column first =
    if bytes_eq first (codes "task") then Some (column.Text 3) else
    if bytes_eq first (codes "due") || bytes_eq first (codes "guess") then Some (column.Text 1) else
    if bytes_eq first (codes "pc") then Some (column.Text 2) else
    if bytes_eq first (codes "line") then Some (column.Word 2) else
    if bytes_eq first (codes "spill") || bytes_eq first (codes "order")
    || bytes_eq first (codes "memory") then Some (column.Word 1) else
    ending_column first

-- that of a row of what may come next, by its kind: an assignment tells an entry, a replacement a word
unfoldable pub move_column : (kind : List ℕ) → Option Column
move_column kind =
    if bytes_eq kind (codes "assign") then Some (column.Text 3) else
    if bytes_eq kind (codes "replace") then Some (column.Word 3) else None

-- that of a row of a machine, by its first field and, where it is one of what may come next, by its kind
unfoldable pub machine_column : (first kind : List ℕ) → Option Column
machine_column first kind = if bytes_eq first (codes "move") then move_column kind else shown_column first

-- that of a row of what can be seen: where a task begins it tells its entry, else its word
unfoldable pub seen_column : (what : List ℕ) → Column
seen_column what = if bytes_eq what (codes "begin") then column.Text 4 else column.Word 3

abbrev pub column_of : Rows → (row : List ℕ) → Option Column
column_of rows.Shown row = machine_column (field 0 row) (field 2 row)
column_of rows.Counts row = ending_column (field 0 row)
column_of rows.Seen row = Some (seen_column (field 1 row))
column_of (rows.Table column) row = column

-- the byte address of a word of data
abbrev pub data_address : (word : ℕ) → ℕ
data_address word = DATA_START + 4 * word

-- the address in a column of a row
abbrev pub address_in : Column → List ℕ → Option ℕ
address_in (column.Text place) row = value_of 10 (field place row)
address_in (column.Word place) row = option_map data_address (value_of 10 (field place row))

abbrev pub address_at : Option Column → List ℕ → Option ℕ
address_at None row = None
address_at (Some column) row = address_in column row

-- the address of a row, if it has one
abbrev pub row_address : Rows → List ℕ → Option ℕ
row_address told row = address_at (column_of told row) row

-- ---- the name at its end

-- an address by the nearest name
abbrev pub label_text : (address : ℕ) → Option Name → List ℕ
label_text address None = []
label_text address (Some n) = label address n

-- the name of an address, if there is an address that has one
abbrev pub name_text : List Name → Option ℕ → List ℕ
name_text names None = []
name_text names (Some address) = label_text address (nearest address names)

-- a row is the header of a table: it begins with no number
abbrev pub is_header : Rows → List ℕ → Bool
is_header rows.Shown row = false
is_header rows.Counts row = false
is_header rows.Seen row = false
is_header (rows.Table column) row = not (is_some (value_of 10 (field 0 row)))

-- a row with one field more: the name of its address
abbrev pub named_row : List Name → Rows → List ℕ → List ℕ
named_row names told row =
    row ++ codes "," ++ (if is_header told row then codes "name" else name_text names (row_address told row))
    ++ codes "\n"

-- the rows of a text, of which one has begun with these bytes, each with one field more
unfoldable pub with_names_from : List Name → Rows → (row text : List ℕ) → List ℕ
with_names_from names told row [] = row
with_names_from names told row (b ∷ text) =
    if b == 10 then named_row names told row
    ++ with_names_from names told [] text else with_names_from names told (row ++ (b ∷ [])) text

-- the rows of a text, each with one field more
abbrev pub with_names : List Name → Rows → (text : List ℕ) → List ℕ
with_names names told text = with_names_from names told [] text
