-- Tables that are made of labels, and their text.
use Rattle.std.specs.Prelude.{◌≡◌, ◌++◌, ◌∷◌, [], ℕ, List, Bool, false, true, codes, decimal, flat_map, map}
use Rattle.std.specs.Cmp.Lexicographic.{slice_cmp}
use Rattle.std.specs.List.{Contains}
use Rattle.std.specs.Ordering.{is_lt, nat_cmp, ordering_then}
use Rattle.std.specs.declared.cmp.Ordering.{Ordering}
use Rattle.svc_asm.specs.declared.labels.Label.{Label}
use Rattle.svc_asm.specs.Labels.{parts_of}
use Rattle.svc_names.specs.declared.name.Name.{Name}
use Rattle.svc_names.specs.Table.{IsTable, is_name_text}

-- ---- the text of a table

-- the row of a name
abbrev pub name_row : Name → List ℕ
name_row n = n.text.items ++ (44 ∷ (decimal n.address ++ (10 ∷ [])))

-- the text of a table: the names of the columns, and a row for each name
abbrev pub table_text : List Name → List ℕ
table_text names = codes "name,address\n" ++ flat_map name_row names

-- ---- what a table is made of

-- a name and its address
abbrev pub pair_of : Name → List ℕ × ℕ
pair_of n = (n.text.items, n.address)

abbrev pub pairs_of : List Name → List (List ℕ × ℕ)
pairs_of names = map pair_of names

-- the order of a table: by address, then by name
abbrev pub compared : (List ℕ × ℕ) → (List ℕ × ℕ) → Ordering
compared p q = ordering_then (nat_cmp p.1 q.1) (slice_cmp nat_cmp p.0 q.0)

abbrev pub is_below : Label → Label → Bool
is_below l m = is_lt (compared (parts_of l) (parts_of m))

-- a name and its address stand at or behind the last of some names
abbrev pub NotBelow : List Name → (pair : List ℕ × ℕ) → Type 0
NotBelow [] pair = Unit {0}
NotBelow (n ∷ []) pair = is_lt (compared pair (pair_of n)) ≡ false
NotBelow (n ∷ m ∷ names) pair = NotBelow (m ∷ names) pair

-- the table of some labels: each label that a table may have, once, and nothing else
pub record IsTableOf (labels : List (List ℕ × ℕ)) (names : List Name) : Type 0 where
  pub table : IsTable names
  pub all : (name : List ℕ) (address : ℕ) → Contains labels (name, address) → is_name_text name ≡ true
      → Contains (pairs_of names) (name, address)
  pub only : (name : List ℕ) (address : ℕ) → Contains (pairs_of names) (name, address) → Contains labels (name, address)
