-- The bus has nothing to do with the names of units.
use Rattle.std.specs.Prelude.{◌≡◌, ℕ, ◌<◌, length, option_map}
use Rattle.svc_bus_laws.specs.LineTable.{LineTable, newest, versioned_map}
use Rattle.svc_bus_laws.specs.Supplier.{supplier}
use Rattle.svc_bus_laws.specs.Steps.{read, write, replace, squash, commit, begin}
use Rattle.svc_bus_laws.specs.Sound.{IsSound}
use Rattle.svc_bus_laws.specs.Refusals.{table_cache, is_pinned, set_full, is_not_resident}
use Rattle.svc_renaming_laws.specs.Renamings.{Renaming, IsRenaming}
use Rattle.svc_renaming_laws.specs.RenamedLines.{renamed_lines, renamed_supplier}

-- a law of each renaming of a sound table's units
abbrev pub OfRenamings : (Renaming → LineTable → Type 0) → Type 0
OfRenamings law = (r : Renaming) (t : LineTable) → IsRenaming t.caches r → IsSound t → law r t

-- the renamed table is sound, and stands for the same versioned map
abbrev pub RenamedSound : Type 0
RenamedSound = OfRenamings (λ r t. IsSound (renamed_lines r t))

abbrev pub RenamedMap : Type 0
RenamedMap = OfRenamings (λ r t. versioned_map (renamed_lines r t) ≡ versioned_map t)

-- the unit of the newest committed dirty line of each word is the renamed one. This needs that the table is sound: of
-- two such lines with one number, that of the lower unit would be taken
abbrev pub RenamedNewest : Type 0
RenamedNewest = OfRenamings (λ r t. (a : ℕ) → newest (renamed_lines r t) a ≡ option_map r.there (newest t a))

abbrev pub RenamedSuppliers : Type 0
RenamedSuppliers =
    OfRenamings (λ r t. (p a : ℕ) → p < length t.units
    → supplier (renamed_lines r t) p a ≡ renamed_supplier r (supplier t p a))

-- each step of the renamed table is the renamed step
abbrev pub RenamedReads : Type 0
RenamedReads =
    OfRenamings (λ r t. (p a : ℕ) → p < length t.units → read (renamed_lines r t) p a ≡ renamed_lines r (read t p a))

abbrev pub RenamedWrites : Type 0
RenamedWrites =
    OfRenamings (λ r t. (p a w : ℕ) → p < length t.units
    → write (renamed_lines r t) p a w ≡ renamed_lines r (write t p a w))

abbrev pub RenamedReplacements : Type 0
RenamedReplacements =
    OfRenamings (λ r t. (u a : ℕ) → replace (renamed_lines r t) (r.there u) a ≡ renamed_lines r (replace t u a))

abbrev pub RenamedSquashes : Type 0
RenamedSquashes = OfRenamings (λ r t. (n : ℕ) → squash (renamed_lines r t) n ≡ renamed_lines r (squash t n))

abbrev pub RenamedCommits : Type 0
RenamedCommits = OfRenamings (λ r t. 0 < length t.units → commit (renamed_lines r t) ≡ renamed_lines r (commit t))

abbrev pub RenamedBeginnings : Type 0
RenamedBeginnings = OfRenamings (λ r t. (u : ℕ) → begin (renamed_lines r t) (r.there u) ≡ renamed_lines r (begin t u))

-- and each refusal is the same, with the same word
abbrev pub RenamedFull : Type 0
RenamedFull =
    OfRenamings (λ r t. (u a : ℕ)
    → set_full (table_cache (renamed_lines r t) (r.there u)) a ≡ set_full (table_cache t u) a)

abbrev pub RenamedResident : Type 0
RenamedResident =
    OfRenamings (λ r t. (u a : ℕ)
    → is_not_resident (table_cache (renamed_lines r t) (r.there u)) a ≡ is_not_resident (table_cache t u) a)

abbrev pub RenamedPinned : Type 0
RenamedPinned =
    OfRenamings (λ r t. (u a : ℕ) → is_pinned (table_cache (renamed_lines r t) (r.there u)) (renamed_lines r t).units
    (r.there u) a ≡ is_pinned (table_cache t u) t.units u a)
