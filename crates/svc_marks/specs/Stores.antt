-- Where each unit last stored each word, as contracts see it.
use Rattle.std.specs.Prelude.{◌≡◌, ℕ, ◌==◌, Bool, ◌&&◌, List, Option, Some, None}
use Rattle.std.specs.HashMap.{get}
use Rattle.svc_base.specs.declared.ids.UnitId.{UnitId}
use Rattle.svc_base.specs.declared.ids.WordAddr.{WordAddr}
use Rattle.svc_history_laws.specs.declared.entry.Entry.{Entry}
use Rattle.svc_marks.specs.declared.bars.Window.{Window}
use Rattle.svc_marks.specs.declared.stores.LastStores.{LastStores}
use Rattle.svc_marks.specs.Marks.{last_shown}

-- a unit and a word are these
abbrev pub is_key : ℕ × ℕ → ℕ × ℕ → Bool
is_key k q = (k.0 == q.0) && (k.1 == q.1)

-- where the unit last stored the word
abbrev pub last_store : LastStores → UnitId → Option WordAddr → Option ℕ
last_store s unit None = None
last_store s unit (Some word) = get is_key s.places (unit.0, word.0)

-- these are the last stores of the entries that are shown before an index
abbrev pub AreLastShown : List Entry → Window → (at : ℕ) → LastStores → Type 0
AreLastShown es w at s =
    (unit : UnitId) (word : Option WordAddr) → last_store s unit word ≡ last_shown es w at unit word
