-- A sequencer's tables.
use Rattle.std.specs.Prelude.{◌≡◌, ◌<◌, ◌≤◌, ℕ, List, [], ◌∷◌, length, slice_index}
use Rattle.std.specs.List.Sorted.{IsStrictlyIncreasing}
use Rattle.svc_machine_laws.specs.Guide.{Guide}

-- among rising entries, this one stands at the index, or would
pub record IsIndex (entries : List ℕ) (e index : ℕ) : Type 0 where
  pub before : (k : ℕ) → k < index → slice_index entries k < e
  pub after : (k : ℕ) → index ≤ k → k < length entries → e ≤ slice_index entries k

-- as many indices as active tasks, each that of the task's entry
abbrev pub AreIndices : List ℕ → (active indices : List ℕ) → Type 0
AreIndices entries [] [] = Unit {0}
AreIndices entries [] (index ∷ indices) = ⊥
AreIndices entries (e ∷ active) [] = ⊥
AreIndices entries (e ∷ active) (index ∷ indices) = IsIndex entries e index × AreIndices entries active indices

-- the entries rise, and each has an index for its successor; the indices of the active tasks' entries stand beside them
pub record AreTables (g : Guide) (indices : List ℕ) : Type 0 where
  pub rising : IsStrictlyIncreasing g.entries
  pub as_many : length g.successors ≡ length g.entries
  pub placed : AreIndices g.entries g.active indices
