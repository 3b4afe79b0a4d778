-- The same view, victim and steps by recursion on the rows, as proofs about programs use them.
use Rattle.std.specs.Prelude.{ℕ, zero, suc, cond, ◌||◌, ◌&&◌, ◌==◌, Option, Some, None, is_some, is_none, unwrap_or}
use Rattle.std.specs.Prelude.{option_map, List, [], ◌∷◌, take}
use Rattle.svc_bus_laws.specs.Versioned.{Row, Versioned, written_row, with_head}

-- memory with a task's versions over it
abbrev pub over : (ℕ → Option ℕ) → (ℕ → ℕ) → ℕ → ℕ
over versions memory a = unwrap_or (versions a) (memory a)

-- what the task at a place reads, over the memory under the first row
abbrev pub view_of : List Row → (ℕ → ℕ) → ℕ → ℕ → ℕ
view_of [] memory p = memory
view_of (row ∷ rows) memory zero = over row.versions memory
view_of (row ∷ rows) memory (suc p) = view_of rows (over row.versions memory) p

-- the walk: the first row that exposed the word, unless one before it has a version
abbrev pub first_exposed : List Row → ℕ → Option ℕ
first_exposed [] a = None
first_exposed (row ∷ rows) a =
    cond (row.exposed a) (Some 0) (cond (is_some (row.versions a)) None (option_map suc (first_exposed rows a)))

-- the victim of a write by the task at a place, counted from the task after it
abbrev pub victim_after : List Row → ℕ → ℕ → Option ℕ
victim_after [] p a = None
victim_after (row ∷ rows) zero a = first_exposed rows a
victim_after (row ∷ rows) (suc p) a = victim_after rows p a

-- what stands before the cut
abbrev pub cut_at : {A : Type 0} → Option ℕ → List A → List A
cut_at None xs = xs
cut_at (Some n) xs = take n xs

-- the item at a place is changed, and those after it are cut
abbrev pub edit : {A : Type 0} → ℕ → (A → A) → Option ℕ → List A → List A
edit p f cut [] = []
edit zero f cut (x ∷ xs) = f x ∷ cut_at cut xs
edit (suc p) f cut (x ∷ xs) = x ∷ edit p f cut xs

-- a row after its task, not the head, read the word
abbrev pub exposed_row : ℕ → Row → Row
exposed_row a row = record row { exposed = λ b. row.exposed b || ((a == b) && is_none (row.versions b)) }

-- the rows after a read: the head's reads are not recorded
abbrev pub read_rows : ℕ → ℕ → List Row → List Row
read_rows zero a rows = rows
read_rows (suc p) a rows = edit (suc p) (exposed_row a) None rows

-- the task at a place read the word
abbrev pub read : Versioned → ℕ → ℕ → Versioned
read m p a = record m { rows = read_rows p a m.rows }

-- the task at a place wrote the word
abbrev pub write : Versioned → ℕ → ℕ → ℕ → Versioned
write m p a w = record m { rows = edit p (λ row. written_row row a w) (victim_after m.rows p a) m.rows }

-- the first of the rows is committed
abbrev pub commit_rows : Versioned → List Row → Versioned
commit_rows m [] = m
commit_rows m (row ∷ rows) =
    record { commits = suc m.commits; committed = over row.versions m.committed; rows = with_head rows }

-- the head is committed
abbrev pub commit : Versioned → Versioned
commit m = commit_rows m m.rows
