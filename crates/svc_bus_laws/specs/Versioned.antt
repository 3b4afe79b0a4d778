-- The versioned map: one committed value for each word, and what each active task has written and read. The bus stands
-- for it; it has no caches. Tasks retire in order, the head first ("Multiscalar Processors", ISCA 1995). A task is
-- named by its place, which is its number less the number of commits: place 0 is the head, and above means later.
use Rattle.std.specs.Prelude.{ℕ, zero, suc, ◌+◌, ◌-◌, Bool, false, cond, not, ◌&&◌, ◌||◌, ◌==◌, ltb, leb, Option, Some}
use Rattle.std.specs.Prelude.{None, is_none, unwrap_or, option_map, List, [], ◌∷◌, ◌++◌, length, get_or, take, drop}
use Rattle.std.specs.Prelude.{set}
use Rattle.svc_bus_laws.specs.Search.{least, all_below}

-- what one active task has written, and which words it read before it wrote them
pub record Row : Type 0 where
  pub versions : ℕ → Option ℕ
  pub exposed : ℕ → Bool

-- committed values by word address, and the active tasks, oldest first: the row at place p is the task numbered commits
-- + p
pub record Versioned : Type 0 where
  pub commits : ℕ
  pub committed : ℕ → ℕ
  pub rows : List Row

-- a task that has neither written nor read
abbrev pub fresh_row : Row
fresh_row = record { versions = λ a. None; exposed = λ a. false }

-- the row at a place
abbrev pub row_at : Versioned → ℕ → Row
row_at m p = get_or m.rows p fresh_row

-- the version of a word that the task at a place has, if any
abbrev pub version : Versioned → ℕ → ℕ → Option ℕ
version m p a = (row_at m p).versions a

-- whether the task at a place read the word before it wrote it
abbrev pub is_exposed : Versioned → ℕ → ℕ → Bool
is_exposed m p a = (row_at m p).exposed a

-- the version at the greatest place below the bound that has one, otherwise the base
abbrev pub latest : (ℕ → Option ℕ) → ℕ → ℕ → ℕ
latest versions base zero = base
latest versions base (suc n) = unwrap_or (versions n) (latest versions base n)

-- what the task at a place reads: the version at the greatest place not above it that has one, otherwise the committed
-- value
abbrev pub view : Versioned → ℕ → ℕ → ℕ
view m p a = latest (λ q. version m q a) (m.committed a) (suc p)

-- no task strictly between two places has a version of the word
abbrev pub none_between : Versioned → ℕ → ℕ → ℕ → Bool
none_between m p v a = all_below v (λ r. leb r p || is_none (version m r a))

-- the least place above that exposed the word, if no task strictly between has a version
abbrev pub victim : Versioned → ℕ → ℕ → Option ℕ
victim m p a = least (length m.rows) (λ v. (ltb p v && is_exposed m v a) && none_between m p v a)

-- how many active tasks a write by the task at a place leaves: those before the victim, or all
abbrev pub survivors : Versioned → ℕ → ℕ → ℕ
survivors m p a = unwrap_or (victim m p a) (length m.rows)

-- what a write with a victim answers: the number of the first task cut, and how many are cut
pub record Victim : Type 0 where
  pub first : ℕ
  pub tasks : ℕ

-- the victim as a write answers it
abbrev pub victim_answer : Versioned → ℕ → ℕ → Option Victim
victim_answer m p a = option_map (λ v. record { first = m.commits + v; tasks = length m.rows - v }) (victim m p a)

-- a task begins, as the youngest
abbrev pub begin : Versioned → Versioned
begin m = record m { rows = m.rows ++ fresh_row ∷ [] }

-- the row after its task read the word: exposed, unless it is the head's or has a version
abbrev pub read_row : Row → ℕ → ℕ → Row
read_row r p a = record r { exposed = λ b. r.exposed b || ((a == b) && (not (p == 0) && is_none (r.versions a))) }

-- the task at a place read the word (its answer is the view)
abbrev pub read : Versioned → ℕ → ℕ → Versioned
read m p a = record m { rows = set m.rows p (read_row (row_at m p) p a) }

-- the row after its task wrote the word
abbrev pub written_row : Row → ℕ → ℕ → Row
written_row r a w = record r { versions = λ b. cond (a == b) (Some w) (r.versions b) }

-- the task at a place wrote the word, and the victim and all after it are cut
abbrev pub write : Versioned → ℕ → ℕ → ℕ → Versioned
write m p a w = record m { rows = take (survivors m p a) (set m.rows p (written_row (row_at m p) a w)) }

-- the rows once the first is the head's: its reads are no longer recorded
abbrev pub with_head : List Row → List Row
with_head [] = []
with_head (r ∷ rows) = record r { exposed = λ a. false } ∷ rows

-- the head's versions become the committed values, and the head leaves
abbrev pub commit : Versioned → Versioned
commit m = record {
  commits = suc m.commits;
  committed = λ a. unwrap_or (version m 0 a) (m.committed a);
  rows = with_head (drop 1 m.rows);
}

-- the tasks from a place on are cut, with all that they wrote and read
abbrev pub squash : Versioned → ℕ → Versioned
squash m n = record m { rows = take n m.rows }
