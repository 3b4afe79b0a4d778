-- The longest chain of turns, each of which needs the one before.
use Rattle.std.specs.Prelude.{ℕ, zero, suc, ◌==◌, max, Bool, cond, ◌||◌, List, Option, Some, None, is_some}
use Rattle.svc_core_laws.specs.Program.{Memory, Words, Want, Local, Load, Store, Narrow, Emit, Program, Run, Action}
use Rattle.svc_core_laws.specs.Program.{wrote, exposed_words, part, seq}

-- the word that a turn reads, if any: a store of less than a word reads its word too
abbrev pub word_read : {C : Type 0} → Want C → Option ℕ
word_read (Local c) = None
word_read (Load a value go) = Some a
word_read (Store a w c) = None
word_read (Narrow a f c) = Some a
word_read (Emit w c) = None

-- the word that it writes, if any
abbrev pub word_written : {C : Type 0} → Want C → Option ℕ
word_written (Local c) = None
word_written (Load a value go) = None
word_written (Store a w c) = Some a
word_written (Narrow a f c) = Some a
word_written (Emit w c) = None

-- the time of each word's last store, 0 where there was none
abbrev pub Times : Type 0
Times = ℕ → ℕ

-- the time of a task's last turn, and of each word's last store so far
pub record Clock : Type 0 where
  pub now : ℕ
  pub stores : Times

abbrev pub stored_at : Option ℕ → (now : ℕ) → Times → Times
stored_at None now stores = stores
stored_at (Some word) now stores = λ a. cond (word == a) now (stores a)

-- the time before which a turn can't read its word, in a task that has exposed and written these: that of the word's
-- last store, where the task needs it here for the first time
abbrev pub ready : (exposes : ℕ → Bool) → Words → Times → Option ℕ → ℕ
ready exposes words stores None = 0
ready exposes words stores (Some word) = cond (exposes word || is_some (words word)) 0 (stores word)

-- one turn more, after these actions of its task: one after the turn before it, and after the store of the word that it
-- needs
abbrev pub tick : {C : Type 0} → Want C → List Action → Clock → Clock
tick want log clock =
    let now = suc (max clock.now (ready (exposed_words log) (wrote log) clock.stores (word_read want))) in
    record { now = now; stores = stored_at (word_written want) now clock.stores }

-- a task that has ended takes no turn
abbrev pub tick_if : {C : Type 0} → Program C → Run C → Clock → Clock
tick_if p run clock = cond (is_some (p.done run.core)) clock (tick (p.want run.core) run.log clock)

-- after n turns of a task that begins when its words were stored so
abbrev pub clock_of : {C : Type 0} → Program C → (e n : ℕ) → Memory → Times → Clock
clock_of p e zero m stores = record { now = 0; stores = stores }
clock_of p e (suc n) m stores = tick_if p (part p e n m) (clock_of p e n m stores)

-- after the whole task that is due, where one is
abbrev pub clock_due : {C : Type 0} → Program C → Memory → Times → Option ℕ → Clock
clock_due p m stores None = record { now = 0; stores = stores }
clock_due p m stores (Some e) = clock_of p e (suc (p.limit e)) m stores

-- the times of words' last stores before this task
abbrev pub times_before : {C : Type 0} → Program C → (task : ℕ) → Times
times_before p zero = λ a. 0
times_before p (suc task) = (clock_due p (seq p task).memory (times_before p task) (seq p task).due).stores

-- the chain of a task: the time of its last turn
abbrev pub chain : {C : Type 0} → Program C → (task : ℕ) → ℕ
chain p task = (clock_due p (seq p task).memory (times_before p task) (seq p task).due).now
