-- How many turns a task takes.
use Rattle.std.specs.Prelude.{ℕ, zero, suc, ◌+◌, cond, Option, Some, None, is_some}
use Rattle.svc_core_laws.specs.Program.{Memory, Program, part, seq}

-- of its first n turns from an entry: a task that has ended takes none
abbrev pub turns_taken : {C : Type 0} → Program C → (e n : ℕ) → Memory → ℕ
turns_taken p e zero m = 0
turns_taken p e (suc n) m = turns_taken p e n m + cond (is_some (p.done (part p e n m).core)) 0 1

-- of the whole task that is due, where one is
abbrev pub turns_due : {C : Type 0} → Program C → Memory → Option ℕ → ℕ
turns_due p m None = 0
turns_due p m (Some e) = turns_taken p e (suc (p.limit e)) m

abbrev pub turns : {C : Type 0} → Program C → (task : ℕ) → ℕ
turns p task = turns_due p (seq p task).memory (seq p task).due
