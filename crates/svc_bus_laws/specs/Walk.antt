-- The walk of a write over the later tasks, by which the version control logic finds the victim.
use Rattle.std.specs.Prelude.{ℕ, zero, suc, ◌-◌, Bool, cond, Option, Some, None, is_some, length}
use Rattle.svc_bus_laws.specs.LineTable.{LineTable, version_in, exposed_in, line_at}

-- n tasks are walked from a place on: one that exposed the word is the answer; otherwise one with a version ends the
-- walk
abbrev pub walk : (ℕ → Bool) → (ℕ → Bool) → ℕ → ℕ → Option ℕ
walk exposes stores v zero = None
walk exposes stores v (suc n) = cond (exposes v) (Some v) (cond (stores v) None (walk exposes stores (suc v) n))

-- the walk over the tasks above the writer: it finds an active line with L, and ends at an active dirty line without it
abbrev pub walk_lines : LineTable → ℕ → ℕ → Option ℕ
walk_lines t p a =
    walk (λ q. exposed_in (line_at t q a)) (λ q. is_some (version_in (line_at t q a))) (suc p) (length t.units - suc p)
