-- Where an access lies, as code answers it.
use Rattle.std.specs.Prelude.{ℕ, Option, Some, None, Result, Ok, Err}
use Rattle.svc_core.specs.declared.access.Access.{Access}

-- the number of the trap, if it traps
abbrev pub trap_of : Result Access ℕ → Option ℕ
trap_of (Ok place) = None
trap_of (Err trap) = Some trap
