-- What is told of each active task.
use Rattle.std.specs.Prelude.{ℕ, suc, List, [], ◌∷◌, ◌++◌}
use Rattle.svc_core_laws.specs.State.{State}
use Rattle.svc_machine_laws.specs.PlainMachine.{Running}

-- what is told of these tasks, one after another, numbered from this one on
abbrev pub each_task : (told : ℕ → Running State → List ℕ) → (number : ℕ) → List (Running State) → List ℕ
each_task told number [] = []
each_task told number (x ∷ runs) = told number x ++ each_task told (suc number) runs
