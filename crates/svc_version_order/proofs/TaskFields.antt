-- The field of an active task's line, by what is shown of the task.
use Rattle.std.proofs.Common.{◌≡◌, ℕ, [], Option, Some, None, refl, ap, sym}
use Rattle.std.specs.Prelude.{option_map}
use Rattle.std.proofs.lemmas.Option.{none-some}
use Rattle.svc_core_laws.specs.State.{State}
use Rattle.svc_bus_laws.specs.BusState.{BusState}
use Rattle.svc_machine.specs.declared.shown.ActiveTask.{ActiveTask}
use Rattle.svc_machine.specs.Reads.{task_shown}
use Rattle.svc_machine_laws.specs.PlainMachine.{Running}
use Rattle.svc_report.specs.Fields.{optional}
use Rattle.svc_version_order.specs.Order.{task_field, unit_field}

pub some_field : (b : BusState) (word number : ℕ) (task : ActiveTask) (o : Option (Running State)) → Some task ≡ option_map task_shown o
    → unit_field number task.unit.0 (b.lines task.unit.0 word) ≡ optional (task_field b word number) o
some_field b word number task None e = absurd (none-some task (sym e))
some_field b word number task (Some x) e =
    let same : task ≡ task_shown x = cc in
    ap (λ (t : ActiveTask). unit_field number t.unit.0 (b.lines t.unit.0 word)) same

pub no_field : (b : BusState) (word number : ℕ) (o : Option (Running State)) → None ≡ option_map task_shown o → [] ≡ optional (task_field b word number) o
no_field b word number None e = refl
no_field b word number (Some x) e = absurd (none-some (task_shown x) e)
