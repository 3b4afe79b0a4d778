-- The rows of an active task, by what is shown of the task.
use Rattle.std.proofs.Common.{◌≡◌, ◌++◌, ℕ, [], List, Bool, Option, Some, None, refl, ap, sym}
use Rattle.std.specs.Prelude.{cond, option_map}
use Rattle.std.proofs.lemmas.Option.{none-some}
use Rattle.svc_image.specs.Image.{Image}
use Rattle.svc_core_laws.specs.State.{State}
use Rattle.svc_machine.specs.declared.shown.ActiveTask.{ActiveTask}
use Rattle.svc_machine.specs.Cores.{core_in}
use Rattle.svc_machine.specs.Reads.{task_shown}
use Rattle.svc_machine_laws.specs.PlainMachine.{Running}
use Rattle.svc_report.specs.Fields.{optional}
use Rattle.svc_show.specs.Cores.{core_rows}
use Rattle.svc_show.specs.Rows.{task_row}
use Rattle.svc_show.specs.Show.{task_rows}

pub some_rows : (detail : Bool) (img : Image) (number : ℕ) (task : ActiveTask) (o : Option (Running State)) → Some task ≡ option_map task_shown o
    → task_row number task ++ cond detail (optional (core_rows img.registers task.unit.0) (option_map core_in o)) [] ≡ optional (task_rows detail img number) o
some_rows detail img number task None e = absurd (none-some task (sym e))
some_rows detail img number task (Some x) e =
    let same : task ≡ task_shown x = cc in
    ap (λ (t : ActiveTask). task_row number t ++ cond detail (core_rows img.registers t.unit.0 (core_in x)) []) same

pub no_rows : (detail : Bool) (img : Image) (number : ℕ) (o : Option (Running State)) → None ≡ option_map task_shown o → [] ≡ optional (task_rows detail img number) o
no_rows detail img number None e = refl
no_rows detail img number (Some x) e = absurd (none-some (task_shown x) e)
