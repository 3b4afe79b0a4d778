-- Who serves a read holds what the run anew sees.
use Rattle.std.proofs.Common.{ℕ, ◌≡◌, length, Some, ap, ◌∙◌, slice_get, arith}
use Rattle.svc_base.specs.declared.config.Config.{Config}
use Rattle.svc_image.specs.Image.{Image}
use Rattle.svc_core_laws.specs.Program.{over, wrote, seq}
use Rattle.svc_core_laws.specs.Words.{program}
use Rattle.svc_bus_laws.specs.Versioned.{Versioned, view}
use Rattle.svc_bus_laws.specs.Supplier.{supplier, supplied_value}
use Rattle.svc_bus_laws.proofs.SupplierLaws.{supplier_value}
use Rattle.svc_machine_laws.specs.PlainMachine.{Task, unit_of, memory_at}
use Rattle.svc_machine_laws.specs.MachineLaws.{run_at}
use Rattle.svc_machine_laws.specs.Standing.{Standing}
use Rattle.svc_machine_laws.specs.Reached.{IsReached}
use Rattle.svc_machine_laws.proofs.Anew.{task_anew}
use Rattle.svc_machine_laws.proofs.Followed.{map_count}
use Rattle.svc_machine_laws.proofs.Places.{within}

pub supplier_holds : (img : Image) (config : Config) (s : Standing) → IsReached img config s → (place a : ℕ) (t : Task) → slice_get s.plain.tasks place ≡ Some t
    → supplied_value s.lines place a (supplier s.lines place a)
    ≡ Some (over (wrote (run_at (program img) s.plain place t).log) (memory_at (program img) (seq (program img) s.plain.commits).memory s.plain.tasks place) a)
supplier_holds img config s reached place a t at =
    let units = ap length reached.lines.units ∙ map_count unit_of s.plain.tasks in
    let inside = within s.plain.tasks place t at in
    supplier_value s.lines place a reached.lines.sound (omega (arith, units, inside))
    ∙ ap (λ (v : Versioned). Some (view v place a)) reached.lines.same_map
    ∙ ap Some ((task_anew (program img) s.plain place t at).reads a)
