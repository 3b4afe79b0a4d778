use Rattle.svc_bus_laws.proofs.SupplierLaws.{supplier_value, own_value, spill_supplies}
use Rattle.svc_bus_laws.proofs.table.supplier_law.Goals as goal

pub returns : goal.returns
returns c = record { value = supplier_value; own = own_value; spill = spill_supplies }
