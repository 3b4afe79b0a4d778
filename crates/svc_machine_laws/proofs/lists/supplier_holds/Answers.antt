use Rattle.svc_machine_laws.proofs.Suppliers as law
use Rattle.svc_machine_laws.proofs.lists.supplier_holds.Goals as goal

pub returns : goal.returns
returns c = law.supplier_holds
