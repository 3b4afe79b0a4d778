use Rattle.svc_bus_laws.proofs.RefusalProofs.{unpinned_head}
use Rattle.svc_bus_laws.proofs.ReplaceLaws.{replace_sound, replace_map}
use Rattle.svc_bus_laws.proofs.table.replace_law.Goals as goal

pub returns : goal.returns
returns c = λ t u a sound free. (replace_sound t u a sound (unpinned_head t u a free), replace_map t u a sound (unpinned_head t u a free))
