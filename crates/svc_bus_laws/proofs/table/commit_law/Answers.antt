use Rattle.svc_bus_laws.proofs.CommitLaws.{commit_sound, commit_map}
use Rattle.svc_bus_laws.proofs.PurgeLaws.{kept_spill}
use Rattle.svc_bus_laws.proofs.table.commit_law.Goals as goal

pub returns : goal.returns
returns c = record { commit = λ t sound has_head. (commit_sound t sound has_head, commit_map t sound has_head); spill = kept_spill }
