use Rattle.svc_bus_laws.proofs.SquashLaws.{squash_law}
use Rattle.svc_bus_laws.proofs.Numbered.{squash_line, squash_from_is}
use Rattle.svc_bus_laws.proofs.table.squash_law.Goals as goal

pub returns : goal.returns
returns c = record { squash = squash_law; numbers = squash_line; from_unit = squash_from_is }
