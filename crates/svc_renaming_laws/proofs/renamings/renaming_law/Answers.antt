use Rattle.svc_renaming_laws.proofs.Names.{swaps_rename, unchanged_renames, undone_renames, followed_renames}
use Rattle.svc_renaming_laws.proofs.OrderNames.{orders_rename}
use Rattle.svc_renaming_laws.proofs.renamings.renaming_law.Goals as goal

pub returns : goal.returns
returns c = record { swap = swaps_rename; unchanged = unchanged_renames; undone = undone_renames; followed = followed_renames; order = orders_rename }
