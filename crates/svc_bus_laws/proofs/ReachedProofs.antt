-- Every reached line table is sound.
use Rattle.svc_bus_laws.specs.LineTable.{LineTable}
use Rattle.svc_bus_laws.specs.Sound.{IsSound}
use Rattle.svc_bus_laws.specs.Reached.{Reached, Opened, Begun, WasRead, Written, Replaced, Squashed, WasCommitted}
use Rattle.svc_bus_laws.proofs.OpenedLaws.{opened_sound}
use Rattle.svc_bus_laws.proofs.BeginLaws.{begin_sound}
use Rattle.svc_bus_laws.proofs.ReadLaws.{read_sound}
use Rattle.svc_bus_laws.proofs.WriteLaws.{write_law}
use Rattle.svc_bus_laws.proofs.ReplaceLaws.{replace_sound}
use Rattle.svc_bus_laws.proofs.RefusalProofs.{unpinned_head}
use Rattle.svc_bus_laws.proofs.SquashLaws.{squash_law}
use Rattle.svc_bus_laws.proofs.CommitLaws.{commit_sound}

pub reached_sound : (t : LineTable) → Reached t → IsSound t
reached_sound _ (Opened caches sets ways memory) = opened_sound caches sets ways memory
reached_sound _ (Begun s u before known idle) = begin_sound s u (reached_sound s before) known idle
reached_sound _ (WasRead s p a before within known) = read_sound s p a (reached_sound s before) within known
reached_sound _ (Written s p a w before within known) = (write_law s p a w (reached_sound s before) within known).0
reached_sound _ (Replaced s u a before free) = replace_sound s u a (reached_sound s before) (unpinned_head s u a free)
reached_sound _ (Squashed s n before above room) = (squash_law s n (reached_sound s before) above room).0
reached_sound _ (WasCommitted s before has_head) = commit_sound s (reached_sound s before) has_head
