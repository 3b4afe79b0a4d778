-- The last dirty one of a word's committed lines has its committed value.
use Rattle.std.proofs.Common.{◌≡◌, ◌∙◌, sym, ℕ, Option, List, length, get_or, unwrap_or}
use Rattle.svc_bus_laws.specs.LineTable.{LineTable, committed_value}
use Rattle.svc_bus_laws.specs.BusState.{Agrees}
use Rattle.svc_bus_laws.proofs.SeenLaws.{committed_seen}
use Rattle.svc_vol.specs.declared.held_line.HeldLine.{HeldLine}
use Rattle.svc_vol.specs.Lines.{lines_in}
use Rattle.svc_vol.specs.Value.{AreCommitted}
use Rattle.svc_retire.specs.Purges.{IsNewest}
use Rattle.svc_retire.proofs.Newest.{newest_value}
use Rattle.svc_bus.specs.Value.{BusValue, IsSoundBus, state_in}
use Rattle.svc_bus.proofs.Knowing.{committed_is, ranked}

-- what is found is the committed value of every table that the bus agrees with
pub committed_found : (b : BusValue) (word : ℕ) (versions : List HeldLine) (last : Option ℕ) → IsSoundBus b → AreCommitted (lines_in b.caches word) (length b.caches) versions → IsNewest versions (length versions) last
    → (t : LineTable) → Agrees (state_in b) t → unwrap_or last (get_or b.backing word 0) ≡ committed_value t word
committed_found b word versions last sound list is t agrees =
    sym (newest_value b.caches b.backing word versions last list (ranked b sound word) is)
    ∙ committed_is b sound word
    ∙ committed_seen (state_in b) t word agrees
