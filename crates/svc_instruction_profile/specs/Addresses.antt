-- At which instruction each entry of a history asks.
use Rattle.std.specs.Prelude.{ℕ, Bool, cond, ◌&&◌, List, [], ◌∷◌, Option, None, option_map}
use Rattle.svc_base.specs.declared.config.Config.{Config}
use Rattle.svc_image.specs.Image.{Image}
use Rattle.svc_core_laws.specs.State.{State}
use Rattle.svc_core_laws.specs.Program.{locals}
use Rattle.svc_core_laws.specs.Words.{program}
use Rattle.svc_machine_laws.specs.PlainMachine.{Plain}
use Rattle.svc_machine_laws.specs.Refusals.{seat_at}
use Rattle.svc_machine_laws.specs.Standing.{Standing, opened_at}
use Rattle.svc_machine_laws.specs.WholeMachine.{Seat, machine_of}
use Rattle.svc_history_laws.specs.declared.entry.Entry.{Entry}
use Rattle.svc_history_laws.specs.declared.entry.Kind.TheVariants.{Submit}
use Rattle.svc_history_laws.specs.Legal.{after_entry, led_to, the_ask, the_local}
use Rattle.svc_report.specs.Summary.{is_kind}

-- the entry has an asked turn
abbrev pub asks : Entry → Bool
asks e = is_kind Submit e.kind && the_ask e

-- the place of the instruction that a task comes to after this many local turns
abbrev pub place_after : Image → (local : ℕ) → Seat State → ℕ
place_after img local seat = (locals (program img) local seat.core).pc

-- the address of the instruction at which an entry asks, if it does: where its unit's task stands after the local turns
abbrev pub address_at : Image → Plain → Entry → Option ℕ
address_at img s e =
    cond (asks e) (option_map (place_after img (the_local e)) (seat_at (machine_of (program img) s) e.unit.0)) None

-- the same where these entries lead
abbrev pub address_there : Image → Config → (before : List Entry) → Entry → Option ℕ
address_there img config before e = address_at img (led_to img config before).plain e

-- the same for each entry, from a standing on
unfoldable pub addresses_from : Image → Standing → List Entry → List (Option ℕ)
addresses_from img s [] = []
addresses_from img s (e ∷ es) = address_at img s.plain e ∷ addresses_from img (after_entry img s e) es

-- the same for each entry of a history
abbrev pub addresses : Image → Config → List Entry → List (Option ℕ)
addresses img config es = addresses_from img (opened_at img config 0) es
