-- Lists of events, and histories, whose units are renamed.
use Rattle.std.specs.Prelude.{◌≡◌, List, map}
use Rattle.std.specs.List.{AllByRecursion}
use Rattle.svc_base.specs.declared.config.Config.{Config}
use Rattle.svc_image.specs.Image.{Image, IsImage}
use Rattle.svc_machine_laws.specs.Events.{Event, IsEvent}
use Rattle.svc_machine_laws.specs.Standing.{Standing, after_events}
use Rattle.svc_history_laws.specs.declared.entry.Entry.{Entry}
use Rattle.svc_history_laws.specs.Legal.{Legal, LegalHistory, last, led_to}
use Rattle.svc_renaming_laws.specs.Renamings.{Renaming, IsRenaming}
use Rattle.svc_renaming_laws.specs.Renamed.{renamed_standing, renamed_event, renamed_entry}
use Rattle.svc_renaming_laws.specs.StandingLaws.{OfStandings}

-- whatever events are asked for, accepted or refused, the renamed ones lead to the renamed standing
abbrev pub RenamedRuns : Type 0
RenamedRuns = OfStandings (λ img config r s. (xs : List Event) → AllByRecursion IsEvent xs
    → after_events img config (renamed_standing r s) (map (renamed_event r) xs)
    ≡ renamed_standing r (after_events img config s xs))

-- entries that are legal from a standing on are so from the renamed one on when their units are renamed, and lead to
-- the renamed standing
pub record IsLegalRenamed (img : Image) (config : Config) (r : Renaming) (s : Standing) (es : List Entry) : Type 0 where
  pub legal : Legal img config (renamed_standing r s) (map (renamed_entry r) es)
  pub leads : last img (renamed_standing r s) (map (renamed_entry r) es) ≡ renamed_standing r (last img s es)

abbrev pub RenamedLegal : Type 0
RenamedLegal =
    OfStandings (λ img config r s. (es : List Entry) → Legal img config s es → IsLegalRenamed img config r s es)

-- THE SAME HISTORIES: a legal history whose units are renamed is a legal history, which leads to the renamed standing
abbrev pub RenamedHistories : Type 0
RenamedHistories =
    (img : Image) → IsImage img → (config : Config) (r : Renaming) → IsRenaming config.units r → (es : List Entry)
    → LegalHistory img config es
    → LegalHistory img config (map (renamed_entry r) es)
    × (led_to img config (map (renamed_entry r) es) ≡ renamed_standing r (led_to img config es))
