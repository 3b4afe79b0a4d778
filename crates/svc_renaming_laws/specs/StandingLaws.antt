-- The machine has nothing to do with the names of units.
use Rattle.std.specs.Prelude.{◌≡◌, None}
use Rattle.svc_base.specs.declared.config.Config.{Config}
use Rattle.svc_image.specs.Image.{Image, IsImage}
use Rattle.svc_machine_laws.specs.declared.reply.Reply.{Reply}
use Rattle.svc_machine_laws.specs.Events.{Event, IsEvent}
use Rattle.svc_machine_laws.specs.Standing.{Standing, refusal_of, standing_after, reply_to}
use Rattle.svc_machine_laws.specs.Reached.{IsReached}
use Rattle.svc_history_laws.specs.Entries.{entry_of}
use Rattle.svc_renaming_laws.specs.Renamings.{Renaming, IsRenaming}
use Rattle.svc_renaming_laws.specs.Renamed.{renamed_standing, renamed_event, renamed_reply, renamed_entry}

-- a law of each renaming of the units of a reached standing
abbrev pub OfStandings : (Image → Config → Renaming → Standing → Type 0) → Type 0
OfStandings law =
    (img : Image) → IsImage img → (config : Config) (r : Renaming) (s : Standing) → IsRenaming config.units r
    → IsReached img config s → law img config r s

-- what holds of every standing that events lead to holds of the renamed one
abbrev pub RenamedReached : Type 0
RenamedReached = OfStandings (λ img config r s. IsReached img config (renamed_standing r s))

-- the renamed event is refused for the same reason, or accepted too
abbrev pub RenamedRefusals : Type 0
RenamedRefusals =
    OfStandings (λ img config r s. (x : Event)
    → refusal_of img config (renamed_standing r s) (renamed_event r x) ≡ refusal_of img config s x)

-- an accepted event leads to the renamed standing
abbrev pub RenamedSteps : Type 0
RenamedSteps = OfStandings (λ img config r s. (x : Event) → IsEvent x → refusal_of img config s x ≡ None
    → standing_after img (renamed_standing r s) (renamed_event r x) ≡ renamed_standing r (standing_after img s x))

-- with the renamed answer
abbrev pub RenamedReplies : Type 0
RenamedReplies =
    OfStandings (λ img config r s. (x : Event)
    → reply_to img (renamed_standing r s) (renamed_event r x) ≡ renamed_reply r (reply_to img s x))

-- and the renamed entry
abbrev pub RenamedEntries : Type 0
RenamedEntries =
    (r : Renaming) (x : Event) (y : Reply)
    → entry_of (renamed_event r x) (renamed_reply r y) ≡ renamed_entry r (entry_of x y)

-- a renamed event is one
abbrev pub RenamedEvents : Type 0
RenamedEvents = (r : Renaming) (x : Event) → IsEvent x → IsEvent (renamed_event r x)
