-- The laws of standings with the same future.
use Rattle.std.specs.Prelude.{◌≡◌, ℕ, None, List}
use Rattle.svc_base.specs.declared.config.Config.{Config}
use Rattle.svc_image.specs.Image.{Image, IsImage}
use Rattle.svc_machine_laws.specs.Events.{Event, IsEvent}
use Rattle.svc_machine_laws.specs.Standing.{Standing, refusal_of, standing_after, reply_to}
use Rattle.svc_machine_laws.specs.Reached.{IsReached}
use Rattle.svc_history_laws.specs.Entries.{entry_of}
use Rattle.svc_explore_laws.specs.Futures.{HaveOneFuture, AreAlikeEvents}
use Rattle.svc_history_laws.specs.declared.entry.Entry.{Entry}
use Rattle.svc_explore_laws.specs.declared.observation.Observation.{Observation}
use Rattle.svc_explore_laws.specs.Observations.{observations}
use Rattle.svc_explore_laws.specs.Moves.{Moves, HasRoom}
use Rattle.svc_explore_laws.specs.Keys.{HaveOneKey}
use Rattle.svc_explore_laws.specs.Closed.{TellsKeys, IsClosed, ShowNothingElse}

-- accepted events that are alike have one entry, and lead to standings with the same future
abbrev pub FutureSteps : Type 0
FutureSteps =
    (img : Image) → IsImage img → (config : Config)
    → (s t : Standing) → IsReached img config s → IsReached img config t → HaveOneFuture img s t
    → (x y : Event) → IsEvent x → IsEvent y → AreAlikeEvents x y
    → refusal_of img config s x ≡ None → refusal_of img config t y ≡ None
    → (entry_of x (reply_to img s x) ≡ entry_of y (reply_to img t y))
    × HaveOneFuture img (standing_after img s x) (standing_after img t y)

-- where one standing has a move of a unit, each standing with the same future that has room has one alike
abbrev pub FutureMoves : Type 0
FutureMoves =
    (img : Image) → IsImage img → (config : Config) → (most : ℕ)
    → (s t : Standing) → IsReached img config s → IsReached img config t → HaveOneFuture img s t
    → HasRoom config t.plain → (unit : ℕ) → (x : Event) → Moves img config most s unit x
    → (y : Event) × Moves img config most t unit y × AreAlikeEvents x y

-- and its every move is alike
abbrev pub FutureOnly : Type 0
FutureOnly =
    (img : Image) → IsImage img → (config : Config) → (most : ℕ)
    → (s t : Standing) → IsReached img config s → IsReached img config t → HaveOneFuture img s t
    → HasRoom config t.plain → (unit : ℕ)
    → (x y : Event) → Moves img config most s unit x → Moves img config most t unit y → AreAlikeEvents x y

-- reached standings with one key have the same future
abbrev pub KeysTell : Type 0
KeysTell =
    (img : Image) → (config : Config)
    → (s t : Standing) → IsReached img config s → IsReached img config t → HaveOneKey s t → HaveOneFuture img s t

-- standings with the same future show the same of an entry
abbrev pub FutureSights : Type 0
FutureSights =
    (img : Image) → (s t : Standing) → HaveOneFuture img s t → (e : Entry)
    → observations s.plain e ≡ observations t.plain e

-- THE CLOSED LIST: where the keys are closed, whatever units do and however long, all that an entry of the history
-- shows was found
abbrev pub ClosedLaw : Type 0 → Type 0
ClosedLaw K =
    (img : Image) → IsImage img → (config : Config) → (most : ℕ) → (key : Standing → K) → TellsKeys img config key
    → (keys : List K) (found : List Observation)
    → IsClosed img config most key keys found → ShowNothingElse img config most found
