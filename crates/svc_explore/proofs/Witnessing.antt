-- The history of a schedule that shows an observation is a witness of it.
use Rattle.std.proofs.Common.{ℕ, ◌≡◌, List, ◌∷◌, [], ◌++◌, Bool, true, false, inl, inr, refl, sym, ap, ◌∙◌, subst, arith}
use Rattle.std.proofs.lemmas.Bool.{cases_Bool, lt-leb}
use Rattle.svc_base.specs.declared.config.Config.{Config}
use Rattle.svc_base.specs.declared.ids.UnitId.{UnitId}
use Rattle.svc_image.specs.Image.{Image, IsImage}
use Rattle.svc_machine_laws.specs.PlainMachine.{Plain}
use Rattle.svc_machine_laws.specs.Events.{Event}
use Rattle.svc_machine_laws.specs.Standing.{Standing, opened_at, reply_to, standing_after}
use Rattle.svc_machine_laws.specs.Reached.{IsReached}
use Rattle.svc_machine.specs.Value.{StandsAt}
use Rattle.svc_history_laws.specs.declared.entry.Entry.{Entry}
use Rattle.svc_history_laws.specs.Entries.{entry_of}
use Rattle.svc_history_laws.specs.Legal.{LegalHistory}
use Rattle.svc_history.specs.Recorded.{IsLegal, Recorded, standing_of}
use Rattle.svc_explore_laws.specs.declared.observation.Observation.{Observation}
use Rattle.svc_explore_laws.specs.Closed.{HasNoMove, IsIn}
use Rattle.svc_explore_laws.specs.Moves.{HasRoom, IsTurn, Moves, Plays}
use Rattle.svc_explore_laws.specs.Observations.{observations}
use Rattle.svc_explore_laws.proofs.ClosedPlays.{moves_event}
use Rattle.svc_explore_laws.proofs.FutureMoves.{only_alike}
use Rattle.svc_explore_laws.proofs.FutureSteps.{future_step}
use Rattle.svc_explore_laws.proofs.Keys.{future_refl}
use Rattle.svc_explore.specs.Recorders.{GaveFew, HasMoved, LeadsOnly, PlaysTo}
use Rattle.svc_explore.specs.Witnesses.{IsWitness, ShowsSight}
use Rattle.svc_explore.specs.Tries.{Shows}
use Rattle.svc_explore.proofs.Leading.{has_room}
use Rattle.svc_explore.proofs.NoMatch.{shown_last}
use Rattle.svc_explore.proofs.OnePath.{room_of}

module _ (img : Image) (config : Config) (most : ℕ) (path : List UnitId) (unit : ℕ) (o : Observation) (shows : Shows img config most path unit o)
    (r : Recorded) (image_is : r.machine.image ≡ img) (config_is : r.machine.config ≡ config) (only : LeadsOnly img config most path (standing_of r)) where
  same : shows.standing ≡ standing_of r
  same = only shows.standing shows.leads

  -- the move that shows it
  moves_here : Moves img config most (standing_of r) unit shows.event
  moves_here = subst (λ z. Moves img config most z unit shows.event) same shows.moves

  pub room_here : StandsAt r.machine (standing_of r) → GaveFew (standing_of r) → HasRoom r.machine.config (standing_of r).plain
  room_here here few =
      let room = room_of img config (standing_of r) shows.event moves_here.accepted in
      let accepted : r.machine.plain.accepted ≡ (standing_of r).plain.accepted = ap (λ (p : Plain). p.accepted) here.plain in
      let events : r.machine.config.events ≡ config.events = ap (λ (c : Config). c.events) config_is in
      has_room r here few (lt-leb r.machine.config.events r.machine.plain.accepted (omega (arith, room, accepted, events)))

  must_move : HasNoMove r.machine.image r.machine.config most (standing_of r) unit → ⊥
  must_move none =
      none shows.event
      (subst (λ c. Moves r.machine.image c most (standing_of r) unit shows.event) (sym config_is) (subst (λ i. Moves i config most (standing_of r) unit shows.event) (sym image_is) moves_here))

  -- so the unit moves
  pub has_moved : (new : Recorded) (made : Bool) → (made ≡ true → HasMoved most r new unit) → (made ≡ false → HasNoMove r.machine.image r.machine.config most (standing_of r) unit) → HasMoved most r new unit
  has_moved new made moves rests = elim (cases_Bool made) [ inl e ↦ moves e | inr e ↦ absurd (must_move (rests e)) ]

  abbrev IsShownBy : List Entry → Type 0
  IsShownBy es = (play : Plays img config most (opened_at img config 0) es) × ShowsSight img config most o (opened_at img config 0) es play

  pub is_witness : IsImage img → IsReached r.machine.image r.machine.config (standing_of r) → HasRoom r.machine.config (standing_of r).plain
      → PlaysTo img config most (opened_at img config 0) r.entries (standing_of r) → (new : Recorded) → HasMoved most r new unit → IsLegal new → IsWitness img config most o new.entries
  is_witness is_image reached room plays new moved legal =
      let s : Standing = standing_of r in
      let x : Event = shows.event in
      let y : Event = moved.event in
      let mine : Moves img config most s unit y = subst (λ c. Moves img c most s unit y) config_is (subst (λ i. Moves i r.machine.config most s unit y) image_is moved.moves) in
      let there : IsReached img config s = subst (λ c. IsReached img c s) config_is (subst (λ i. IsReached i r.machine.config s) image_is reached) in
      let roomy : HasRoom config s.plain = subst (λ c. HasRoom c s.plain) config_is room in
      let one = future_refl img config s there in
      let alike = only_alike img config most s s one roomy unit x y moves_here mine in
      let step = future_step img is_image config s s there there one x y (moves_event img config most s unit x moves_here) (moves_event img config most s unit y mine) alike moves_here.accepted mine.accepted in
      let e : Entry = entry_of y (reply_to img s y) in
      let seen : IsIn o (observations s.plain e) =
      subst (λ z. IsIn o (observations s.plain z)) step.0
      (subst (λ (z : Standing). IsIn o (observations z.plain (entry_of x (reply_to img z x)))) same shows.seen) in
      let turn : IsTurn img config most s (standing_after img s y) e = record { unit = unit; event = y; moves = mine; entry = refl; leads = refl } in
      let last = shown_last img config most o (opened_at img config 0) s (standing_after img s y) r.entries e plays turn seen in
      let entries : new.entries ≡ r.entries ++ e ∷ [] = moved.entries ∙ ap (λ i. r.entries ++ entry_of y (reply_to i s y) ∷ []) image_is in
      let shown = subst IsShownBy (sym entries) last in
      record {
        legal = subst (λ c. LegalHistory img c new.entries) (moved.config ∙ config_is) (subst (λ i. LegalHistory i new.machine.config new.entries) (moved.image ∙ image_is) legal.legal);
        play = shown.0;
        shows = shown.1;
      }
