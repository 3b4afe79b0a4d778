-- The history of a scheduled run is a play.
use Rattle.std.proofs.Common.{ℕ, zero, suc, ◌≡◌, ◌∷◌, [], List, length, inl, inr, refl, sym, ap, ◌∙◌, subst}
use Rattle.svc_base.specs.declared.config.Config.{Config}
use Rattle.svc_base.specs.declared.ids.UnitId.{UnitId}
use Rattle.svc_image.specs.Image.{Image, IsImage}
use Rattle.svc_machine_laws.specs.Events.{Event, IsEvent}
use Rattle.svc_machine_laws.specs.Standing.{reply_to, opened_at}
use Rattle.svc_machine_laws.proofs.Given.{given}
use Rattle.svc_history_laws.specs.Entries.{entry_of}
use Rattle.svc_history_laws.specs.Legal.{last}
use Rattle.svc_history_laws.proofs.Legality.{entry_leads, last-append}
use Rattle.svc_history.specs.Moves.{NextMove, Begin, RunOn, Commit, Wait, Ended, move_of}
use Rattle.svc_history.specs.Recorded.{Recorded, IsLegal, standing_of}
use Rattle.svc_schedule.specs.Moves as schedule
use Rattle.svc_schedule.specs.Moves.{IsMade}
use Rattle.svc_schedule.specs.Steps.{FirstMoves, IsScheduled, Steps, asked}
use Rattle.svc_explore_laws.specs.Moves.{Asks, Moves, Plays}
use Rattle.svc_explore_laws.proofs.ClosedPlays.{moves_event}
use Rattle.svc_explore.specs.Recorders.{HasMoved, PlaysTo}
use Rattle.svc_explore.proofs.Leading.{opened_standing}
use Rattle.svc_explore.proofs.Moving.{begin_asks, commit_asks, lease_unit, run_asks}
use Rattle.svc_explore.proofs.PlayEnds.{is_play, recorder_plays}

-- the move of a unit, as a step tells it, is its move
module _ (r : Recorded) (legal : IsLegal r) (most unit : ℕ) where
  asks_by : (next : NextMove) (x : Event) → move_of r.machine unit ≡ next → schedule.Asks r.machine.image r.machine.config (standing_of r) most unit next x
      → Asks r.machine.image r.machine.config (standing_of r) most unit x
  asks_by (Begin entry) x is asks =
      subst (Asks r.machine.image r.machine.config (standing_of r) most unit) (sym asks) (begin_asks r.machine (standing_of r) legal.here unit most entry is)
  asks_by (RunOn lease) x is asks =
      let burst = asks.1 in
      run_asks r.machine (standing_of r) legal.here unit most lease asks.0 x is
      (ap (λ (u : UnitId). u.0) burst.unit ∙ lease_unit r.machine (standing_of r) legal.here unit most lease is) burst.epoch burst.start burst.advance asks.2
  asks_by Commit x is asks = subst (Asks r.machine.image r.machine.config (standing_of r) most unit) (sym asks) (commit_asks r.machine (standing_of r) legal.here unit most is)
  asks_by Wait x is asks = absurd asks
  asks_by Ended x is asks = absurd asks

module _ (img : Image) (is : IsImage img) (config : Config) (most : ℕ) where
  made_moves : (old new : Recorded) (unit : UnitId) → old.machine.image ≡ img → IsLegal old → IsMade most old new unit → HasMoved most old new unit.0
  made_moves old new unit image_is legal made =
      let x : Event = made.event in
      let moves : Moves old.machine.image old.machine.config most (standing_of old) unit.0 x = record {
        known = made.move_is.known;
        asks = asks_by old legal most unit.0 (move_of old.machine unit.0) x refl made.move_is.asks;
        accepted = made.records.accepted;
      } in
      let is_event : IsEvent x = moves_event old.machine.image old.machine.config most (standing_of old) unit.0 x moves in
      let sound : IsImage old.machine.image = subst IsImage (sym image_is) is in
      record {
        event = x;
        moves = moves;
        entries = made.records.entries;
        standing =
            (λ i. last (made.records.image i) (opened_at (made.records.image i) (made.records.config i) 0) (made.records.entries i))
            ∙ last-append old.machine.image (opened_at old.machine.image old.machine.config 0) old.entries (entry_of x (reply_to old.machine.image (standing_of old) x))
            ∙ entry_leads old.machine.image (given old.machine.image sound) old.machine.config (standing_of old) x is_event made.records.accepted;
        image = made.records.image;
        config = made.records.config;
      }

  -- of these units some one has moved
  first_moved : (old new : Recorded) (units : List UnitId) → FirstMoves most old new units → (unit : UnitId) × IsMade most old new unit
  first_moved old new [] h = absurd h
  first_moved old new (unit ∷ units) (inl h) = (unit, h)
  first_moved old new (unit ∷ units) (inr h) = first_moved old new units h.1

  -- a play of this image and configuration, that ends where the history leads
  record IsPlayed (r : Recorded) : Type 0 where
    pub image : r.machine.image ≡ img
    pub config_is : r.machine.config ≡ config
    pub plays : PlaysTo img config most (opened_at img config 0) r.entries (standing_of r)

  played_more : (old new : Recorded) (unit : ℕ) → IsPlayed old → HasMoved most old new unit → IsPlayed new
  played_more old new unit played moved = record {
    image = moved.image ∙ played.image;
    config_is = moved.config ∙ played.config_is;
    plays =
        subst (λ c. PlaysTo img c most (opened_at img config 0) new.entries (standing_of new)) played.config_is
        (subst (λ i. PlaysTo i old.machine.config most (opened_at img config 0) new.entries (standing_of new)) played.image
        (recorder_plays most (opened_at img config 0) old new unit moved
        (subst (λ c. PlaysTo old.machine.image c most (opened_at img config 0) old.entries (standing_of old)) (sym played.config_is)
        (subst (λ i. PlaysTo i config most (opened_at img config 0) old.entries (standing_of old)) (sym played.image) played.plays))));
  }

  steps_play : {P : Type 0} (gives : P → Recorded → List UnitId → P → Type 0) (n : ℕ) (old new : P) (opened led : Recorded) → IsPlayed opened → Steps gives most n old new opened led → IsPlayed led
  steps_play gives zero old new opened led played steps = subst IsPlayed (sym steps.1) played
  steps_play gives (suc n) old new opened led played steps =
      let there : Recorded = steps.1 in
      let before : IsPlayed there = steps_play gives n old steps.0 opened there played steps.3 in
      let first = first_moved there led (asked steps.2) steps.6 in
      played_more there led first.0.0 before (made_moves there led first.0 before.image steps.4 first.1)

-- steps keep the image and the configuration
steps_image : {P : Type 0} (gives : P → Recorded → List UnitId → P → Type 0) (most n : ℕ) (old new : P) (opened led : Recorded) → Steps gives most n old new opened led → led.machine.image ≡ opened.machine.image
steps_image gives most zero old new opened led steps = ap (λ (r : Recorded). r.machine.image) steps.1
steps_image gives most (suc n) old new opened led steps = first steps.1 (asked steps.2) steps.6 ∙ steps_image gives most n old steps.0 opened steps.1 steps.3
  where
    first : (there : Recorded) (units : List UnitId) → FirstMoves most there led units → led.machine.image ≡ there.machine.image
    first there [] h = absurd h
    first there (unit ∷ units) (inl h) = h.records.image
    first there (unit ∷ units) (inr h) = first there units h.1

steps_config : {P : Type 0} (gives : P → Recorded → List UnitId → P → Type 0) (most n : ℕ) (old new : P) (opened led : Recorded) → Steps gives most n old new opened led → led.machine.config ≡ opened.machine.config
steps_config gives most zero old new opened led steps = ap (λ (r : Recorded). r.machine.config) steps.1
steps_config gives most (suc n) old new opened led steps = first steps.1 (asked steps.2) steps.6 ∙ steps_config gives most n old steps.0 opened steps.1 steps.3
  where
    first : (there : Recorded) (units : List UnitId) → FirstMoves most there led units → led.machine.config ≡ there.machine.config
    first there [] h = absurd h
    first there (unit ∷ units) (inl h) = h.records.config
    first there (unit ∷ units) (inr h) = first there units h.1

pub scheduled_plays : {P : Type 0} (gives : P → Recorded → List UnitId → P → Type 0) (img : Image) → IsImage img → (config : Config) (most : ℕ) (old new : P) (r : Recorded)
    → IsScheduled gives img config most old new r → Plays img config most (opened_at img config 0) r.entries
scheduled_plays gives img is config most old new r run =
    let first : Recorded = run.opened in
    let image : first.machine.image ≡ img = sym (steps_image gives most (length r.entries) old new first r run.steps) ∙ run.image in
    let config_is : first.machine.config ≡ config = sym (steps_config gives most (length r.entries) old new first r run.steps) ∙ run.config_is in
    let standing : standing_of first ≡ opened_at img config 0 = opened_standing first run.no_entries ∙ (λ i. opened_at (image i) (config_is i) 0) in
    let opened : IsPlayed img is config most first = record {
      image = image;
      config_is = config_is;
      plays = subst (λ es. PlaysTo img config most (opened_at img config 0) es (standing_of first)) (sym run.no_entries) standing;
    } in
    is_play img config most (opened_at img config 0) (standing_of r) r.entries (steps_play img is config most gives (length r.entries) old new first r opened run.steps).plays
