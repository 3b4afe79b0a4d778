-- Where keys are closed, every play shows what was found and nothing else.
use Rattle.std.proofs.Common.{ℕ, ◌≡◌, ◌⊎◌, List, [], ◌∷◌, Option, Some, None, inl, inr, refl, sym, ap, ◌∙◌, subst}
use Rattle.std.specs.List.{AllByRecursion}
use Rattle.svc_base.specs.declared.config.Config.{Config}
use Rattle.svc_image.specs.Image.{Image, IsImage}
use Rattle.svc_core_laws.specs.declared.end.End.{End}
use Rattle.svc_core_laws.specs.State.{State}
use Rattle.svc_core_laws.specs.Words.{program}
use Rattle.svc_machine_laws.specs.WholeMachine.{Seat, machine_of}
use Rattle.svc_machine_laws.specs.Events.{Event, Submit, IsEvent}
use Rattle.svc_machine_laws.specs.Refusals.{seat_at}
use Rattle.svc_machine_laws.specs.Standing.{Standing, refusal_of, standing_after, opened_at}
use Rattle.svc_machine_laws.specs.Reached.{IsReached}
use Rattle.svc_machine_laws.proofs.Given.{given}
use Rattle.svc_machine_laws.proofs.Standings.{step_reached}
use Rattle.svc_history_laws.specs.declared.entry.Entry.{Entry}
use Rattle.svc_explore_laws.specs.Futures.{HaveOneFuture}
use Rattle.svc_explore_laws.specs.Moves.{SubmitsOrReplaces, AsksWith, AsksBy, Moves, IsTurn, Plays, HasRoom}
use Rattle.svc_explore_laws.specs.Closed.{IsIn, TellsKeys, HasNoMove, AreIn, IsFollowed, IsExplored, IsClosed, ShowsFound, ShowNothingElse}
use Rattle.svc_explore_laws.specs.declared.observation.Observation.{Observation}
use Rattle.svc_explore_laws.specs.Observations.{observations}
use Rattle.svc_explore_laws.proofs.Sights.{same_sights}
use Rattle.svc_explore_laws.proofs.FutureSteps.{future_step}
use Rattle.svc_explore_laws.proofs.FutureMoves.{moves_alike, only_alike}
use Rattle.svc_explore_laws.proofs.Keys.{keys_tell, future_trans, future_refl}

-- a unit's move is an event
module _ (img : Image) (config : Config) (most : ℕ) (s : Standing) (unit : ℕ) (x : Event) where
  event_with : (seat : Seat State) (d : Option End) → AsksWith img config s most unit seat d x → IsEvent x
  event_with seat (Some end) h = subst IsEvent (sym h.1) tt
  event_with seat None h = of h.2
    where
      of : SubmitsOrReplaces unit h.0 (refusal_of img config s (Submit h.0)) x → IsEvent x
      of (inl l) = subst IsEvent (sym l.0) h.1.advance.follows
      of (inr l) = subst IsEvent (sym l.2) tt

  event_by : (o : Option (Seat State)) → AsksBy img config s most unit o x → IsEvent x
  event_by None h = subst IsEvent (sym h.2) tt
  event_by (Some seat) h = event_with seat seat.core.done h

  pub moves_event : Moves img config most s unit x → IsEvent x
  moves_event h = event_by (seat_at (machine_of (program img) s.plain) unit) h.asks

module _ (img : Image) (is_image : IsImage img) (config : Config) (most : ℕ) {K : Type 0} (key : Standing → K) (tells : TellsKeys img config key)
    (keys : List K) (found : List Observation) (closed : IsClosed img config most key keys found) where
  -- a standing that one with a listed key has the same future as
  record IsSeen (s : Standing) : Type 0 where
    pub reached : IsReached img config s
    pub other : Standing
    pub also : IsReached img config other
    pub listed : IsIn (key other) keys
    pub same : HaveOneFuture img s other

  next : (s t : Standing) (x : Event) → IsEvent x → IsReached img config s → refusal_of img config s x ≡ None → t ≡ standing_after img s x → IsReached img config t
  next s t x is reached h leads = subst (IsReached img config) (sym leads) (step_reached img (given img is_image) config s reached x is h)

  -- the unit's move where its key was explored
  followed : (s t : Standing) (e : Entry) (turn : IsTurn img config most s t e) → IsReached img config s → (u : Standing) → IsReached img config u → HaveOneFuture img s u → HasRoom config u.plain
      → HasNoMove img config most u turn.unit ⊎ IsFollowed img config most key keys found u turn.unit → AreIn (observations s.plain e) found × IsSeen t
  followed s t e turn reached u also same room (inl none) = let other = moves_alike img config most s u same room turn.unit turn.event turn.moves in absurd (none other.0 other.1)
  followed s t e turn reached u also same room (inr move) =
      let x : Event = turn.event in
      let y : Event = move.event in
      let is : IsEvent x = moves_event img config most s turn.unit x turn.moves in
      let iy : IsEvent y = moves_event img config most u turn.unit y move.moves in
      let alike = only_alike img config most s u same room turn.unit x y turn.moves move.moves in
      let both = future_step img is_image config s u reached also same x y is iy alike turn.moves.accepted move.moves.accepted in (
        subst (λ os. AreIn os found) (ap (observations u.plain) (sym (turn.entry ∙ both.0)) ∙ sym (same_sights img s u same e)) move.found_is,
        record {
          reached = next s t x is reached turn.moves.accepted turn.leads;
          other = standing_after img u y;
          also = next u (standing_after img u y) y iy also move.moves.accepted refl;
          listed = move.leads;
          same = subst (λ z. HaveOneFuture img z (standing_after img u y)) (sym turn.leads) both.1;
        },
      )

  step : (s t : Standing) (e : Entry) → IsSeen s → IsTurn img config most s t e → AreIn (observations s.plain e) found × IsSeen t
  step s t e seen turn =
      let there : IsExplored img config most key keys found (key seen.other) turn.unit = closed.each (key seen.other) seen.listed turn.unit turn.moves.known in
      let one : HaveOneFuture img seen.other there.standing = keys_tell img config seen.other there.standing seen.also there.reached (tells seen.other there.standing seen.also there.reached (sym there.has_key)) in
      followed s t e turn seen.reached there.standing there.reached (future_trans img s seen.other there.standing seen.same one) there.room there.move

  plays : (es : List Entry) (s : Standing) → IsSeen s → (play : Plays img config most s es) → ShowsFound img config most found s es play
  plays [] s seen play = tt
  plays (e ∷ es) s seen play =
      let one = step s play.0 e seen play.1 in
      (one.0, plays es play.0 one.1 play.2)

  pub shows : IsReached img config (opened_at img config 0) → ShowNothingElse img config most found
  shows reached es play =
      plays es (opened_at img config 0) (record {
        reached = reached;
        other = opened_at img config 0;
        also = reached;
        listed = closed.opening;
        same = future_refl img config (opened_at img config 0) reached;
      }) play
