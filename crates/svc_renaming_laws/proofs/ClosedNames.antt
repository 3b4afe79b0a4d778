-- Where keys are closed up to names, every play shows what was found and nothing else.
use Rattle.std.proofs.Common.{ℕ, ◌≡◌, ◌⊎◌, List, [], ◌∷◌, inl, inr, sym, ap, ◌∙◌, subst}
use Rattle.svc_base.specs.declared.config.Config.{Config}
use Rattle.svc_image.specs.Image.{Image, IsImage}
use Rattle.svc_machine_laws.specs.Events.{Event, IsEvent}
use Rattle.svc_machine_laws.specs.Standing.{Standing, standing_after, opened_at, reply_to}
use Rattle.svc_machine_laws.specs.Reached.{IsReached}
use Rattle.svc_machine_laws.proofs.Given.{given}
use Rattle.svc_machine_laws.proofs.Standings.{step_reached}
use Rattle.svc_history_laws.specs.declared.entry.Entry.{Entry}
use Rattle.svc_history_laws.specs.Entries.{entry_of}
use Rattle.svc_explore_laws.specs.declared.observation.Observation.{Observation}
use Rattle.svc_explore_laws.specs.Observations.{observations}
use Rattle.svc_explore_laws.specs.Futures.{HaveOneFuture}
use Rattle.svc_explore_laws.specs.Moves.{IsTurn, Plays, HasRoom}
use Rattle.svc_explore_laws.specs.Closed.{IsIn, AreIn, HasNoMove, ShowsFound, ShowNothingElse}
use Rattle.svc_explore_laws.proofs.Sights.{same_sights}
use Rattle.svc_explore_laws.proofs.FutureSteps.{future_step}
use Rattle.svc_explore_laws.proofs.FutureMoves.{moves_alike, only_alike}
use Rattle.svc_explore_laws.proofs.Keys.{keys_tell, future_trans, future_refl}
use Rattle.svc_explore_laws.proofs.ClosedPlays.{moves_event}
use Rattle.svc_renaming_laws.specs.Renamings.{Renaming, IsRenaming, unchanged, followed_by}
use Rattle.svc_renaming_laws.specs.Renamed.{renamed_standing, renamed_entry}
use Rattle.svc_renaming_laws.specs.ClosedUpToNames.{HaveOneKeyUpToNames, TellsUpToNames, IsFollowedUpToNames, AllExplored, IsClosedUpToNames}
use Rattle.svc_renaming_laws.proofs.Names.{unchanged_renames, followed_renames}
use Rattle.svc_renaming_laws.proofs.ReachedNames.{renamed_reached}
use Rattle.svc_renaming_laws.proofs.MoveNames.{turn_renamed, turn_shows, turn_reached, standing_unchanged, standing_followed}
use Rattle.svc_renaming_laws.proofs.FutureNames.{future_renamed}

module _ (img : Image) (is_image : IsImage img) (config : Config) (most : ℕ) {K : Type 0} (has : Standing → K → Type 0) (tells : TellsUpToNames img config has)
    (keys : List K) (found : List Observation) (closed : IsClosedUpToNames img config most has keys found) where
  -- a standing that, with its units renamed, has the same future as one with a listed key
  record IsSeen (s : Standing) : Type 0 where
    pub reached : IsReached img config s
    pub names : Renaming
    pub rename : IsRenaming config.units names
    pub other : Standing
    pub also : IsReached img config other
    pub key : K
    pub has_key : has other key
    pub listed : IsIn key keys
    pub same : HaveOneFuture img (renamed_standing names s) other

  -- the renamed unit's move where its key was explored
  followed : (s t : Standing) (e : Entry) (turn : IsTurn img config most s t e) → IsReached img config s → (r : Renaming) → IsRenaming config.units r
      → (u : Standing) → IsReached img config u → HaveOneFuture img (renamed_standing r s) u → HasRoom config u.plain
      → HasNoMove img config most u (r.there turn.unit) ⊎ IsFollowedUpToNames img config most has keys found u (r.there turn.unit) → AreIn (observations s.plain e) found × IsSeen t
  followed s t e turn reached r is u also same room (inl none) =
      let there = turn_renamed img is_image config r is most s reached t e turn in
      let other = moves_alike img config most (renamed_standing r s) u same room there.unit there.event there.moves in
      absurd (none other.0 other.1)
  followed s t e turn reached r is u also same room (inr move) =
      let far : Standing = renamed_standing r s in
      let there = turn_renamed img is_image config r is most s reached t e turn in
      let x : Event = there.event in
      let y : Event = move.event in
      let ix : IsEvent x = moves_event img config most far there.unit x there.moves in
      let iy : IsEvent y = moves_event img config most u there.unit y move.moves in
      let alike = only_alike img config most far u same room there.unit x y there.moves move.moves in
      let both = future_step img is_image config far u (renamed_reached img config r s is reached) also same x y ix iy alike there.moves.accepted move.moves.accepted in
      let shown : observations s.plain e ≡ observations u.plain (entry_of y (reply_to img u y)) =
      sym (turn_shows img is_image config r is most s reached t e turn) ∙ same_sights img far u same (renamed_entry r e) ∙ ap (observations u.plain) (there.entry ∙ both.0) in (
        subst (λ os. AreIn os found) (sym shown) move.found_is,
        record {
          reached = turn_reached img is_image config r is most s reached t e turn;
          names = r;
          rename = is;
          other = standing_after img u y;
          also = step_reached img (given img is_image) config u also y iy move.moves.accepted;
          key = move.key;
          has_key = move.has_key;
          listed = move.listed;
          same = subst (λ z. HaveOneFuture img z (standing_after img u y)) (sym there.leads) both.1;
        },
      )

  step : (s t : Standing) (e : Entry) → IsSeen s → IsTurn img config most s t e → AreIn (observations s.plain e) found × IsSeen t
  step s t e seen turn =
      let there : AllExplored img config most has keys found seen.key = closed.each seen.key seen.listed in
      let one : HaveOneKeyUpToNames config seen.other there.standing = tells seen.other there.standing seen.key seen.also there.reached seen.has_key there.has_key in
      let r : Renaming = followed_by seen.names one.names in
      let is : IsRenaming config.units r = followed_renames config.units seen.names one.names seen.rename one.rename in
      let far : IsReached img config (renamed_standing seen.names s) = renamed_reached img config seen.names s seen.rename seen.reached in
      let moved : HaveOneFuture img (renamed_standing one.names (renamed_standing seen.names s)) (renamed_standing one.names seen.other) =
      future_renamed img config one.names (renamed_standing seen.names s) seen.other one.rename far seen.also seen.same in
      let told : HaveOneFuture img (renamed_standing one.names seen.other) there.standing =
      keys_tell img config (renamed_standing one.names seen.other) there.standing (renamed_reached img config one.names seen.other one.rename seen.also) there.reached one.same in
      let same : HaveOneFuture img (renamed_standing r s) there.standing =
      subst (λ z. HaveOneFuture img z there.standing) (standing_followed seen.names one.names s) (future_trans img (renamed_standing one.names (renamed_standing seen.names s)) (renamed_standing one.names seen.other) there.standing moved told) in
      followed s t e turn seen.reached r is there.standing there.reached same there.room (there.move (r.there turn.unit) (is.known turn.unit turn.moves.known))

  plays : (es : List Entry) (s : Standing) → IsSeen s → (play : Plays img config most s es) → ShowsFound img config most found s es play
  plays [] s seen play = tt
  plays (e ∷ es) s seen play =
      let one = step s play.0 e seen play.1 in
      (one.0, plays es play.0 one.1 play.2)

  pub shows : IsReached img config (opened_at img config 0) → ShowNothingElse img config most found
  shows reached es play =
      plays es (opened_at img config 0) (record {
        reached = reached;
        names = unchanged;
        rename = unchanged_renames config.units;
        other = opened_at img config 0;
        also = reached;
        key = closed.opening.key;
        has_key = closed.opening.has_key;
        listed = closed.opening.listed;
        same = subst (λ z. HaveOneFuture img z (opened_at img config 0)) (sym (standing_unchanged (opened_at img config 0))) (future_refl img config (opened_at img config 0) reached);
      }) play
