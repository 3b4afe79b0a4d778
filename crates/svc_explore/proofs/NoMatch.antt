-- What was looked for, and a play that shows it or none.
use Rattle.std.proofs.Common.{ℕ, ◌≡◌, ◌⊎◌, List, [], ◌∷◌, ◌++◌, Some, zero, suc, inl, inr, sym, subst, ap, ◌∙◌, slice_get, get_or, take, length, ◌<◌, ◌+◌, Bool, false, true≢false, IsTrue}
use Rattle.std.proofs.lemmas.List.{take_more}
use Rattle.std.proofs.lemmas.Option.{none-some, same_Some}
use Rattle.svc_base.specs.declared.config.Config.{Config}
use Rattle.svc_image.specs.Image.{Image}
use Rattle.svc_machine_laws.specs.Standing.{Standing, opened_at}
use Rattle.svc_history_laws.specs.declared.entry.Entry.{Entry}
use Rattle.svc_explore_laws.specs.declared.observation.Observation.{Observation}
use Rattle.svc_explore_laws.specs.Closed.{IsIn, ShowNothingElse, ShowsFound}
use Rattle.svc_explore_laws.specs.Moves.{IsTurn, Plays}
use Rattle.svc_explore_laws.specs.Observations.{observations}
use Rattle.svc_explore.specs.declared.found.Seen.{Seen}
use Rattle.svc_observations.specs.declared.sought.Sought.{Sought}
use Rattle.svc_explore.specs.Found.{are_seen}
use Rattle.svc_explore.specs.Recorders.{PlaysTo}
use Rattle.svc_observations.specs.Sought.{Matches}
use Rattle.svc_explore.specs.Witnesses.{ShowNoMatch, ShowsSight}
use Rattle.svc_explore.proofs.Growing.{map_append}
use Rattle.svc_explore.proofs.Permuting.{all_get}

-- ---- what a play shows

module _ (img : Image) (config : Config) (most : ℕ) where
  shown_found : (found : List Observation) (o : Observation) (s : Standing) (es : List Entry) (play : Plays img config most s es)
      → ShowsFound img config most found s es play → ShowsSight img config most o s es play → IsIn o found
  shown_found found o s [] play all shows = absurd shows
  shown_found found o s (e ∷ es) play all (inl here) = all_get (λ x. IsIn x found) (observations s.plain e) all.0 here.0 o here.1
  shown_found found o s (e ∷ es) play all (inr later) = shown_found found o play.0 es play.2 all.1 later

  pub no_match : (found : List Observation) (sought : Sought) → ShowNothingElse img config most found
      → ((o : Observation) → IsIn o found → Matches sought o → ⊥) → ShowNoMatch img config most sought
  no_match found sought whole none o matches es play shows = none o (shown_found found o (opened_at img config 0) es play (whole es play) shows) matches

  -- a play that goes on with a turn that shows the observation
  pub shown_last : (o : Observation) (s t u : Standing) (es : List Entry) (e : Entry) (play : PlaysTo img config most s es t) (turn : IsTurn img config most t u e) → IsIn o (observations t.plain e)
      → (plays : Plays img config most s (es ++ e ∷ [])) × ShowsSight img config most o s (es ++ e ∷ []) plays
  shown_last o s t u [] e play turn shows = (
    (u, subst (λ z. IsTurn img config most z u e) play turn, tt),
    inl (subst (λ (z : Standing). IsIn o (observations z.plain e)) play shows),
  )
  shown_last o s t u (x ∷ es) e play turn shows =
      let rest = shown_last o play.0 t u es e play.2 turn shows in
      ((play.0, play.1, rest.0), inr rest.1)

-- ---- the search for a match

seen_more : (old : List Seen) (s : Seen) → are_seen (old ++ s ∷ []) ≡ are_seen old ++ s.what ∷ []
seen_more old s = map_append (λ (s : Seen). s.what) old (s ∷ [])

last_or_before : {A : Type 0} (xs : List A) (y : A) (i : ℕ) (x : A) → slice_get (xs ++ y ∷ []) i ≡ Some x → (slice_get xs i ≡ Some x) ⊎ (x ≡ y)
last_or_before [] y zero x e = inr (sym (same_Some y x e))
last_or_before [] y (suc i) x e = absurd (none-some x e)
last_or_before (z ∷ xs) y zero x e = inl e
last_or_before (z ∷ xs) y (suc i) x e = last_or_before xs y i x e

-- none of these matches
abbrev pub MatchNone : Sought → List Seen → Type 0
MatchNone sought found = (o : Observation) → IsIn o (are_seen found) → Matches sought o → ⊥

pub match_none : (sought : Sought) (xs : List Seen) (i : ℕ) (s : Seen) → i < length xs → s ≡ get_or xs i s → MatchNone sought (take i xs)
    → (same : Bool) → (Matches sought s.what → IsTrue same) → same ≡ false → MatchNone sought (take (i + 1) xs)
match_none sought xs i s inside is none same told other o there matches =
    let grown : are_seen (take (i + 1) xs) ≡ are_seen (take i xs) ++ s.what ∷ [] =
    ap are_seen (take_more xs i s inside) ∙ seen_more (take i xs) (get_or xs i s) ∙ ap (λ (z : Seen). are_seen (take i xs) ++ z.what ∷ []) (sym is) in
    elim (last_or_before (are_seen (take i xs)) s.what there.0 o (ap (λ l. slice_get l there.0) (sym grown) ∙ there.1)) [
      | inl h ↦ none o (there.0, h) matches
      | inr h ↦ true≢false (sym (told (subst (Matches sought) h matches)) ∙ other)
    ]
