-- What came of asking for a move.
use Rattle.std.proofs.Common.{ℕ, zero, suc, ◌≡◌, ◌<◌, ◌∙◌, List, [], ◌∷◌, ◌++◌, length, take, drop, set, arith, Bool, true, false, Option, Some, Result, Ok, Err, refl, sym, ap, subst, inl, inr, is_some, is_ok}
use Rattle.std.specs.Prelude.{All}
use Rattle.std.proofs.lemmas.List.{length-set}
use Rattle.std.proofs.lemmas.List.Elements.{All-append, All-set}
use Rattle.std.proofs.Math.Seq.{take-append_seam}
use borrow.Author.Tests.{both_ways}
use Rattle.std.proofs.lemmas.Option.{none-some, same_Some}
use Rattle.svc_base.specs.declared.ids.UnitId.{UnitId}
use Rattle.svc_base.specs.declared.ids.WordAddr.{WordAddr}
use Rattle.svc_base.specs.declared.refusal.Refusal.{Refusal}
use Rattle.svc_base.specs.declared.refusal.Refusal.TheVariants as refusal
use Rattle.svc_image.specs.Image.{Image}
use Rattle.svc_core_laws.specs.Bursts.{Advance, IsAdvance}
use Rattle.svc_core.specs.declared.burst.Lease.{Lease}
use Rattle.svc_machine_laws.specs.Events.{Event, Submit, Replace}
use Rattle.svc_machine_laws.specs.Standing.{refusal_of}
use Rattle.svc_history_laws.specs.declared.entry.Entry.{Entry}
use Rattle.svc_history_laws.specs.declared.entry.Slip.{Slip}
use Rattle.svc_history.specs.Applying.{IsApplied, refused_at}
use Rattle.svc_history.specs.Moves.{NextMove, move_of}
use Rattle.svc_history.specs.Moves as move
use Rattle.svc_history.specs.Recorded.{Recorded, standing_of}
use Rattle.svc_schedule.specs.Bursts.{AreReady}
use Rattle.svc_schedule.specs.Moves.{Asks, IsBurstOf, IsMade, IsPassed, Records}

one : (P : Advance → Type 0) (b : Advance) → P b → All P (b ∷ [])
one P b holds zero d below = holds
one P b holds (suc k) d below = absurd (omega (arith, below))

-- one burst more
pub ready_more : (img : Image) (most : ℕ) (bs more : List Advance) (b : Advance) → more ≡ bs ++ b ∷ [] → All (IsAdvance img most) bs → IsAdvance img most b → All (IsAdvance img most) more
ready_more img most bs more b is all this =
    subst (All (IsAdvance img most)) (sym is) (All-append (IsAdvance img most) bs (b ∷ []) all (one (IsAdvance img most) b this))

-- another burst in the place of one
pub ready_set : (img : Image) (most : ℕ) (bs : List Advance) (k : ℕ) (b : Advance) → AreReady img most bs → IsAdvance img most b → AreReady img most (set bs k b)
ready_set img most bs k b ready this = record {
  count = length-set bs k b ∙ ready.count;
  each = All-set (IsAdvance img most) bs k b this ready.each;
}

-- all of them, written back
pub ready_back : (img : Image) (most n : ℕ) (bs new : List Advance) → n ≡ length bs → AreReady img most bs → AreReady img most new → AreReady img most (take n (new ++ drop (length new) bs))
ready_back img most n bs new is old ready =
    let same : n ≡ length new = is ∙ (old.count ∙ sym ready.count) in
    subst (AreReady img most) (sym (ap (λ k. take k (new ++ drop (length new) bs)) same ∙ take-append_seam new (drop (length new) bs))) ready

-- an accepted event is recorded
pub recorded : (old new : Recorded) (x : Event) (slip : Slip) → IsApplied old new x (Ok slip) → Records old new x
recorded old new x slip is = record {
  accepted = is.refused;
  entries = is.entries ∙ ap (λ (e : Entry). old.entries ++ e ∷ []) is.entry;
  image = is.image;
  config = is.config;
}

module _ (most : ℕ) (old new : Recorded) (unit : UnitId) (known : unit.0 < old.machine.config.units) where
  abbrev Wants : NextMove → Event → Type 0
  Wants mv x = Asks old.machine.image old.machine.config (standing_of old) most unit.0 mv x

  abbrev why_not : Event → Option Refusal
  why_not x = refusal_of old.machine.image old.machine.config (standing_of old) x

  -- the event of its move is accepted
  pub made : (mv : NextMove) (x : Event) → move_of old.machine unit.0 ≡ mv → Wants mv x → Records old new x → IsMade most old new unit
  made mv x is asks records = record {
    event = x;
    move_is = record { known = known; asks = subst (λ v. Wants v x) (sym is) asks };
    records = records;
  }

  -- it is refused
  pub passed : (mv : NextMove) (x : Event) (why : Refusal) → move_of old.machine unit.0 ≡ mv → Wants mv x → why_not x ≡ Some why → IsPassed most old unit
  passed mv x why is asks says = inr (record {
    event = x;
    move_is = record { known = known; asks = subst (λ v. Wants v x) (sym is) asks };
    refused_is = ap is_some says;
  })

  -- what was answered to the event of its move
  pub asked_passed : (mv : NextMove) (x : Event) → move_of old.machine unit.0 ≡ mv → Wants mv x → (o : Result Slip Refusal) (ok : Bool) → ok ≡ is_ok o → IsApplied old new x o
      → ok ≡ false → (new ≡ old) × IsPassed most old unit
  asked_passed mv x is asks (Ok slip) ok ok_is applied e = absurd (both_ways ok e ok_is)
  asked_passed mv x is asks (Err why) ok ok_is applied e = (applied.unchanged, passed mv x why is asks applied.refused)

  pub asked_made : (mv : NextMove) (x : Event) → move_of old.machine unit.0 ≡ mv → Wants mv x → (o : Result Slip Refusal) (ok : Bool) → ok ≡ is_ok o → IsApplied old new x o
      → ok ≡ true → IsMade most old new unit
  asked_made mv x is asks (Ok slip) ok ok_is applied e = made mv x is asks (recorded old new x slip applied)
  asked_made mv x is asks (Err why) ok ok_is applied e = absurd (both_ways ok ok_is e)

  module _ (lease : Lease) (runs : move_of old.machine unit.0 ≡ move.RunOn lease) (b : Advance) (burst : IsBurstOf old.machine.image most lease b) where
    pub submit_made : Records old new (Submit b) → IsMade most old new unit
    submit_made records =
        made (move.RunOn lease) (Submit b) runs (b, burst, inl (refl, λ addr e. none-some (refusal.SetFull addr) (sym records.accepted ∙ e))) records

    pub submit_passed : (why : Refusal) → ((addr : WordAddr) → why ≡ refusal.SetFull addr → ⊥) → why_not (Submit b) ≡ Some why → IsPassed most old unit
    submit_passed why room h =
        passed (move.RunOn lease) (Submit b) why runs (b, burst, inl (refl, λ addr e. room addr (same_Some why (refusal.SetFull addr) (sym h ∙ e)))) h

    pub replace_made : (addr : WordAddr) → why_not (Submit b) ≡ Some (refusal.SetFull addr) → Records old new (Replace unit.0 addr.0) → IsMade most old new unit
    replace_made addr full records = made (move.RunOn lease) (Replace unit.0 addr.0) runs (b, burst, inr (addr, full, refl)) records

    pub replace_passed : (addr : WordAddr) → why_not (Submit b) ≡ Some (refusal.SetFull addr) → (why : Refusal) → why_not (Replace unit.0 addr.0) ≡ Some why → IsPassed most old unit
    replace_passed addr full why h = passed (move.RunOn lease) (Replace unit.0 addr.0) why runs (b, burst, inr (addr, full, refl)) h

    -- what was answered to the replacement
    pub replace_answered : (mid : Recorded) → mid ≡ old → (addr : WordAddr) → why_not (Submit b) ≡ Some (refusal.SetFull addr) → (o : Result Slip Refusal) (ok : Bool) → ok ≡ is_ok o
        → IsApplied mid new (Replace unit.0 addr.0) o
        → (ok ≡ true → IsMade most old new unit) × (ok ≡ false → (new ≡ old) × IsPassed most old unit)
    replace_answered mid same addr full (Ok slip) ok ok_is applied =
        (λ e. replace_made addr full (subst (λ (r : Recorded). Records r new (Replace unit.0 addr.0)) same (recorded mid new (Replace unit.0 addr.0) slip applied)), λ e. absurd (both_ways ok e ok_is))
    replace_answered mid same addr full (Err why) ok ok_is applied = (
      λ e. absurd (both_ways ok ok_is e),
      λ e. (applied.unchanged ∙ same, replace_passed addr full why (subst (λ (r : Recorded). refused_at r (Replace unit.0 addr.0) ≡ Some why) same applied.refused)),
    )
