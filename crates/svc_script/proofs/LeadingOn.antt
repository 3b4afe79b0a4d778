-- Scripts of events alone.
use Rattle.std.proofs.Common.{◌≡◌, ◌∙◌, ◌+◌, ◌<◌, ◌++◌, ◌∷◌, [], ℕ, zero, suc, Bool, true, false, List, Some, None, refl, sym, ap, subst, arith, add-one, get_or, length, take, slice_get}
use Rattle.std.specs.Prelude.{All}
use Rattle.std.proofs.lemmas.List.Elements.{All-append, All-cons, All-nil}
use borrow.Author.Tests.{both_ways}
use Rattle.svc_base.specs.declared.ids.UnitId.{UnitId}
use Rattle.svc_history.specs.Recorded.{Recorded}
use Rattle.svc_script.specs.declared.script.Step.{Step}
use Rattle.svc_script.specs.declared.script.StepKind.{StepKind}
use Rattle.svc_script.specs.declared.script.StepKind.TheVariants as step
use Rattle.svc_script.specs.declared.playing.Answer.{Answer}
use Rattle.svc_script.specs.Events.{HasLedOn, IsEvent, is_event}
use Rattle.svc_script.specs.Playing.{DoesKind, Kept, Play, PlaysTo, answer_row}

-- no step yet
pub none_led : (steps : List Step) (r : Recorded) → HasLedOn steps 0 r r
none_led steps r = record { text = []; steps_done = λ kept. refl; image = refl; config_is = refl }

-- an event does the same whichever bursts are kept
with_any_kept : (k : StepKind) (unit : UnitId) (r : Recorded) (a : Answer) (next : Recorded) (kept after held : Kept) → is_event k ≡ true → DoesKind k unit r kept a next after → DoesKind k unit r held a next held
with_any_kept (step.Assign guess) unit r a next kept after held is does = (does.0, refl)
with_any_kept (step.Submit turns) unit r a next kept after held is does = (does.0, refl)
with_any_kept (step.Replace addr) unit r a next kept after held is does = (does.0, refl)
with_any_kept step.Cancel unit r a next kept after held is does = (does.0, refl)
with_any_kept step.Commit unit r a next kept after held is does = (does.0, refl)
with_any_kept (step.Take turns) unit r a next kept after held is does = absurd (both_ways false refl is)
with_any_kept step.Give unit r a next kept after held is does = absurd (both_ways false refl is)

-- one step more
pub one_more_led : (steps : List Step) (n : ℕ) (r between next : Recorded) (kept after : Kept) (s : Step) (a : Answer)
    → HasLedOn steps n r between → slice_get steps n ≡ Some s → IsEvent s → DoesKind s.kind s.unit between kept a next after
    → next.machine.image ≡ between.machine.image → next.machine.config ≡ between.machine.config → HasLedOn steps (n + 1) r next
one_more_led steps n r between next kept after s a before is_step is does image config =
    let text : List ℕ = before.text ++ answer_row a in
    record {
      text = text;
      steps_done = λ held.
          subst (λ (k : ℕ). PlaysTo steps k (record { run = r; kept = held; text = [] }) (record { run = next; kept = held; text = text })) (sym (add-one n))
          (record { run = between; kept = held; text = before.text }, before.steps_done held, s, is_step, (a, with_any_kept s.kind s.unit between a next kept after held is does, refl));
      image = image ∙ before.image;
      config_is = config ∙ before.config_is;
    }

take_next : (steps : List Step) (n : ℕ) (d : Step) → n < length steps → take (suc n) steps ≡ take n steps ++ get_or steps n d ∷ []
take_next [] n d h = absurd (omega (arith, h))
take_next (x ∷ xs) zero d h = refl
take_next (x ∷ xs) (suc n) d h = ap (λ l. x ∷ l) (take_next xs n d (omega (arith, h)))

-- one event more
pub one_more_event : (steps : List Step) (n : ℕ) (d : Step) → n < length steps → All IsEvent (take n steps) → is_event (get_or steps n d).kind ≡ true → All IsEvent (take (n + 1) steps)
one_more_event steps n d h all is =
    subst (λ (k : ℕ). All IsEvent (take k steps)) (sym (add-one n))
    (subst (All IsEvent) (sym (take_next steps n d h)) (All-append IsEvent (take n steps) (get_or steps n d ∷ []) all (All-cons IsEvent (get_or steps n d) [] is (All-nil IsEvent))))

-- an event leaves the bursts that are kept
pub keeps_none : (k : StepKind) (unit : UnitId) (r : Recorded) (a : Answer) (next : Recorded) (kept after : Kept) → is_event k ≡ true → DoesKind k unit r kept a next after → after ≡ kept
keeps_none (step.Assign guess) unit r a next kept after is does = does.1
keeps_none (step.Submit turns) unit r a next kept after is does = does.1
keeps_none (step.Replace addr) unit r a next kept after is does = does.1
keeps_none step.Cancel unit r a next kept after is does = does.1
keeps_none step.Commit unit r a next kept after is does = does.1
keeps_none (step.Take turns) unit r a next kept after is does = absurd (both_ways false refl is)
keeps_none step.Give unit r a next kept after is does = absurd (both_ways false refl is)
