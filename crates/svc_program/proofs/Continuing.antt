-- A run that goes on by an order, after a script if one is named.
use Rattle.std.proofs.Common.{◌≡◌, ◌∙◌, ℕ, List, [], length, Option, Some, None, ap, subst}
use denote.Ref.{Bor}
use Rattle.svc_base.specs.declared.config.Config.{Config}
use Rattle.svc_image.specs.Image.{Image}
use Rattle.svc_history.specs.Recorded.{IsLegal, Recorded}
use Rattle.svc_schedule.specs.declared.policies.First.TheVariants.{Older, Younger}
use Rattle.svc_schedule.specs.Orders.{Draws, GoesByAge, Rotates}
use Rattle.svc_schedule.proofs.Opening.{scheduled}
use Rattle.svc_request.specs.declared.request.Order.{Order}
use Rattle.svc_request.specs.declared.request.Order.TheVariants as order
use Rattle.svc_request.specs.Held.{Held}
use Rattle.svc_script.specs.declared.script.Step.{Step}
use Rattle.svc_script.specs.Events.{HasLedOn}
use Rattle.svc_script.specs.Leading.{IsOpened}
use Rattle.svc_script.specs.Playing.{Play}
use Rattle.svc_answer.specs.Requests.{AreEventsIn, GoesAfter}
use Rattle.svc_answer.specs.Runs.{GoesOnBy, IsRunOf, IsScheduledBy}

-- the same machine goes on, and its history stays legal
pub record Went (start r : Recorded) : Type 0 where
  pub image : r.machine.image ≡ start.machine.image
  pub config_is : r.machine.config ≡ start.machine.config
  pub legal : IsLegal r

went : (by : Order) (burst : ℕ) (start r : Recorded) → GoesOnBy by burst start r → Went start r
went order.Rotate burst start r (old, new, goes) = record { image = goes.image; config_is = goes.config_is; legal = goes.legal }
went order.Oldest burst start r (old, new, goes) = record { image = goes.image; config_is = goes.config_is; legal = goes.legal }
went order.Youngest burst start r (old, new, goes) = record { image = goes.image; config_is = goes.config_is; legal = goes.legal }
went (order.Random seed) burst start r (old, seeded, new, goes) = record { image = goes.image; config_is = goes.config_is; legal = goes.legal }

-- from before any event it is a scheduled run
scheduled_by : (by : Order) (burst : ℕ) (img : Image) (config : Config) (opened r : Recorded) → IsOpened img config opened → GoesOnBy by burst opened r → IsScheduledBy by burst img config r
scheduled_by order.Rotate burst img config opened r is (old, new, goes) = (old, new, scheduled Rotates burst old new opened r goes is.none_yet img config is.image is.config_is)
scheduled_by order.Oldest burst img config opened r is (old, new, goes) = (old, new, scheduled (GoesByAge Older) burst old new opened r goes is.none_yet img config is.image is.config_is)
scheduled_by order.Youngest burst img config opened r is (old, new, goes) = (old, new, scheduled (GoesByAge Younger) burst old new opened r goes is.none_yet img config is.image is.config_is)
scheduled_by (order.Random seed) burst img config opened r is (old, seeded, new, goes) = (old, seeded, new, scheduled Draws burst old new opened r goes is.none_yet img config is.image is.config_is)

-- no step leads on to where it was
not_led : (opened start : Recorded) → HasLedOn [] 0 opened start → start ≡ opened
not_led opened start led = ap (λ (p : Play). p.run) (led.steps_done [])

pub goes_after : (held : Held) (after : Option (Bor (List ℕ))) (steps : List Step) (by : Order) (burst : ℕ) (img : Image) (config : Config) (opened start r : Recorded)
    → AreEventsIn held after steps → IsOpened img config opened → HasLedOn steps (length steps) opened start → GoesOnBy by burst start r → GoesAfter held after by burst img config r
goes_after held None steps by burst img config opened start r none is led goes =
    let same : start ≡ opened = not_led opened start (subst (λ (xs : List Step). HasLedOn xs (length xs) opened start) none led) in
    scheduled_by by burst img config opened r is (subst (λ (s : Recorded). GoesOnBy by burst s r) same goes)
goes_after held (Some name) steps by burst img config opened start r events is led goes =
    (steps, events.0, events.1, record { opened = opened; before = is; start = start; led = led; goes = goes })

pub run_of : (by : Order) (burst : ℕ) (img : Image) (config : Config) (steps : List Step) (opened start r : Recorded)
    → IsOpened img config opened → HasLedOn steps (length steps) opened start → GoesOnBy by burst start r → IsRunOf img config r
run_of by burst img config steps opened start r is led goes =
    let on = went by burst start r goes in
    record { image = on.image ∙ (led.image ∙ is.image); config_is = on.config_is ∙ (led.config_is ∙ is.config_is); legal = on.legal }
