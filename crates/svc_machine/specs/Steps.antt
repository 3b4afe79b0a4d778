-- What one event of a machine does, at each standing that the machine is at. All calls that pass the event on cite it.
use Rattle.std.specs.Prelude.{◌≡◌, None, Some, Result, IfOk, OnErr, MatchResult}
use Rattle.svc_base.specs.declared.refusal.Refusal.{Refusal}
use Rattle.svc_machine_laws.specs.declared.reply.Reply.{Reply}
use Rattle.svc_machine_laws.specs.Events.{Event}
use Rattle.svc_machine_laws.specs.Standing as laws
use Rattle.svc_machine_laws.specs.Standing.{Standing}
use Rattle.svc_machine.specs.Value.{MachineValue, StandsAt}

-- an event, refused or not
pub record IsStep (old new : MachineValue) (x : Event) (result : Result Reply Refusal) : Type 0 where
  -- it is refused exactly when the table of refusals says so, with the first refusal that applies
  pub refused : (s : Standing) → StandsAt old s → MatchResult result
      (λ _. laws.refusal_of old.image old.config s x ≡ None)
      (λ e. laws.refusal_of old.image old.config s x ≡ Some e)
  -- otherwise the reply is the plain machine's
  pub reply : (s : Standing) → StandsAt old s → IfOk result (λ r. r ≡ laws.reply_to old.image s x)
  -- and the machine stands where the event leads
  pub standing : (s : Standing) → StandsAt old s → StandsAt new (laws.after_event old.image old.config s x)
  pub image : new.image ≡ old.image
  pub config : new.config ≡ old.config
  pub unchanged : OnErr result (new ≡ old)

-- no case of the table of refusals holds
abbrev pub Accepts : MachineValue → Event → Type 0
Accepts m x = (s : Standing) → StandsAt m s → laws.refusal_of m.image m.config s x ≡ None

-- an accepted event
pub record IsTaken (old new : MachineValue) (x : Event) (reply : Reply) : Type 0 where
  pub reply_is : (s : Standing) → StandsAt old s → reply ≡ laws.reply_to old.image s x
  pub standing : (s : Standing) → StandsAt old s → StandsAt new (laws.standing_after old.image s x)
  pub image : new.image ≡ old.image
  pub config : new.config ≡ old.config
