-- Every accepted event of the whole machine is the plain machine's.
use Rattle.std.proofs.Common.{◌≡◌, true, None, is_some, refl, sym, ap, ◌∙◌, subst}
use Rattle.std.proofs.lemmas.Option.{same_Some}
use Rattle.svc_base.specs.declared.config.Config.{Config}
use Rattle.svc_image.specs.Image.{Image}
use Rattle.svc_core_laws.specs.State.{State}
use Rattle.svc_core_laws.specs.Program.{locals, are_local}
use Rattle.svc_core_laws.specs.Words.{program}
use Rattle.svc_core_laws.specs.Bursts.{Advance, Follows, Means}
use Rattle.svc_machine_laws.specs.PlainMachine.{Running}
use Rattle.svc_machine_laws.specs.WholeMachine.{machine_of}
use Rattle.svc_machine_laws.specs.Events.{Event, Assign, Submit, Replace, Cancel, Commit, IsEvent, asked_want, plain_submit, plain_cancel, whole_submit, whole_cancel, plain_event, whole_event}
use Rattle.svc_machine_laws.specs.MachineLaws.{Taken, HasEnded}
use Rattle.svc_machine_laws.specs.Standing.{Standing, refusal_of}
use Rattle.svc_machine_laws.specs.Reached.{IsReached}
use Rattle.svc_machine_laws.proofs.Given.{Given}
use Rattle.svc_machine_laws.proofs.Wants.{asked_next}
use Rattle.svc_machine_laws.proofs.Accepted.{CanSubmit, can_submit, can_cancel, CanCommit, can_commit, seat_places}
use Rattle.svc_machine_laws.proofs.Steps.{assign_step, cancel_step, commit_step}
use Rattle.svc_machine_laws.specs.PlainMachine as plain
use Rattle.svc_machine_laws.specs.WholeMachine as whole
use Rattle.svc_machine_laws.proofs.Checks.{check_step}
use Rattle.svc_machine_laws.proofs.Submits.{submit_step}

module _ (img : Image) (given : Given img) (config : Config) (s : Standing) where
  -- an accepted burst's turns are the task's next turns
  pub taken : (b : Advance) → Follows b → (can : CanSubmit img config s b) → Taken (program img) s.plain can.place b.local b.end (asked_want img b)
  taken b follows can =
      let means : Means img b = given.means b follows can.ours in
      record {
        run = can.run;
        at = can.here;
        own = subst (λ c. are_local (program img) b.local c ≡ true) (sym can.start) means.local;
        end_is = ap (locals (program img) b.local) can.start ∙ means.end;
        ask_is = asked_next img b means;
      }

  pub head_ended : CanCommit img config s → HasEnded (program img) s.plain
  head_ended can = record { end = can.end; is = λ x h. ap (λ (r : Running State). r.run.core.done) (same_Some x can.run (sym h ∙ can.here)) ∙ can.ended }

  pub machine_event : IsReached img config s → (x : Event) → IsEvent x → refusal_of img config s x ≡ None
      → machine_of (program img) (plain_event img s.plain x) ≡ whole_event img (machine_of (program img) s.plain) x
  unfolding plain_event whole_event
  machine_event reached (Assign unit guess) is h = assign_step (program img) s.plain unit guess
  machine_event reached (Submit b) is h =
      let can = can_submit img config s b h in
      ap (λ o. machine_of (program img) (plain_submit img s.plain o b)) can.at
      ∙ check_step (program img) (plain.submit (program img) s.plain can.place b.local (is_some (asked_want img b))) can.place
      ∙ ap (λ m. whole.check (program img) m can.place) (submit_step (program img) s.plain can.place b.local b.end (asked_want img b) (taken b is can))
      ∙ sym (ap (λ o. whole_submit img (machine_of (program img) s.plain) o b) (seat_places img config s b.unit.0 ∙ can.at))
  machine_event reached (Replace unit address) is h = refl
  machine_event reached (Cancel unit) is h =
      let can = can_cancel img config s unit h in
      ap (λ o. machine_of (program img) (plain_cancel s.plain o)) can.at
      ∙ cancel_step (program img) s.plain can.place
      ∙ sym (ap (λ o. whole_cancel (machine_of (program img) s.plain) o) (seat_places img config s unit ∙ can.at))
  machine_event reached (Commit by) is h = commit_step (program img) given.is_program s.plain reached.due (head_ended (can_commit img config s by h))
