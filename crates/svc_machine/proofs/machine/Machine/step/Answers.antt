use Rattle.std.proofs.Common.{Result, Err, ◌∙◌, ap, sym, subst}
use Rattle.std.proofs.lemmas.Result.{err_from_is_err_and}
use Rattle.svc_base.specs.declared.refusal.Refusal.{Refusal}
use Rattle.svc_machine_laws.specs.declared.reply.Reply.{Reply}
use Rattle.svc_machine_laws.specs.Events.{Event}
use Rattle.svc_machine_laws.specs.Standing.{refusal_of}
use Rattle.svc_machine.specs.Admitted.{IsFound, event_in, refusal_by, refused_yet}
use Rattle.svc_machine.specs.Events.{event_of}
use Rattle.svc_machine.specs.Steps.{Accepts, IsStep, IsTaken}
use Rattle.svc_machine.proofs.Keeping.{accepted_step, refused_step}
use Rattle.svc_machine.proofs.machine.Machine.step.Goals as goal

pub returns-in_err-admitted : goal.returns-in_err-admitted
returns-in_err-admitted c =
    let v = c.args.self.now in
    let x : Event = event_of c.args.event in
    let why = c.in_err-admitted.field-0.0 in
    let p = err_from_is_err_and c.from_residual.result c.from_residual.ensures.1 in
    subst (λ (r : Result Reply Refusal). IsStep v v x r) (sym (p.1 ∙ ap (λ (e : Refusal). Err e) p.2))
    (refused_step v x why (λ s at. sym (ap (refusal_by v.image s.lines) c.in_err-admitted.was) ∙ c.admit.ensures.refused s at))

pub assign-requires : goal.assign-requires
assign-requires c =
    let same = sym (c.in_ok-admitted.ensures {u = tt}).event ∙ ap event_in c.in-Assign.is in
    subst (Accepts c.args.self.now) same (λ s at. sym (c.admit.ensures.refused s at) ∙ ap (refusal_by c.args.self.now.image s.lines) c.in_ok-admitted.was ∙ ap (refused_yet c.args.self.now.image s.lines) c.in-Assign.is)

pub returns-in-Assign : goal.returns-in-Assign
returns-in-Assign c =
    let v = c.args.self.now in
    let same = sym (ap event_in c.in-Assign.is) ∙ (c.in_ok-admitted.ensures {u = tt}).event in
    accepted_step v c.assign.new.self (event_of c.args.event) c.assign.result (λ s at. sym (c.admit.ensures.refused s at) ∙ ap (refusal_by c.args.self.now.image s.lines) c.in_ok-admitted.was ∙ ap (refused_yet c.args.self.now.image s.lines) c.in-Assign.is)
    (subst (λ (x : Event). IsTaken v c.assign.new.self x c.assign.result) same c.assign.ensures)

pub submit-requires-clause-admitted : goal.submit-requires-clause-admitted
submit-requires-clause-admitted c =
    let v = c.args.self.now in
    let same = sym (c.in_ok-admitted.ensures {u = tt}).event ∙ ap event_in c.in-Submit.is in
    λ s at. ap (refusal_of v.image v.config s) (sym same) ∙ sym (c.admit.ensures.refused s at) ∙ ap (refusal_by v.image s.lines) c.in_ok-admitted.was ∙ ap (refused_yet v.image s.lines) c.in-Submit.is

pub submit-requires-clause-found : goal.submit-requires-clause-found
submit-requires-clause-found c = subst (IsFound c.args.self.now) c.in-Submit.is (c.in_ok-admitted.ensures {u = tt}).found

pub returns-in-Submit : goal.returns-in-Submit
returns-in-Submit c =
    let same = sym (ap event_in c.in-Submit.is) ∙ (c.in_ok-admitted.ensures {u = tt}).event in
    subst (λ (x : Event). IsStep c.args.self.now c.submit.new.self x c.submit.result) same c.submit.ensures

pub replace-requires : goal.replace-requires
replace-requires c =
    let same = sym (c.in_ok-admitted.ensures {u = tt}).event ∙ ap event_in c.in-Replace.is in
    subst (Accepts c.args.self.now) same (λ s at. sym (c.admit.ensures.refused s at) ∙ ap (refusal_by c.args.self.now.image s.lines) c.in_ok-admitted.was ∙ ap (refused_yet c.args.self.now.image s.lines) c.in-Replace.is)

pub returns-in-Replace : goal.returns-in-Replace
returns-in-Replace c =
    let v = c.args.self.now in
    let same = sym (ap event_in c.in-Replace.is) ∙ (c.in_ok-admitted.ensures {u = tt}).event in
    accepted_step v c.replace.new.self (event_of c.args.event) c.replace.result (λ s at. sym (c.admit.ensures.refused s at) ∙ ap (refusal_by c.args.self.now.image s.lines) c.in_ok-admitted.was ∙ ap (refused_yet c.args.self.now.image s.lines) c.in-Replace.is)
    (subst (λ (x : Event). IsTaken v c.replace.new.self x c.replace.result) same c.replace.ensures)

pub cancel-requires-clause-accepted : goal.cancel-requires-clause-accepted
cancel-requires-clause-accepted c =
    let same = sym (c.in_ok-admitted.ensures {u = tt}).event ∙ ap event_in c.in-Cancel.is in
    subst (Accepts c.args.self.now) same (λ s at. sym (c.admit.ensures.refused s at) ∙ ap (refusal_by c.args.self.now.image s.lines) c.in_ok-admitted.was ∙ ap (refused_yet c.args.self.now.image s.lines) c.in-Cancel.is)

pub cancel-requires-clause-found : goal.cancel-requires-clause-found
cancel-requires-clause-found c = subst (IsFound c.args.self.now) c.in-Cancel.is (c.in_ok-admitted.ensures {u = tt}).found

pub returns-in-Cancel : goal.returns-in-Cancel
returns-in-Cancel c =
    let v = c.args.self.now in
    let same = sym (ap event_in c.in-Cancel.is) ∙ (c.in_ok-admitted.ensures {u = tt}).event in
    accepted_step v c.cancel.new.self (event_of c.args.event) c.cancel.result (λ s at. sym (c.admit.ensures.refused s at) ∙ ap (refusal_by c.args.self.now.image s.lines) c.in_ok-admitted.was ∙ ap (refused_yet c.args.self.now.image s.lines) c.in-Cancel.is)
    (subst (λ (x : Event). IsTaken v c.cancel.new.self x c.cancel.result) same c.cancel.ensures)

pub commit-requires-clause-accepted : goal.commit-requires-clause-accepted
commit-requires-clause-accepted c =
    let same = sym (c.in_ok-admitted.ensures {u = tt}).event ∙ ap event_in c.in-Commit.is in
    subst (Accepts c.args.self.now) same (λ s at. sym (c.admit.ensures.refused s at) ∙ ap (refusal_by c.args.self.now.image s.lines) c.in_ok-admitted.was ∙ ap (refused_yet c.args.self.now.image s.lines) c.in-Commit.is)

pub commit-requires-clause-found : goal.commit-requires-clause-found
commit-requires-clause-found c = subst (IsFound c.args.self.now) c.in-Commit.is (c.in_ok-admitted.ensures {u = tt}).found

pub returns-in-Commit : goal.returns-in-Commit
returns-in-Commit c =
    let v = c.args.self.now in
    let same = sym (ap event_in c.in-Commit.is) ∙ (c.in_ok-admitted.ensures {u = tt}).event in
    accepted_step v c.commit.new.self (event_of c.args.event) c.commit.result (λ s at. sym (c.admit.ensures.refused s at) ∙ ap (refusal_by c.args.self.now.image s.lines) c.in_ok-admitted.was ∙ ap (refused_yet c.args.self.now.image s.lines) c.in-Commit.is)
    (subst (λ (x : Event). IsTaken v c.commit.new.self x c.commit.result) same c.commit.ensures)
