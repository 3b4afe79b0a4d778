use Rattle.std.proofs.Common.{◌≡◌, ◌∙◌, subst, sym, true}
use Rattle.svc_history_laws.specs.declared.entry.Entry.{Entry}
use Rattle.svc_script.specs.declared.playing.Answer.{Answer}
use Rattle.svc_script.specs.declared.playing.Answer.TheVariants as answer
use Rattle.svc_script.specs.declared.script.Step.{Step}
use Rattle.svc_script.specs.Leading.{kind_to}
use Rattle.svc_script.specs.Playing.{DoesKind}
use Rattle.svc_script.specs.Suppliers.{has_numbers}
use Rattle.svc_script.proofs.Following.{found_by, wrong_answer, wrong_elsewhere}
use Rattle.svc_script.proofs.suppliers.follow.Goals as goal

pub returns-in-Accepted-2-clause-wrong : goal.returns-in-Accepted-2-clause-wrong
returns-in-Accepted-2-clause-wrong c =
    let r = c.args.recorder.now in
    let e : Entry = c.args.entry.now in
    let next = c.do_step.new.recorder in
    let kept = c.args.kept.now.items in
    let after = c.do_step.new.kept.items in
    let found : Entry = c.in-Accepted.found in
    let numbers : has_numbers e.kind e ≡ true = sym c.has_numbers.ensures ∙ c.if-not-has_numbers.false in
    let does = subst (λ (s : Step). DoesKind s.kind s.unit r kept c.do_step.result next after) c.step_to.ensures c.do_step.ensures.step in
    let accepted = subst (λ (a : Answer). DoesKind (kind_to e.kind e) e.unit r kept a next after) c.in-Accepted.is does in
    wrong_elsewhere r e found next (found_by r e found next kept after c.entries-legal.ensures.legal numbers accepted) (λ alike. let other = (c.if-are_alike.ensures {u = tt}).1 alike in cc)

pub returns-in_default : goal.returns-in_default
returns-in_default c =
    let r = c.args.recorder.now in
    let e : Entry = c.args.entry.now in
    let next = c.do_step.new.recorder in
    let kept = c.args.kept.now.items in
    let after = c.do_step.new.kept.items in
    let numbers : has_numbers e.kind e ≡ true = sym c.has_numbers.ensures ∙ c.if-not-has_numbers.false in
    let does = subst (λ (s : Step). DoesKind s.kind s.unit r kept c.do_step.result next after) c.step_to.ensures c.do_step.ensures.step in
    record {
      follows = tt;
      wrong = wrong_answer r e c.do_step.result next kept after c.entries-legal.ensures.legal numbers does (λ f same. c.in_default.not-Accepted f same);
      image = c.do_step.ensures.image;
      config = c.do_step.ensures.config;
      legal = c.entries-legal.ensures.legal;
    }
