use Rattle.std.proofs.Common.{◌≡◌, ◌∙◌, rules}
use Rattle.svc_page.proofs.page.svc_page_answer.Goals as goal

pub returns-clause-done : goal.returns-clause-done
returns-clause-done c = λ done within.
    let status = c.hand_over.ensures.status within in
    let words : c.in-Ok.line.now ≡ c.args.words.now = search rules in
    let told = c.in-Some.ensures.done (λ one. done (status ∙ one)) in
    rw (c.hand_over.ensures.out within, c.hand_over.ensures.files within, c.hand_over.ensures.saved within, status) (rw words at told)
