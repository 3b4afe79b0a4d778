use Rattle.std.proofs.Common.{◌∙◌, ◌++◌, ◌∷◌, [], ◌*◌, ◌+◌, List, ℕ, ap, cond, ne_eqb, sym}
use Rattle.std.proofs.lemmas.List.{append-nil}
use Rattle.svc_explore.specs.KeyWords.{code_words}
use Rattle.svc_explore.proofs.key.push_code.Goals as goal

pub returns-in_ok-push : goal.returns-in_ok-push
returns-in_ok-push c =
    let old : List ℕ = c.args.key.now.items in
    record {
      ok = c.in_ok-push.ensures.items
          ∙ ap (λ (w : ℕ). old ++ ((w * 32 + c.args.slot) * 32 + c.args.code) ∷ []) c.from.ensures
          ∙ ap (λ b. old ++ cond b [] (((c.args.word * 32 + c.args.slot) * 32 + c.args.code) ∷ [])) (sym (ne_eqb c.args.code 0 c.if-code-ne0.true));
    }

pub returns-else-code-ne0 : goal.returns-else-code-ne0
returns-else-code-ne0 c =
    let old : List ℕ = c.args.key.now.items in
    record { ok = sym (append-nil old) ∙ ap (λ (code : ℕ). old ++ code_words c.args.slot c.args.word code) (sym c.if-code-ne0.false) }
