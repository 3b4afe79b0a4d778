use Rattle.std.proofs.Common.{◌∙◌, [], ◌∷◌, refl, sym, inl, inr}
use Rattle.std.proofs.lemmas.Result.{err_from_is_err_and}
use Rattle.svc_draft.specs.Drafts.{layout_of}
use Rattle.svc_asm.proofs.Program.{advance, refuted, empty_is, some_left}
use Rattle.svc_asm.proofs.rounds.take_lines.Goals as goal

pub loop-rest-preserved : goal.loop-rest-preserved
loop-rest-preserved c =
    let takes = c.in_ok-_said.ensures.ok in
    record {
      whole = λ todo made h. c.loop-rest.invariant.whole (c.in_ok-_said._said ∷ todo) made (c.in_ok-_said.behind.now, layout_of c.take_line.new.draft, takes, h);
      left = λ ss made h. let t = c.loop-rest.invariant.left ss made h in advance t.0 c.loop-rest.rest.now c.in_ok-_said.behind.now (layout_of c.loop-rest.draft) (layout_of c.take_line.new.draft) made c.in_ok-_said._said takes t.1;
    }

pub returns-in-Ok-clause-ok : goal.returns-in-Ok-clause-ok
returns-in-Ok-clause-ok c =
    let made = c.loop-rest.invariant.whole [] (layout_of c.loop-rest.draft) (empty_is c.loop-rest.rest.now (sym c.is_empty.ensures ∙ c.loop-rest-test.false), refl) in
    (made.0, layout_of c.loop-rest.draft, made.1, c.in-Ok.ensures)

pub returns-in_err-_said-clause-err : goal.returns-in_err-_said-clause-err
returns-in_err-_said-clause-err c =
    let p = err_from_is_err_and c.from_residual.result c.from_residual.ensures.1 in
    let some = some_left c.loop-rest.rest.now (sym c.is_empty.ensures ∙ c.loop-rest-test.true) in
    rw (p.1, p.2) (elim c.in_err-_said.ensures.err [
      | inl memory ↦ inl memory
      | inr none ↦ inr (λ made h. let t = c.loop-rest.invariant.left h.0 h.1 h.2 in refuted t.0 c.loop-rest.rest.now (layout_of c.loop-rest.draft) h.1 some none t.1)
    ])
