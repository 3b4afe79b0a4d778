use Rattle.std.proofs.Common.{◌≡◌, ◌∙◌, true, false, inl, inr, sym, subst, ℕ, ◌-◌}
use Rattle.std.proofs.lemmas.Result.{err_from_is_err_and}
use Rattle.svc_draft.specs.Drafts.{layout_of}
use Rattle.svc_layout.specs.Layouts.{Layout}
use Rattle.svc_layout.specs.Passes.{once_more}
use Rattle.svc_asm.specs.Programs.{Finds}
use Rattle.svc_asm.proofs.Program.{first_finds, next_finds, no_pass, none_finds}
use Rattle.svc_asm.proofs.rounds.+find.Goals as goal

pub returns-in_err-take_lines-clause-err : goal.returns-in_err-take_lines-clause-err
returns-in_err-take_lines-clause-err t c =
    let p = err_from_is_err_and c.from_residual.result c.from_residual.ensures.1 in
    rw (p.1, p.2) (elim c.in_err-take_lines.ensures.err [
      | inl memory ↦ inl memory
      | inr none ↦ inr (λ made. no_pass c.args.passes c.args.text.now (layout_of c.args.begun) made none)
    ])

pub returns-then-not-lacks-clause-ok : goal.returns-then-not-lacks-clause-ok
returns-then-not-lacks-clause-ok t c =
    first_finds c.args.passes c.args.text.now (layout_of c.args.begun) (layout_of c.take_lines.new.draft) c.in_ok-take_lines.ensures.ok
    c.if-passes-eq0.false (sym c.lacks.ensures ∙ c.if-not-lacks.true)

pub returns-in_err-first-clause-err : goal.returns-in_err-first-clause-err
returns-in_err-first-clause-err t c =
    let p = err_from_is_err_and c.from_residual-in_err-first.result c.from_residual-in_err-first.ensures.1 in
    rw (p.1, p.2) (elim c.in_err-first.ensures.err [
      | inl memory ↦ inl memory
      | inr none ↦ inr (λ made.
          none_finds c.args.passes c.args.text.now (layout_of c.args.begun) (layout_of c.take_lines.new.draft) made
          c.if-passes-eq0.false c.in_ok-take_lines.ensures.ok (sym c.lacks.ensures ∙ c.if-not-lacks.false)
          (subst (λ (b : Layout). (d : Layout) → Finds (c.args.passes - 1) c.args.text.now b d → ⊥) c.once_more-more.ensures none))
    ])

pub returns-clause-ok : goal.returns-clause-ok
returns-clause-ok t c =
    next_finds c.args.passes c.args.text.now (layout_of c.args.begun) (layout_of c.take_lines.new.draft) (layout_of c.in_ok-first.first)
    c.if-passes-eq0.false c.in_ok-take_lines.ensures.ok (sym c.lacks.ensures ∙ c.if-not-lacks.false)
    (subst (λ (d : Layout). Finds (c.args.passes - 1) c.args.text.now d (layout_of c.in_ok-first.first)) c.once_more-more.ensures c.in_ok-first.ensures.ok)
