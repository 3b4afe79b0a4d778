use Rattle.std.proofs.Common.{◌≡◌, ◌∙◌, inl, inr, sym, subst}
use Rattle.std.proofs.lemmas.Result.{err_from_is_err_and}
use Rattle.svc_draft.specs.Drafts.{layout_of}
use Rattle.svc_layout.specs.Layouts.{Layout}
use Rattle.svc_asm.specs.Programs.{IsPass}
use Rattle.svc_asm.proofs.Program.{measured_first, not_measured}
use Rattle.svc_asm.proofs.rounds.begin.Goals as goal

pub returns-in_err-take_lines-clause-err : goal.returns-in_err-take_lines-clause-err
returns-in_err-take_lines-clause-err c =
    let p = err_from_is_err_and c.from_residual.result c.from_residual.ensures.1 in
    let first = layout_of c.args.first in
    rw (p.1, p.2) (elim c.in_err-take_lines.ensures.err [
      | inl memory ↦ inl memory
      | inr none ↦ inr (λ made. not_measured first.has_distances c.args.text.now first made (sym c.has_distances.ensures ∙ c.if-not-has_distances.false)
          (subst (λ (b : Layout). (d : Layout) → IsPass c.args.text.now b d → ⊥) c.to_measure-measuring.ensures none))
    ])

pub returns-clause-ok : goal.returns-clause-ok
returns-clause-ok c =
    let first = layout_of c.args.first in
    let measured = layout_of c.take_lines.new.draft in
    measured_first first.has_distances c.args.text.now first measured (layout_of c.to_lay.result) (sym c.has_distances.ensures ∙ c.if-not-has_distances.false)
    (subst (λ (b : Layout). IsPass c.args.text.now b measured) c.to_measure-measuring.ensures c.in_ok-take_lines.ensures.ok) c.to_lay.ensures
