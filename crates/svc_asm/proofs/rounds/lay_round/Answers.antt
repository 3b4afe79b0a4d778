use Rattle.std.proofs.Common.{inl, inr, map}
use Rattle.std.proofs.lemmas.Result.{err_from_is_err_and}
use Rattle.svc_draft.specs.Drafts.{layout_of}
use Rattle.svc_asm.specs.Labels.{parts_of}
use Rattle.svc_asm.proofs.Program.{round_by, not_found, not_begun, not_laid}
use Rattle.svc_asm.proofs.rounds.lay_round.Goals as goal

pub returns-in_err-first-clause-err : goal.returns-in_err-first-clause-err
returns-in_err-first-clause-err c =
    let p = err_from_is_err_and c.from_residual.result c.from_residual.ensures.1 in
    rw (p.1, p.2) (elim c.in_err-first.ensures.err [
      | inl memory ↦ inl memory
      | inr none ↦ inr (λ made given. not_found c.args.text.now (layout_of c.args.begun) made given none)
    ])

pub returns-in_err-draft-clause-err : goal.returns-in_err-draft-clause-err
returns-in_err-draft-clause-err c =
    let p = err_from_is_err_and c.from_residual-in_err-draft.result c.from_residual-in_err-draft.ensures.1 in
    rw (p.1, p.2) (elim c.in_err-draft.ensures.err [
      | inl memory ↦ inl memory
      | inr none ↦ inr (λ made given. not_begun c.args.text.now (layout_of c.args.begun) (layout_of c.in_ok-first.first) made given c.in_ok-first.ensures.ok none)
    ])

pub returns-in_err-start-clause-err : goal.returns-in_err-start-clause-err
returns-in_err-start-clause-err c =
    let p = err_from_is_err_and c.from_residual-in_err-start.result c.from_residual-in_err-start.ensures.1 in
    rw (p.1, p.2) (elim c.in_err-start.ensures.err [
      | inl memory ↦ inl memory
      | inr none ↦ inr (λ made given. not_laid c.args.text.now (layout_of c.args.begun) (layout_of c.in_ok-first.first) (layout_of c.in_ok-draft.draft) made given c.in_ok-first.ensures.ok c.in_ok-draft.ensures.ok none)
    ])

pub returns-clause-ok : goal.returns-clause-ok
returns-clause-ok c =
    let said = c.in_ok-start.ensures.ok in
    round_by c.args.text.now said.0 (layout_of c.args.begun) (layout_of c.in_ok-first.first) (layout_of c.in_ok-draft.draft) (layout_of c.take_labelled_lines.new.draft)
    (map parts_of c.take_labelled_lines.new.labels.items) c.in_ok-first.ensures.ok c.in_ok-draft.ensures.ok said.1
