use Rattle.std.proofs.Common.{◌≡◌, ◌∙◌, true, false, inl, inr, map, sym, subst, List, ℕ, ◌-◌}
use Rattle.std.proofs.lemmas.Result.{err_from_is_err_and}
use Rattle.svc_draft.specs.Drafts.{layout_of}
use Rattle.svc_layout.specs.Layouts.{Layout}
use Rattle.svc_layout.specs.Passes.{next_round}
use Rattle.svc_asm.specs.Labels.{parts_of}
use Rattle.svc_asm.specs.Programs.{Settles}
use Rattle.svc_asm.proofs.Program.{first_settles, next_settle, no_round, none_settles}
use Rattle.svc_asm.proofs.rounds.+settle.Goals as goal

pub returns-in_err-draft-clause-err : goal.returns-in_err-draft-clause-err
returns-in_err-draft-clause-err t c =
    let p = err_from_is_err_and c.from_residual.result c.from_residual.ensures.1 in
    rw (p.1, p.2) (elim c.in_err-draft.ensures.err [
      | inl memory ↦ inl memory
      | inr none ↦ inr (λ made given. no_round c.args.rounds c.args.text.now (layout_of c.args.begun) made given c.if-rounds-eq0.false none)
    ])

pub returns-then-not-grew-clause-ok : goal.returns-then-not-grew-clause-ok
returns-then-not-grew-clause-ok t c =
    first_settles c.args.rounds c.args.text.now (layout_of c.args.begun) (layout_of c.in_ok-draft.draft) (map parts_of c.lay_round-2.new.labels.items)
    c.if-rounds-eq0.false c.in_ok-draft.ensures.ok (sym c.grew.ensures ∙ c.if-not-grew.true)

pub returns-clause-ok : goal.returns-clause-ok
returns-clause-ok t c =
    let labels = map parts_of c.settle.new.labels.items in
    next_settle c.args.rounds c.args.text.now (layout_of c.args.begun) (layout_of c.in_ok-draft.draft) (layout_of c.in_ok-settled.settled) (map parts_of c.lay_round-2.new.labels.items) labels
    c.if-rounds-eq0.false c.in_ok-draft.ensures.ok (sym c.grew.ensures ∙ c.if-not-grew.false)
    (subst (λ (d : Layout). Settles (c.args.rounds - 1) c.args.text.now d (layout_of c.in_ok-settled.settled) labels) c.next_round-next.ensures c.in_ok-settled.ensures.ok)

pub returns-in_err-settled-clause-err : goal.returns-in_err-settled-clause-err
returns-in_err-settled-clause-err t c =
    let p = err_from_is_err_and c.from_residual-in_err-settled.result c.from_residual-in_err-settled.ensures.1 in
    rw (p.1, p.2) (elim c.in_err-settled.ensures.err [
      | inl memory ↦ inl memory
      | inr none ↦ inr (λ made given.
          none_settles c.args.rounds c.args.text.now (layout_of c.args.begun) (layout_of c.in_ok-draft.draft) made (map parts_of c.lay_round-2.new.labels.items) given
          c.if-rounds-eq0.false c.in_ok-draft.ensures.ok (sym c.grew.ensures ∙ c.if-not-grew.false)
          (subst (λ (b : Layout). (d : Layout) (ls : List (List ℕ × ℕ)) → Settles (c.args.rounds - 1) c.args.text.now b d ls → ⊥) c.next_round-next.ensures none))
    ])
