use Rattle.std.proofs.Common.{◌≡◌, ◌∙◌, ◌++◌, ◌∷◌, [], ℕ, List, map, refl, sym, ap, subst, inl, inr, append_assoc}
use Rattle.std.proofs.lemmas.List.{append-nil}
use Rattle.std.proofs.lemmas.Result.{err_from_is_err_and}
use Rattle.svc_draft.specs.Drafts.{layout_of}
use Rattle.svc_tokens.specs.Characters.{name_at}
use Rattle.svc_asm.specs.Labels.{Gives, label_in, parts_of}
use Rattle.svc_asm.proofs.Program.{advance, makes_of, refuted, empty_is, some_left}
use Rattle.svc_asm.proofs.labels.take_labelled_lines.Goals as goal

pub loop-rest-init : goal.loop-rest-init
loop-rest-init c = record {
  whole = λ todo made more h. (
    todo,
    subst (λ (ls : List (List ℕ × ℕ)). Gives todo c.args.text.now (layout_of c.args.draft.now) made ls)
        (sym (ap (λ ls. map parts_of ls ++ more) c.requires)) h,
  );
  left = λ ss made h. (ss, h);
}

pub loop-rest-preserved : goal.loop-rest-preserved
loop-rest-preserved c =
    let takes = c.in_ok-said.ensures.takes in
    let next = layout_of c.take_labelled.new.draft in
    let rest = c.in_ok-said.behind.now in
    let said = c.in_ok-said.said in
    let one = label_in next (name_at c.loop-rest.rest.now) said in
    let before = map parts_of c.loop-rest.labels.items in
    record {
      whole = λ todo made more h.
          let t = c.loop-rest.invariant.whole (said ∷ todo) made (one ++ more) (rest, next, more, takes, refl, h) in
          let labels : before ++ (one ++ more) ≡ map parts_of c.take_labelled.new.labels.items ++ more =
          sym (append_assoc before one more) ∙ sym (ap (λ ls. ls ++ more) c.in_ok-said.ensures.labels) in
          (t.0, subst (λ (ls : List (List ℕ × ℕ)). Gives t.0 c.args.text.now (layout_of c.args.draft.now) made ls) labels t.1);
      left = λ ss made h. let t = c.loop-rest.invariant.left ss made h in advance t.0 c.loop-rest.rest.now rest (layout_of c.loop-rest.draft) next made said takes t.1;
    }

pub returns-clause-ok : goal.returns-clause-ok
returns-clause-ok c =
    let empty = empty_is c.loop-rest.rest.now (sym c.is_empty.ensures ∙ c.loop-rest-test.false) in
    let t = c.loop-rest.invariant.whole [] (layout_of c.loop-rest.draft) [] (empty, refl, refl) in (
      t.0,
      subst (λ (ls : List (List ℕ × ℕ)). Gives t.0 c.args.text.now (layout_of c.args.draft.now) (layout_of c.loop-rest.draft) ls)
          (append-nil (map parts_of c.loop-rest.labels.items)) t.1,
    )

pub returns-in_err-said-clause-err : goal.returns-in_err-said-clause-err
returns-in_err-said-clause-err c =
    let p = err_from_is_err_and c.from_residual.result c.from_residual.ensures.1 in
    let some = some_left c.loop-rest.rest.now (sym c.is_empty.ensures ∙ c.loop-rest-test.true) in
    rw (p.1, p.2) (elim c.in_err-said.ensures.err [
      | inl memory ↦ inl memory
      | inr none ↦ inr (λ ss made given h. let t = c.loop-rest.invariant.left ss made (makes_of ss c.args.text.now (layout_of c.args.draft.now) made given h) in refuted t.0 c.loop-rest.rest.now (layout_of c.loop-rest.draft) made some none t.1)
    ])
