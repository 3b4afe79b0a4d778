use Rattle.std.proofs.Common.{◌∙◌, ◌++◌, ◌∷◌, ◌≤◌, ◌<◌, ◌≡◌, [], List, Bool, Option, None, ap, arith, get_or, sym}
use Rattle.std.specs.Prelude.{◌||◌, cond}
use Rattle.std.proofs.lemmas.Option.{get_or_from_slice_get, slice_get-get_or}
use Rattle.svc_held.specs.declared.named.Named.{Named}
use Rattle.svc_held.specs.declared.named.Namers.{Namers}
use Rattle.svc_held.specs.declared.named.Namers.TheVariants.{Nobody}
use Rattle.svc_held.specs.Named.{are_some, named_at, named_by}
use Rattle.svc_held.proofs.Ranges.{lists_more}
use Rattle.svc_held.proofs.named.list_outside.Goals as goal

pub loop-word-preserved : goal.loop-word-preserved
loop-word-preserved c = λ asked outside begun.
    let f = named_at asked c.args.marks.now in
    let at = c.loop-word.word in
    let marks = c.args.marks.now in
    let same = get_or_from_slice_get marks at (get_or marks at Nobody) _ (slice_get-get_or marks at Nobody (omega (arith, c.loop-word-test.true))) in
    c.in_ok-push_named.ensures ∙ ap (λ (n : Namers). c.loop-word.named.items ++ named_by None at n) same
    ∙ ap (λ (x : Bool). c.loop-word.named.items ++ cond (are_some (get_or marks at Nobody) || x) (record { word = record { 0 = at }; by = get_or marks at Nobody } ∷ []) [])
    (sym (outside at (omega arith) (omega arith)))
    ∙ ap (λ (l : List Named). l ++ f at) (c.loop-word.invariant asked outside begun) ∙ sym (lists_more f at)
