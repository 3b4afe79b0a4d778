use Rattle.std.specs.Prelude.{slice_get}
use Rattle.std.proofs.Common.{◌≡◌, ◌∙◌, ◌+◌, ◌-◌, ℕ, Some, ap, arith, refl, subst, sym}
use Rattle.std.specs.Cmp.Lexicographic.{bytes_decides}
use Rattle.std.proofs.lemmas.Option.{slice_get-get_or}
use Rattle.svc_command.specs.Line.{texts}
use Rattle.svc_command.proofs.Asking.{text_at}
use Rattle.svc_command.proofs.line.has_next.Goals as goal

pub returns-then-eq : goal.returns-then-eq
returns-then-eq c = λ yes.
    let words = c.args.words.now in
    let at = c.loop-index.index in
    let below = c.loop-index-test.true in
    let from = c.loop-index.auto.index in
    let before = c.index-words-index.result in
    let item = c.index-words-index-then-is_option.result in
    let option_found = slice_get-get_or words (at - 1) before (omega (arith, below)) ∙ ap Some (sym c.index-words-index.is) in
    let found = slice_get-get_or words at item (omega (arith, below)) ∙ ap Some (sym c.index-words-index-then-is_option.is) in
    let option_is = sym c.as_str.ensures.value ∙ c.if-is_option.ensures {u = tt} refl in
    let same = (bytes_decides c.as_str-then-is_option.result.now c.args.value.now).0 (sym c.eq.ensures ∙ c.if-eq.true) in
    let next : at ≡ at - 1 + 1 = omega (arith, from) in (
      at - 1,
      text_at words (at - 1) before option_found ∙ ap Some option_is,
      subst (λ (k : ℕ). slice_get (texts words) k ≡ Some c.args.value.now) next
          (text_at words at item found ∙ ap Some (sym c.as_str-then-is_option.ensures.value ∙ same)),
    )
