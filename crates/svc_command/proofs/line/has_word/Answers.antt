use Rattle.std.proofs.Common.{◌≡◌, ◌∙◌, ℕ, List, Some, ap, arith, sym}
use Rattle.std.specs.Cmp.Lexicographic.{bytes_decides}
use Rattle.std.proofs.lemmas.Option.{slice_get-get_or}
use Rattle.svc_command.proofs.Asking.{has_at}
use Rattle.svc_command.proofs.line.has_word.Goals as goal

pub returns-then-eq : goal.returns-then-eq
returns-then-eq c = λ yes.
    let words = c.args.words.now in
    let item = c.word-item.result in
    let at = c.loop-word.word-index in
    let below = c.loop-word-test.true in
    let found = slice_get-get_or words at item (omega (arith, below)) ∙ ap Some (sym c.word-item.is) in
    let same = (bytes_decides c.as_str.result.now c.args.text.now).0 (sym c.eq.ensures ∙ c.if-eq.true) in
    has_at (λ (word : List ℕ). word ≡ c.args.text.now) words at item found (sym c.as_str.ensures.value ∙ same)
