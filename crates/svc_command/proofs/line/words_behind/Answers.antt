use Rattle.std.specs.Prelude.{string_bytes}
use Rattle.std.proofs.Common.{◌∙◌, ◌+◌, ◌-◌, Some, ap, arith, drop, length, map, sym}
use Rattle.std.specs.Cmp.Lexicographic.{bytes_decides}
use Rattle.std.proofs.lemmas.List.{drop-map, length-drop, take_all}
use Rattle.std.proofs.lemmas.Option.{slice_get-get_or}
use Rattle.svc_command.proofs.Asking.{text_at}
use Rattle.svc_command.proofs.line.words_behind.Goals as goal

pub returns-then-eq : goal.returns-then-eq
returns-then-eq c =
    let words = c.args.words.now in
    let at = c.loop-index.index in
    let below = c.loop-index-test.true in
    let item = c.index-words-index.result in
    let found = slice_get-get_or words at item (omega (arith, below)) ∙ ap Some (sym c.index-words-index.is) in
    let same = (bytes_decides c.as_str.result.now c.args.text.now).0 (sym c.eq.ensures ∙ c.if-eq.true) in
    let rest = drop (at + 1) words in
    let whole = take_all (length words - (at + 1)) rest (omega (arith, length-drop (at + 1) words)) in (
      at,
      text_at words at item found ∙ ap Some (sym c.as_str.ensures.value ∙ same),
      ap (map string_bytes) whole ∙ sym (drop-map string_bytes (at + 1) words),
    )
