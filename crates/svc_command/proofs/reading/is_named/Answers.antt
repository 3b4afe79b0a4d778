use Rattle.std.proofs.Common.{◌∙◌, Some, ap, sym}
use Rattle.std.specs.Cmp.Lexicographic.{bytes_decides}
use Rattle.std.proofs.lemmas.Option.{slice_get-get_or}
use Rattle.svc_command.proofs.Asking.{named_by}
use Rattle.svc_command.proofs.reading.is_named.Goals as goal

pub returns-in-Some : goal.returns-in-Some
returns-in-Some c = λ same.
    let found = c.in-Some.ensures.lookup.3 in
    let second = slice_get-get_or c.args.words.now 1 c.in-Some.word.now found.0 ∙ ap Some (sym (found.1 c.in-Some.word.now)) in
    let equal = (bytes_decides c.as_str.result.now c.args.name.now).0 (sym c.eq.ensures ∙ same) in
    named_by c.args.words.now c.in-Some.word.now c.args.name.now second (sym c.as_str.ensures.value ∙ equal)
