use Rattle.std.specs.Prelude.{codes}
use Rattle.std.proofs.Common.{◌∙◌, ◌++◌, ℕ, List, Some, ap, sym}
use Rattle.std.specs.Cmp.Lexicographic.{bytes_decides}
use Rattle.std.proofs.lemmas.Bool.Decides.{Decides-eqb}
use Rattle.std.proofs.lemmas.Slice.Eq.{strip_prefix_is}
use Rattle.svc_command.proofs.line.is_assigned.Goals as goal

pub returns-in-Some : goal.returns-in-Some
returns-in-Some c = λ same.
    let first = strip_prefix_is Decides-eqb c.args.rest.now c.as_slice.result.now (Some c.in-Some.given) (c.in-Some.ensures {u = tt}).cases in
    let equal = (bytes_decides c.in-Some.given.now c.args.value.now).0 (sym c.eq.ensures ∙ same) in
    (rw c.as_slice.ensures at first) ∙ ap (λ (t : List ℕ). codes "=" ++ t) equal
