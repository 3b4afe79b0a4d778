use Rattle.std.proofs.Common.{◌≡◌, ◌∙◌, ◌++◌, List, ℕ, ap, subst}
use Rattle.std.specs.Io.KnownBytes.{Appends}
use Rattle.svc_names.specs.declared.rows.Rows.TheVariants as rows
use Rattle.svc_names.specs.Given.{listed, told_with}
use Rattle.svc_explore.specs.Rows.{finding_text}
use Rattle.svc_program.proofs.find.print_finding.Goals as goal

pub returns-clause-told : goal.returns-clause-told
returns-clause-told g c =
    let told : List ℕ = finding_text c.args.exploration.now c.args.seen in
    let text : c.deref.result.now ≡ told =
    c.deref.ensures.value ∙ c.in_ok-put_finding.ensures ∙ ap (λ (l : List ℕ). l ++ told) c.new-text.ensures.items in
    subst (λ (t : List ℕ). Appends (g.O.Write.contents c.args.out.now) (g.O.Write.contents c.print_rows.new.out) (told_with (listed c.args.names) rows.Seen t))
    text c.in_ok-print_rows.ensures.ok
