use Rattle.std.proofs.Common.{◌≡◌, ◌∙◌, ◌++◌, List, ℕ, ap, subst}
use Rattle.std.specs.Io.KnownBytes.{Appends}
use Rattle.svc_names.specs.declared.rows.Rows.TheVariants as rows
use Rattle.svc_names.specs.Given.{listed, told_with}
use Rattle.svc_explore.specs.Rows.{exploration_text}
use Rattle.svc_program.proofs.explore.tell_schedules.Goals as goal

pub returns-clause-told : goal.returns-clause-told
returns-clause-told g c =
    let found = c.in_ok-exploration.exploration in
    let says = c.in_ok-exploration.ensures in
    let text : c.deref.result.now ≡ exploration_text found =
    c.deref.ensures.value ∙ c.in_ok-put_exploration.ensures ∙ ap (λ (l : List ℕ). l ++ exploration_text found) c.new-text.ensures.items in
    record {
      exploration = found;
      is = says;
      text = subst (λ (t : List ℕ). Appends (g.O.Write.contents c.args.out.now) (g.O.Write.contents c.print_rows.new.out) (told_with (listed c.args.names) rows.Seen t))
          text c.in_ok-print_rows.ensures.ok;
      status = c.whole_status.ensures;
    }
