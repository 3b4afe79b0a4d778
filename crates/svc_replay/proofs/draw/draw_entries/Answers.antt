use Rattle.std.proofs.Common.{◌∙◌, ◌≡◌, ℕ, List, ap, arith, subst}
use Rattle.svc_history_laws.specs.declared.entry.Entry.{Entry}
use Rattle.svc_history_laws.specs.Legal.{LegalHistory}
use Rattle.svc_instruction_profile.specs.Addresses.{addresses}
use Rattle.svc_answer.specs.Drawings.{shown_as}
use Rattle.svc_answer.specs.Fronts.{front}
use Rattle.svc_replay.proofs.draw.draw_entries.Goals as goal

pub returns-clause-drawn : goal.returns-clause-drawn
returns-clause-drawn c =
    let view = c.args.picture.view in
    let shown = c.first-drawn.ensures ∙ ap (λ most. front most c.args.entries.now) c.end.ensures in
    record {
      legal = subst (LegalHistory c.args.image c.args.config) shown c.in_ok-asked.ensures.legal;
      inside = omega (arith, c.from.ensures);
    }

pub returns-clause-text : goal.returns-clause-text
returns-clause-text c =
    let p = c.args.picture in
    let lent = c.deref.result in
    let shown = c.first-drawn.ensures ∙ ap (λ most. front most c.args.entries.now) c.end.ensures in (
      lent,
      c.deref.ensures.value ∙ c.in_ok-asked.ensures.asked ∙ ap (λ (es : List Entry). addresses c.args.image c.args.config es) shown,
      c.in_ok-text.ensures.ok ∙ ap (λ (es : List Entry). shown_as p.rows c.args.config.units es p.view p.style c.args.names lent) shown,
    )
