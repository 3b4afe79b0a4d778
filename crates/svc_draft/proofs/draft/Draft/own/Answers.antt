use Rattle.std.proofs.Common.{rules, ◌∙◌, refl, ap, map, unwrap_or, List}
use Rattle.svc_draft.specs.declared.making.Mark.{Mark}
use Rattle.svc_draft.proofs.Made.{own-limits}
use Rattle.svc_draft.proofs.draft.Draft.own.Goals as goal

pub returns-in_ok-limits_of-in-Some-Two : goal.returns-in_ok-limits_of-in-Some-Two
returns-in_ok-limits_of-in-Some-Two c =
    let d = c.args.self.now in (
      search rules,
      refl,
      c.in_ok-limits_of-in-Some-Two.ensures ∙ ap (λ (ms : List Mark). map (λ m. unwrap_or m.limit d.limit) ms) c.deref.ensures.value ∙ own-limits d.limit d.entries.items,
    )
