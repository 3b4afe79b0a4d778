use Rattle.std.proofs.Common.{refl}
use Rattle.svc_draft.proofs.draft.Draft.behind.Goals as goal

pub returns-clause-layout : goal.returns-clause-layout
returns-clause-layout c =
    rw (
      c.new.ensures.items,
      c.new-2.ensures.items,
      c.new-3.ensures,
      c.new-4.ensures,
      c.new-5.ensures,
      c.new-6.ensures,
      c.new-7.ensures.items,
      c.new-8.ensures.empty,
      c.new-9.ensures.empty,
    )
    refl
