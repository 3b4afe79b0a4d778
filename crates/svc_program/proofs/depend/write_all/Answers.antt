use Rattle.std.proofs.Common.{ℕ, List, None, ◌∙◌, ap, arith, subst}
use Rattle.std.specs.Io.KnownBytes.{Appends}
use Rattle.svc_depend.specs.Tables.{totals_text}
use Rattle.svc_program.proofs.Needed.{totals_told}
use Rattle.svc_program.proofs.depend.write_all.Goals as goal

pub returns-clause-told : goal.returns-clause-told
returns-clause-told g c =
    let needs = c.in_ok-needs.needs in
    let found = c.in_ok-needs.ensures in
    record {
      text = subst (λ (t : List ℕ). Appends (g.O.Write.contents c.args.out.now) (g.O.Write.contents c.write_totals.new.w) t)
          (ap (λ tasks. totals_text tasks needs.ending needs.totals) (omega (arith, needs.tasks.ok.0, c.len-tasks.ensures))
          ∙ totals_told None c.args.image.now c.args.most needs (record { tasks = found.tasks; totals_are = found.totals; words = found.words; ending = found.ending }))
          c.in_ok-write_totals.ensures.ok;
      ending_is = found.ending;
    }
