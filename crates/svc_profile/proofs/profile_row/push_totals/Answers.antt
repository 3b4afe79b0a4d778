use Rattle.std.proofs.Common.{◌++◌, ◌∷◌, ◌∙◌, [], ap, ℕ}
use Rattle.std.specs.Prelude.{decimal}
use Rattle.svc_profile.specs.declared.totals.Group.TheVariants as group
use Rattle.svc_profile.specs.declared.totals.Measure.TheVariants as measure
use Rattle.svc_profile.specs.Profile.{total_of}
use Rattle.svc_profile.specs.ProfileRow.{total_field}
use Rattle.svc_profile.proofs.FieldRows.{one_more_field}
use Rattle.svc_profile.proofs.profile_row.push_totals.Goals as goal

pub loop-total-preserved : goal.loop-total-preserved
loop-total-preserved c =
    let one = c.in_ok-push_number.ensures ∙ ap (λ (n : ℕ). c.loop-total.fields ++ (decimal n ∷ [])) c.over.ensures in
    one_more_field (total_field c.args.runs.now) c.args.totals.now c.loop-total.total-index (total_of measure.Tasks group.Begun)
    c.args.fields.now c.loop-total.fields c.push_number.new.self c.loop-total-test.true c.loop-total.invariant one
