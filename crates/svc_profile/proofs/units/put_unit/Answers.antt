use Rattle.svc_profile.proofs.UnitRows.{few_on, light_on}
use Rattle.svc_profile.proofs.units.put_unit.Goals as goal

pub put_columns-requires-clause-few : goal.put_columns-requires-clause-few
put_columns-requires-clause-few c =
    rw (c.deref.ensures.value, c.in_ok-tasks.ensures) (few_on c.args.runs.now c.args.unit c.requires.few)

pub put_columns-requires-clause-light : goal.put_columns-requires-clause-light
put_columns-requires-clause-light c =
    rw (c.deref.ensures.value, c.in_ok-tasks.ensures) (light_on c.args.runs.now c.args.unit c.requires.light)
