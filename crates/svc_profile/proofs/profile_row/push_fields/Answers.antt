use Rattle.svc_profile.proofs.profile_row.push_fields.Goals as goal

pub returns : goal.returns
returns c =
    rw (
      c.in_ok-push_served.ensures,
      c.in_ok-push_totals.ensures,
      c.totals_told.ensures,
      c.requires.tasks,
      c.in_ok-push_number.ensures,
      c.in_ok-push.ensures,
      c.requires.none,
      c.of-counts.ensures,
    ) at c.push_number-2.ensures
