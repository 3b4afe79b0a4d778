use Rattle.std.specs.Prelude.{◌≡◌, ℕ, ◌<◌}
use Rattle.svc_names.specs.Rows.{field}
use Rattle.svc_reasons.proofs.differing.first_other.Given as goal

abbrev pub invariant-loop-place : goal.invariant-loop-place
invariant-loop-place l = (k : ℕ) → k < l.place → field k l.mine ≡ field k l.theirs
