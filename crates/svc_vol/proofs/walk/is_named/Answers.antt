use Rattle.std.proofs.Common.{◌∙◌, sym, ap, below_more}
use Rattle.svc_vol.specs.Walked.{is_before}
use Rattle.svc_vol.proofs.Finding.{line_at}
use Rattle.svc_vol.proofs.walk.is_named.Goals as goal

pub loop-place-preserved : goal.loop-place-preserved
loop-place-preserved c = below_more _ _ c.loop-place.invariant (ap (λ line. is_before line c.args.unit) (line_at c.args.found.now c.loop-place.place) ∙ sym c.is_before.ensures ∙ c.if-is_before.false)
