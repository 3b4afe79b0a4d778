use Rattle.std.proofs.Common.{◌≡◌, ◌++◌, take}
use Rattle.std.specs.Prelude.{flat_map}
use Rattle.svc_draw.specs.Joined.{stripe}
use Rattle.svc_draw.proofs.joined.write_stripes_in.Given as goal

abbrev pub invariant-loop-tally : goal.invariant-loop-tally
invariant-loop-tally l = l.text.items ≡ l.fn.text.items ++ flat_map (stripe l.frame.sheet l.fate) (take l.tally-index l.tallies)
