use Rattle.std.proofs.Common.{◌≡◌, ◌++◌, take}
use Rattle.std.specs.Prelude.{flat_map}
use Rattle.svc_draw.specs.Joined.{joined_mark}
use Rattle.svc_draw.proofs.joined.write_kind_in.Given as goal

abbrev pub invariant-loop-tally : goal.invariant-loop-tally
invariant-loop-tally l = l.text.items ≡ l.fn.text.items ++ flat_map (joined_mark l.frame.sheet l.kind) (take l.tally-index l.tallies)
