use Rattle.std.proofs.Common.{◌≡◌, drop}
use Rattle.svc_draw.specs.Tallies.{bars_tallied, with_bars}
use Rattle.svc_draw.proofs.tallies.tally_bars.Given as goal

abbrev pub invariant-loop-bar : goal.invariant-loop-bar
invariant-loop-bar l =
    with_bars l.frame.sheet l.fate l.tallies (drop l.bar-index l.bars) ≡ bars_tallied l.frame.sheet l.fate l.bars
