use Rattle.std.proofs.Common.{◌≡◌, ◌++◌, take}
use Rattle.std.specs.Prelude.{flat_map}
use Rattle.svc_draw.specs.Joined.{long_name}
use Rattle.svc_draw.proofs.joined.write_long_names.Given as goal

abbrev pub invariant-loop-bar : goal.invariant-loop-bar
invariant-loop-bar l = l.text.items ≡ l.fn.text.items ++ flat_map (long_name l.frame.sheet) (take l.bar-index l.bars)
