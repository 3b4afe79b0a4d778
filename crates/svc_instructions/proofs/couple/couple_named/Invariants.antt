use Rattle.std.proofs.Common.{◌≡◌, drop}
use Rattle.std.specs.List.{find}
use Rattle.svc_instructions.specs.Couples.{has_name}
use Rattle.svc_instructions.proofs.couple.couple_named.Given as goal

abbrev pub invariant-loop-couple : goal.invariant-loop-couple
invariant-loop-couple l = find (has_name l.name) (drop l.couple-index l.couples) ≡ find (has_name l.name) l.couples
