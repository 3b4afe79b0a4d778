use Rattle.std.proofs.Common.{◌≡◌, ◌<◌, length}
use Rattle.svc_asm_lines.specs.Strings.{hex_on}
use Rattle.svc_asm_lines.proofs.strings.hex_on.Given as goal

-- the digits that are left make what all of them make
abbrev pub invariant-loop-rest : goal.invariant-loop-rest
invariant-loop-rest l = record {
  same : hex_on l.number l.rest ≡ hex_on l.fn.first l.text;
  small : l.number < 256;
}

abbrev pub decreases-loop-rest : goal.decreases-loop-rest
decreases-loop-rest l = length l.rest
