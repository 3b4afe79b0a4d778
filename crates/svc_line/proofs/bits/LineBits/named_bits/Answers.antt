use Rattle.std.proofs.Common.{refl}
use Rattle.svc_line.proofs.Changes.{with_names}
use Rattle.svc_line.proofs.bits.LineBits.named_bits.Goals as goal

pub returns : goal.returns
returns c = with_names c.args.self _ refl
