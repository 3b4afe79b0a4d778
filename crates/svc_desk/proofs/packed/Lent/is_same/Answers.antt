use Rattle.std.proofs.lemmas.Slice.Eq.{slice_eq-Decides}
use Rattle.svc_desk.proofs.Sizes.{size_Decides}
use Rattle.svc_desk.proofs.packed.Lent.is_same.Goals as goal

pub returns-then-eq-clause-sizes : goal.returns-then-eq-clause-sizes
returns-then-eq-clause-sizes c = λ _. (slice_eq-Decides size_Decides c.args.self.now.sizes.now c.args.other.now.sizes.now c.eq.result c.eq.ensures).0 c.if-eq.true
