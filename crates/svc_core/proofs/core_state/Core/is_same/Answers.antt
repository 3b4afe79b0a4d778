use Rattle.svc_core_laws.proofs.SameCore.{same_state-both}
use Rattle.svc_core.proofs.core_state.Core.is_same.Goals as goal

pub returns-clause-same : goal.returns-clause-same
returns-clause-same c = same_state-both c.args.self.now c.args.other.now c.has_same_fields.result c.has_same_fields.ensures
