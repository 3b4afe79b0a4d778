use Rattle.std.proofs.Common.{ap}
use Rattle.svc_cache.specs.Lines.{LineMap}
use Rattle.svc_retire.proofs.lines.commit_lines.Goals as goal

pub returns-clause-lines : goal.returns-clause-lines
returns-clause-lines c = λ a. ap (λ (f : LineMap). f a) c.for_commit.ensures.lines
