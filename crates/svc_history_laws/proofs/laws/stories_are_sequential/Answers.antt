use Rattle.svc_machine_laws.proofs.Given.{given}
use Rattle.svc_history_laws.proofs.Stories.{is_answered, has_commit}
use Rattle.svc_history_laws.proofs.laws.stories_are_sequential.Goals as goal

pub returns : goal.returns
returns c = record {
  answers = λ img is config es legal i e at commit. is_answered img (given img is) config es legal i e at commit;
  commits = λ img is config es legal j lt. has_commit img (given img is) config es legal j lt;
}
