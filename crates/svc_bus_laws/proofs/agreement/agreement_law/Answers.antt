use Rattle.svc_bus_laws.proofs.AgreeSteps.{squash_agrees, commit_agrees, begin_agrees}
use Rattle.svc_bus_laws.proofs.AgreeWrites.{write_agrees}
use Rattle.svc_bus_laws.proofs.AgreeReads.{read_agrees, replace_agrees}
use Rattle.svc_bus_laws.proofs.agreement.agreement_law.Goals as goal

pub returns : goal.returns
returns c = record {
  read = read_agrees;
  write = write_agrees;
  replace = replace_agrees;
  squash = squash_agrees;
  commit = commit_agrees;
  begin = begin_agrees;
}
