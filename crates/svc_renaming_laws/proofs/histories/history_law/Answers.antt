use Rattle.svc_machine_laws.proofs.Given.{given}
use Rattle.svc_renaming_laws.proofs.HistoryNames.{run_renamed, legal_renamed, history_renamed}
use Rattle.svc_renaming_laws.proofs.histories.history_law.Goals as goal

pub returns : goal.returns
returns c = record {
  runs = λ img is config r s known reached xs. run_renamed img (given img is) config r known xs s reached;
  legal = λ img is config r s known reached es. legal_renamed img (given img is) config r known es s reached;
  histories = λ img is config r known. history_renamed img (given img is) config r known;
}
