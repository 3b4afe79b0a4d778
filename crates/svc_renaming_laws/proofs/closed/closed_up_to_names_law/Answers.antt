use Rattle.svc_machine_laws.proofs.Given.{given}
use Rattle.svc_machine_laws.proofs.Folds.{opened_reached}
use Rattle.svc_renaming_laws.specs.ClosedUpToNames.{HasNamedKey}
use Rattle.svc_renaming_laws.proofs.FutureNames.{future_renamed}
use Rattle.svc_renaming_laws.proofs.KeyNames.{key_renamed, chosen_tell}
use Rattle.svc_renaming_laws.proofs.ClosedNames.{shows}
use Rattle.svc_renaming_laws.proofs.closed.closed_up_to_names_law.Goals as goal

pub returns : goal.returns
returns g c = record {
  futures = future_renamed;
  keys = key_renamed;
  chosen = chosen_tell;
  closed = λ img is config most key tells keys found closed. shows img is config most (HasNamedKey config key) (chosen_tell img config key tells) keys found closed (opened_reached img (given img is) config 0);
}
