use Rattle.svc_machine_laws.proofs.Given.{given}
use Rattle.svc_renaming_laws.proofs.RefusalNames.{renamed_refused}
use Rattle.svc_renaming_laws.proofs.ReachedNames.{renamed_reached}
use Rattle.svc_renaming_laws.proofs.EventNames.{renamed_step, renamed_is}
use Rattle.svc_renaming_laws.proofs.ReplyNames.{entry_renamed, reply_renamed}
use Rattle.svc_renaming_laws.proofs.standings.standing_law.Goals as goal

pub returns : goal.returns
returns c = record {
  reached = λ img is config r s. renamed_reached img config r s;
  refusals = λ img is config r s. renamed_refused img config r s;
  steps = λ img is config r s known reached. renamed_step img (given img is) config r s known reached;
  replies = λ img is config r s. reply_renamed r img config s;
  entries = entry_renamed;
  events = renamed_is;
}
