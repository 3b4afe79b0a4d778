use Rattle.svc_machine_laws.proofs.Wants.{asked_within, asked_word_is}
use Rattle.svc_machine_laws.proofs.events.asked_word_is_wanted.Goals as goal

pub returns : goal.returns
returns c = record { word = asked_word_is; inside = asked_within }
