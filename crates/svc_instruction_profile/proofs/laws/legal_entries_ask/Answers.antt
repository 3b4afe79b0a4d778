use Rattle.svc_instruction_profile.proofs.Asking.{history_asks}
use Rattle.svc_instruction_profile.proofs.laws.legal_entries_ask.Goals as goal

pub returns : goal.returns
returns c img config es legal = history_asks img config es legal
