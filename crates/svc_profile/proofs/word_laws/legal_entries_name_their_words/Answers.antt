use Rattle.svc_profile.proofs.Naming.{history_names}
use Rattle.svc_profile.proofs.word_laws.legal_entries_name_their_words.Goals as goal

pub returns : goal.returns
returns c img config es legal = history_names img config es legal
