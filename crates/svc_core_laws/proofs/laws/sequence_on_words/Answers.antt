use Rattle.svc_core_laws.proofs.ImageBytes.{word-bytes_of}
use Rattle.svc_core_laws.proofs.Sequential.{same_seq}
use Rattle.svc_core_laws.proofs.laws.sequence_on_words.Goals as goal

pub returns-clause-data_words : goal.returns-clause-data_words
returns-clause-data_words c = λ img is a. word-bytes_of img.words a is.words_fit

pub returns-clause-run : goal.returns-clause-run
returns-clause-run c = λ img is k. same_seq img k is.words_fit
