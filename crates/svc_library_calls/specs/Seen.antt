-- What is printed for what a call did.
use Rattle.std.specs.Prelude.{ℕ, List, codes}
use Rattle.svc_library_calls.specs.declared.attempt.Seen.{Seen}
use Rattle.svc_library_calls.specs.declared.attempt.Seen.TheVariants.{Before, Told, Ample, Untold, Wrong, Unknown}

abbrev pub word_of : Seen → List ℕ
word_of Before = codes "before"
word_of Told = codes "told"
word_of Ample = codes "ample"
word_of Untold = codes "untold"
word_of Wrong = codes "wrong"
word_of Unknown = codes "unknown"
