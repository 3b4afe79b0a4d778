-- What the laws of the program give for an image.
use Rattle.std.proofs.Common.{ℕ, ◌≡◌, ◌+◌, true, Some}
use Rattle.svc_image.specs.Image.{Image, IsImage, is_entry}
use Rattle.svc_core_laws.specs.Program.{IsProgram, seq}
use Rattle.svc_core_laws.specs.Words.{program}
use Rattle.svc_core_laws.specs.Sequence.{plain_seq, IsSameSeq}
use Rattle.svc_core_laws.specs.Bursts.{Advance, Follows, Means, are_of}
use Rattle.svc_core_laws.proofs.Ends.{is_program}
use Rattle.svc_core_laws.proofs.Looks.{end_counts}
use Rattle.svc_core_laws.proofs.Means.{means, are_of_looks}
use Rattle.svc_core_laws.proofs.Sequential.{same_seq, due_enters}

pub record Given (img : Image) : Type 0 where
  pub is_program : IsProgram (program img)
  pub means : (b : Advance) → Follows b → are_of img b.looks ≡ true → Means img b
  pub counts : (b : Advance) → Follows b → b.end.count ≡ b.start.count + b.local
  pub enters : (k entry : ℕ) → (seq (program img) k).due ≡ Some entry → is_entry img entry ≡ true
  pub bytes : (k : ℕ) → IsSameSeq img (plain_seq img k) (seq (program img) k)

pub given : (img : Image) → IsImage img → Given img
given img is = record {
  is_program = is_program img;
  means = λ b follows own. means img b follows (are_of_looks img b.looks own);
  counts = λ b follows. (end_counts b follows).0;
  enters = due_enters img is.start_entry;
  bytes = λ k. same_seq img k is.words_fit;
}
