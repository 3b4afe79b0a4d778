-- What was printed of a run is its report.
use Rattle.std.specs.Prelude.{IfOk, OnOk}
use Rattle.std.specs.Io.KnownBytes.{Appends, Keeps}
use Rattle.std.proofs.Common.{◌≡◌, ◌∙◌, ℕ, Bool, List, Option, Some, None, Result, Ok, Err}
use Rattle.svc_core_laws.specs.Sequence.{plain_seq}
use Rattle.svc_image.specs.Image.{Image}
use Rattle.svc_report.specs.declared.counts.Counts.{Counts}
use Rattle.svc_report.specs.Summary.{summary_of}
use Rattle.svc_answer.specs.Runs.{Reports, ending_after, status_of}

-- the summary of an image's first tasks, printed with the status of their ending
pub reported : {E : Type 0} (r : Result ℕ E) (img : Image) (k tasks : ℕ) (full : Bool) (counts : Option Counts) (old new : Option (List ℕ))
    → IfOk r (λ exit. exit ≡ status_of (ending_after img k full)) → OnOk r (Appends old new (summary_of (plain_seq img k).output tasks (ending_after img k full) counts))
    → IfOk r (Reports img k tasks full counts old new)
reported (Ok exit) img k tasks full counts old new status text = record { text = text; status = status }
reported (Err e) img k tasks full counts old new status text = tt

-- what was written stays after a flush
pub appended_and_kept : (old written new : Option (List ℕ)) (text : List ℕ) → Appends old written text → Keeps written new → Appends old new text
appended_and_kept None written new text grown kept = tt
appended_and_kept (Some bytes) None new text grown kept = absurd grown
appended_and_kept (Some bytes) (Some all) None text grown kept = absurd kept
appended_and_kept (Some bytes) (Some all) (Some left) text grown kept = kept ∙ grown
