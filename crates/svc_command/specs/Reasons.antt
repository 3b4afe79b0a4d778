-- What is told behind a fault, where a word asks for it.
use Rattle.std.specs.Prelude.{◌⊎◌, ℕ, List, Option}
use Rattle.std.specs.Io.KnownBytes.{Appends}
use Rattle.svc_request.specs.Held.{Held}
use Rattle.svc_request.specs.declared.faults.Fault.{Fault}
use Rattle.svc_request.specs.declared.request.Request.{Request}
use Rattle.svc_explain.specs.Explanations.{TellsAlone, TellsWhy}
use Rattle.svc_command.specs.Asked.{MayAsk}

-- what explains a fault: by what the words may ask for, or by the fault alone
abbrev pub IsReasonFor : List (List ℕ) → Held → Fault → List ℕ → Type 0
IsReasonFor words held fault text =
    ((asked : Request) × MayAsk words asked × TellsWhy held asked fault text) ⊎ TellsAlone fault text

-- a writer's text has grown by it
pub record TellsReason (words : List (List ℕ)) (held : Held) (fault : Fault) (old new : Option (List ℕ)) : Type 0 where
  pub text : List ℕ
  pub is_reason : IsReasonFor words held fault text
  pub told : Appends old new text
