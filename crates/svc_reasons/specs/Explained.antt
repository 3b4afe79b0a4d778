-- What is told of the fault of a trace.
use Rattle.std.specs.Prelude.{◌≡◌, ℕ, ◌+◌, List, Option, Some, IfSome, is_some, slice_get, take}
use Rattle.svc_base.specs.declared.config.Config.{Config}
use Rattle.svc_image.specs.Image.{Image}
use Rattle.svc_history_laws.specs.declared.entry.Entry.{Entry}
use Rattle.svc_history_laws.specs.Legal.{LegalHistory}
use Rattle.svc_request.specs.declared.request.Compared.{Compared}
use Rattle.svc_request.specs.declared.request.Compared.TheVariants.{All, ButSuppliers}
use Rattle.svc_script.specs.declared.playing.Answer.{Answer}
use Rattle.svc_script.specs.declared.playing.Answer.TheVariants as answer
use Rattle.svc_script.specs.Answering.{IsAnswerTo}
use Rattle.svc_script.specs.Suppliers.{IsSoundWith, has_numbers, supplied_as}
use Rattle.svc_reasons.specs.Reasons.{IsReason}

-- a legal history has these entries, in the columns that are compared
abbrev pub AreSound : Compared → Image → Config → List Entry → (found : List Entry) → Type 0
AreSound All img config es found = (found ≡ es) × LegalHistory img config found
AreSound ButSuppliers img config es found = IsSoundWith img config es found

-- an entry with the supplier of the machine's answer, if that is an entry
abbrev pub supplied : Option Answer → Entry → Entry
supplied (Some (answer.Accepted found)) e = supplied_as e found
supplied _ e = e

-- an entry whose columns that aren't compared are those of the machine's answer
abbrev pub compared_entry : Compared → Option Answer → Entry → Entry
compared_entry All a e = e
compared_entry ButSuppliers a e = supplied a e

-- the entries before the one at this index are sound, and what is told is what the machine answers behind them to the
-- event that the entry there names. A row is counted from 1 with the header.
pub record Explains (compared : Compared) (img : Image) (config : Config) (es : List Entry) (index : ℕ)
    (text : List ℕ) : Type 0 where
  pub entry : Entry
  pub there : slice_get es index ≡ Some entry
  pub before : List Entry
  pub sound : AreSound compared img config (take index es) before
  pub answer : Option Answer
  pub answered : IfSome answer (IsAnswerTo img config before entry)
  pub numbers : is_some answer ≡ has_numbers entry.kind entry
  pub told : IsReason (index + 2) (compared_entry compared answer entry) answer text
