-- The entries of a trace that a request looks at.
use Rattle.std.specs.Prelude.{◌≡◌, ◌≤◌, ◌<◌, ℕ, List, Option, Some, None, IfSome, length, take}
use Rattle.svc_base.specs.declared.config.Config.{Config}
use Rattle.svc_image.specs.Image.{Image}
use Rattle.svc_history_laws.specs.declared.entry.Entry.{Entry}
use Rattle.svc_history_laws.specs.Legal.{LegalHistory}
use Rattle.svc_request.specs.declared.faults.Fault.{Fault}
use Rattle.svc_request.specs.declared.faults.Fault.TheVariants as fault

-- the first so many entries, or all
abbrev pub front : Option ℕ → List Entry → List Entry
front None es = es
front (Some most) es = take most es

-- the entries have at least so many, if a number is given, and these are a legal history, whatever comes after them
pub record IsSoundFront (most : Option ℕ) (img : Image) (config : Config) (es : List Entry) : Type 0 where
  pub legal : LegalHistory img config (front most es)
  pub within : IfSome most (λ n. n ≤ length es)

-- the fault is that of a file, and the entries are a legal history of fewer entries than are asked for
abbrev pub IsPastTheEnd : Option ℕ → Image → Config → List Entry → Fault → Type 0
IsPastTheEnd None img config es f = ⊥
IsPastTheEnd (Some most) img config es f = (f ≡ fault.File) × LegalHistory img config es × (length es < most)
