-- Which entries a request looks at, and when there are too few.
use Rattle.std.proofs.Common.{◌≡◌, ◌∙◌, ◌<◌, ℕ, List, Option, Some, None, length, min, take, unwrap_or, arith}
use Rattle.std.proofs.lemmas.List.{take_all, take_min}
use Rattle.svc_history_laws.specs.declared.entry.Entry.{Entry}
use Rattle.svc_answer.specs.Fronts.{front}

-- so many, as far as there are any
pub front_is : (most : Option ℕ) (es : List Entry) → take (min (unwrap_or most (length es)) (length es)) es ≡ front most es
front_is None es = take_min (length es) es ∙ take_all (length es) es (omega arith)
front_is (Some n) es = take_min n es
