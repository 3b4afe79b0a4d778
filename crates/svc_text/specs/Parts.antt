-- The parts of a text.
use Rattle.std.specs.Prelude.{ℕ, List, [], Option, Some, None, decimal}
use Rattle.svc_text.specs.declared.parts.Part.{Part}
use Rattle.svc_text.specs.declared.parts.Part.TheVariants.{Text, Number, Maybe}

-- the digits of a number that may be missing
abbrev pub digits_of : Option ℕ → List ℕ
digits_of None = []
digits_of (Some n) = decimal n

abbrev pub part_text : Part → List ℕ
part_text (Text s) = s.now
part_text (Number n) = decimal n
part_text (Maybe n) = digits_of n
