-- The parts of a line of fields.
use Rattle.std.specs.Prelude.{ℕ, List, ◌++◌, codes}
use Rattle.svc_text.specs.declared.parts.Part.{Part}
use Rattle.svc_text.specs.Parts.{part_text}

-- a field after a comma
abbrev pub after_comma : Part → List ℕ
after_comma field = codes "," ++ part_text field
