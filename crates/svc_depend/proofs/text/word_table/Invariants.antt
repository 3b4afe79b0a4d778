use Rattle.std.proofs.Common.{◌≡◌, ◌++◌}
use Rattle.svc_depend.specs.Tables.{text_over, word_header}
use Rattle.svc_depend.specs.WordRows.{kept_row}
use Rattle.svc_depend.proofs.text.word_table.Given as goal

abbrev pub invariant-loop-word : goal.invariant-loop-word
invariant-loop-word l = l.text.items ≡ word_header ++ text_over (kept_row l.words) l.word
