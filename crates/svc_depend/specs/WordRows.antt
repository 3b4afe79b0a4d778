-- The rows of words, as what is kept of them tells.
use Rattle.std.specs.Prelude.{ℕ, List, ◌++◌, length, get_or, unwrap_or}
use Rattle.svc_depend.specs.declared.word.Word.{Word}
use Rattle.svc_depend.specs.Words.{untouched}
use Rattle.svc_depend.specs.Tables.{text_over, word_header, word_row_of}

abbrev pub kept_row : List Word → (word : ℕ) → List ℕ
kept_row words word =
    let x = get_or words word untouched in word_row_of word x.readers x.writers (unwrap_or x.nearest 0)

abbrev pub kept_table : List Word → List ℕ
kept_table words = word_header ++ text_over (kept_row words) (length words)
