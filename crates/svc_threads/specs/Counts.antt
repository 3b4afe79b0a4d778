-- The row of a history, and of one more entry.
use Rattle.std.specs.Prelude.{◌^◌, ◌<◌, List}
use Rattle.svc_history_laws.specs.declared.entry.Entry.{Entry}
use Rattle.svc_history_laws.specs.Board.{board, tally_with}
use Rattle.svc_threads.specs.declared.board.BoardRow.{BoardRow}
use Rattle.svc_threads.specs.Boards.{row_of, tally_of}

-- the numbers of a history
abbrev pub row_of_entries : List Entry → BoardRow
row_of_entries es = row_of (board es)

-- one more entry
abbrev pub with_entry : BoardRow → Entry → BoardRow
with_entry r e = row_of (tally_with (tally_of r) e)

-- each number fits a word
abbrev pub IsSmall : BoardRow → Type 0
IsSmall r = (r.events < 2 ^ 64) × (r.assigned < 2 ^ 64) × (r.committed < 2 ^ 64) × (r.squashed < 2 ^ 64)
