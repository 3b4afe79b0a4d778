-- The bars and marks of a picture, as they are drawn.
use Rattle.std.specs.Prelude.{ℕ, ◌+◌, ◌-◌, ◌/◌, ◌==◌, nat_le, nat_lt, cond, List, [], ◌∷◌, ◌++◌, length, flat_map}
use Rattle.std.specs.Prelude.{Option, None, unwrap_or, codes, decimal}
use Rattle.std.specs.List.{concat, slice_get}
use Rattle.svc_report.specs.Trace.{row_of}
use Rattle.svc_names.specs.declared.name.Name.{Name}
use Rattle.svc_names.specs.Given.{listed, noted_by}
use Rattle.svc_task_runs.specs.declared.task_run.Fate.{Fate}
use Rattle.svc_task_runs.specs.declared.task_run.Fate.TheVariants as fate
use Rattle.svc_task_runs.specs.declared.task_run.TaskRun.{TaskRun}
use Rattle.svc_marks.specs.declared.bars.Bar.{Bar}
use Rattle.svc_marks.specs.declared.marks.Mark.{Mark}
use Rattle.svc_marks.specs.declared.marks.MarkKind.{MarkKind}
use Rattle.svc_marks.specs.declared.marks.MarkKind.TheVariants as mark
use Rattle.svc_sheet.specs.declared.sheet.Sheet.{Sheet}
use Rattle.svc_sheet.specs.Frame.{bar_height, bar_left, bar_top, bar_width, bottom, end_x, end_y, mark_x, mark_y}
use Rattle.svc_sheet.specs.Kinds.{letter_of}
use Rattle.svc_sheet.specs.Names.{address_label, address_line, word_called}
use Rattle.svc_sheet.specs.Sentences.{fate_sentence, sentence_of_kind}
use Rattle.svc_shapes.specs.Shapes.{bar_box, bold_arrow, box_fate, box_title, close, commit_line, label, mark_at}
use Rattle.svc_shapes.specs.Shapes.{thin_arrow, title_open}

-- ---- bars

-- how a fate's bars are filled
abbrev pub fill_of : Fate → List ℕ
fill_of fate.Active = codes "url(#active)"
fill_of fate.Committed = codes "#d3ead0"
fill_of fate.Violation = codes "url(#violation)"
fill_of fate.Guess = codes "url(#guess)"
fill_of fate.Cancel = codes "url(#cancel)"

-- what a fate is called
abbrev pub name_of : Fate → List ℕ
name_of fate.Active = codes "still active"
name_of fate.Committed = codes "committed"
name_of fate.Violation = codes "squashed: read too early"
name_of fate.Guess = codes "squashed: wrong guess"
name_of fate.Cancel = codes "squashed: cancelled"

-- the title of a task's bar: which task it is, and what became of it
unfoldable pub bar_title : Option (List Name) → TaskRun → List ℕ
bar_title names t =
    box_title t.number t.entry ++ noted_by names t.entry ++ box_fate t.first (name_of t.fate) t.turns
    ++ codes "\n" ++ fate_sentence t t.last ++ codes "</title>"

-- a bar, with its title
unfoldable pub bar_text : Sheet → Bar → List ℕ
bar_text s b =
    bar_box (bar_left s b) (bar_top s b.task.unit.0) (bar_width s b) (bar_height s) (fill_of b.task.fate)
    ++ bar_title (listed s.names) b.task ++ close (codes "rect")

-- a task's number and the address where it began, as far as there is room for so many letters
unfoldable pub name_words : (letters number : ℕ) → (address : List ℕ) → List ℕ
name_words letters number address =
    cond (nat_le (length (decimal number) + length address + 8) letters)
    (concat (codes "task " ∷ decimal number ∷ codes " @ " ∷ address ∷ []))
    (cond (nat_le (length (decimal number) + length address + 1) letters)
    (concat (decimal number ∷ codes "@" ∷ address ∷ []))
    (concat (decimal number ∷ [])))

-- for how many letters a bar has room
abbrev pub letters_in : Sheet → Bar → ℕ
letters_in s b = (bar_width s b - 8) / 7

-- these words in the bar, if there is room for any
unfoldable pub bar_name : Sheet → Bar → List ℕ
bar_name s b =
    cond (nat_lt (letters_in s b) (length (decimal b.task.number))) []
    (label (bar_left s b + 4) (bar_top s b.task.unit.0 + 12) (codes "font-size='12'")
    (name_words (letters_in s b) b.task.number (address_label (listed s.names) b.task.entry)))

-- ---- marks

-- the mark of a kind, with the letter of who supplied what it read
abbrev pub mark_shape : Sheet → Mark → MarkKind → List ℕ
mark_shape s m mark.Load = mark_at (mark_x s m) (mark_y s m) (codes "load") (letter_of m.entry.served)
mark_shape s m mark.Store = mark_at (mark_x s m) (mark_y s m) (codes "store") (letter_of m.entry.served)
mark_shape s m mark.PutOut = mark_at (mark_x s m) (mark_y s m) (codes "output") []
mark_shape s m mark.Replace = mark_at (mark_x s m) (mark_y s m) (codes "replace") []
mark_shape s m mark.Commit = commit_line (mark_x s m) (bottom s)
mark_shape s m mark.Handed = thin_arrow (end_x s m m.other) (end_y s m m.other) (mark_x s m) (mark_y s m)
mark_shape s m mark.Squash = bold_arrow (mark_x s m) (mark_y s m) (end_x s m m.other) (end_y s m m.other)

-- the element of that mark
abbrev pub element_of : MarkKind → List ℕ
element_of mark.Commit = codes "path"
element_of mark.Handed = codes "path"
element_of mark.Squash = codes "path"
element_of _ = codes "use"

-- the address of the instruction at which a mark's entry asks, if it does
abbrev pub address_of : Sheet → Mark → Option ℕ
address_of s m = unwrap_or (slice_get s.addresses.now m.place) None

-- the title of a mark: its entry's number, that entry's row of the trace, what that means, the name of its word, and
-- the address of its instruction
unfoldable pub title : Option (List Name) → (address : Option ℕ) → Mark → List ℕ
title names address m =
    title_open m.place ++ row_of m.entry ++ sentence_of_kind m m.kind ++ codes "\n"
    ++ word_called names m.entry.addr ++ address_line names address ++ codes "</title>"

-- a mark, with its title
unfoldable pub mark_text : Sheet → Mark → List ℕ
mark_text s m =
    mark_shape s m m.kind ++ title (listed s.names) (address_of s m) m ++ close (element_of m.kind)

-- which marks lie below which: lines of commits, then arrows, then shapes
abbrev pub layer : MarkKind → ℕ
layer mark.Commit = 0
layer mark.Handed = 1
layer mark.Squash = 1
layer _ = 2

-- the marks of a layer
abbrev pub mark_in : Sheet → (wanted : ℕ) → Mark → List ℕ
mark_in s wanted m = cond (layer m.kind == wanted) (mark_text s m) []

unfoldable pub layer_text : Sheet → (wanted : ℕ) → List Mark → List ℕ
layer_text s wanted ms = flat_map (mark_in s wanted) ms
