-- What stands beside the marks of a picture.
use Rattle.std.specs.Prelude.{ℕ, ◌+◌, ◌-◌, ◌/◌, Bool, true, false, nat_le, cond, List, [], ◌∷◌, ◌++◌, Option, Some}
use Rattle.std.specs.Prelude.{None, unwrap_or, length, codes, decimal, get_or, set, replicate}
use Rattle.std.specs.List.{concat}
use Rattle.svc_base.specs.declared.ids.WordAddr.{WordAddr}
use Rattle.svc_names.specs.declared.name.Name.{Name}
use Rattle.svc_names.specs.Given.{listed}
use Rattle.svc_marks.specs.declared.marks.Mark.{Mark}
use Rattle.svc_marks.specs.declared.marks.MarkKind.{MarkKind}
use Rattle.svc_marks.specs.declared.marks.MarkKind.TheVariants as mark
use Rattle.svc_sheet.specs.declared.sheet.Sheet.{Sheet}
use Rattle.svc_sheet.specs.declared.sheet.Values.{Values}
use Rattle.svc_sheet.specs.declared.sheet.Values.TheVariants as values
use Rattle.svc_shapes.specs.declared.sheet.TheConstants.{LEFT, TOP}
use Rattle.svc_sheet.specs.Frame.{end_x, end_y, is_wide, mark_x, mark_y, radius}
use Rattle.svc_sheet.specs.Names.{word_label}
use Rattle.svc_shapes.specs.Shapes.{label}

-- ---- values

-- for how many letters there is room before a mark, where the one before it on its lane ends at an edge
abbrev pub letters_before : Sheet → (edge : ℕ) → Mark → ℕ
letters_before s edge m = (mark_x s m - (radius s + 6) - edge) / 8

-- a value, with its word if so many letters have room for both
abbrev pub value_words : Option (List Name) → (letters : ℕ) → Option WordAddr → (value : ℕ) → List ℕ
value_words names letters None value = decimal value
value_words names letters (Some word) value =
    cond (nat_le (length (word_label names word.0) + length (decimal value) + 3) letters)
    (concat (word_label names word.0 ∷ codes " = " ∷ decimal value ∷ []))
    (decimal value)

-- a value stands beside a mark that has room for so many letters
abbrev pub stands : Values → (letters value : ℕ) → Bool
stands values.WithRoom letters value = nat_le (length (decimal value)) letters
stands values.All letters value = true
stands values.Nowhere letters value = false

-- what was loaded, stored or output, before its mark, if it stands there
unfoldable pub value_text : Sheet → (edge : ℕ) → Mark → (value : ℕ) → List ℕ
value_text s edge m value =
    cond (stands s.style.values (letters_before s edge m) value)
    (label (mark_x s m - (radius s + 6)) (mark_y s m + 5) (codes "text-anchor='end'")
    (value_words (listed s.names) (letters_before s edge m) m.entry.addr value)) []

-- ---- what is said of the other marks, where there is much room

-- the task that is committed, at the top of its line
unfoldable pub committed_text : Sheet → Mark → List ℕ
committed_text s m =
    label (mark_x s m - 6) (TOP + 18) (codes "text-anchor='end'")
    (concat (codes "task " ∷ decimal (unwrap_or m.entry.word 0) ∷ codes " is committed" ∷ []))

-- what an arrow says, at its middle
unfoldable pub arrow_label : Sheet → Mark → (words : List ℕ) → List ℕ
arrow_label s m words =
    label ((mark_x s m + end_x s m m.other) / 2 + 12) ((mark_y s m + end_y s m m.other) / 2 + 2)
    (codes "font-style='italic'") words

-- the words of such a mark
abbrev pub sentence_of : Sheet → Mark → MarkKind → List ℕ
sentence_of s m mark.Commit = committed_text s m
sentence_of s m mark.Handed = arrow_label s m (codes "the version goes to a reader")
sentence_of s m mark.Squash = arrow_label s m (codes "read too early")
sentence_of s m _ = []

-- where there is room for them
abbrev pub sentence : Sheet → Mark → MarkKind → List ℕ
sentence s m kind = cond (is_wide s) (sentence_of s m kind) []

-- ---- all of them

-- the words of a mark of a kind
abbrev pub words_of : Sheet → (edge : ℕ) → Mark → MarkKind → List ℕ
words_of s edge m mark.Load = value_text s edge m (unwrap_or m.entry.word 0)
words_of s edge m mark.Store = value_text s edge m (unwrap_or m.entry.word 0)
words_of s edge m mark.PutOut = value_text s edge m (unwrap_or m.entry.word 0)
words_of s edge m kind = sentence s m kind

-- where the last mark of each lane ends, after this one
abbrev pub edges_after : Sheet → Mark → (edges : List ℕ) → List ℕ
edges_after s m edges = set edges m.entry.unit.0 (mark_x s m + radius s)

-- those of marks, given where the last mark of each lane before them ends
unfoldable pub words_from : Sheet → (edges : List ℕ) → List Mark → List ℕ
words_from s edges [] = []
words_from s edges (m ∷ ms) =
    words_of s (get_or edges m.entry.unit.0 0) m m.kind ++ words_from s (edges_after s m edges) ms

-- those of all marks
abbrev pub values_text : Sheet → List Mark → List ℕ
values_text s ms = words_from s (replicate 256 LEFT) ms
