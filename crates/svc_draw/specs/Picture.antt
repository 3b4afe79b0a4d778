-- The picture of a history: its text, of the bars and marks that are shown.
use Rattle.std.specs.Prelude.{ℕ, List, [], ◌++◌, Option, cond, length, flat_map}
use denote.Ref.{Bor}
use Rattle.svc_history_laws.specs.declared.entry.Entry.{Entry}
use Rattle.svc_marks.specs.declared.bars.Bar.{Bar}
use Rattle.svc_marks.specs.declared.marks.Mark.{Mark}
use Rattle.svc_marks.specs.declared.view.View.{View}
use Rattle.svc_marks.specs.View.{bars_shown, marks_shown, window_shown}
use Rattle.svc_names.specs.declared.names.Names.{Names}
use Rattle.svc_sheet.specs.declared.sheet.Sheet.{Sheet}
use Rattle.svc_sheet.specs.declared.sheet.Style.{Style}
use Rattle.svc_sheet.specs.Drawing.{bar_name, bar_text, layer_text}
use Rattle.svc_sheet.specs.Frame.{bottom, radius}
use Rattle.svc_sheet.specs.Grid.{is_joined}
use Rattle.svc_draw.specs.Joined.{joined_bars, joined_lines, joined_shapes, long_name}
use Rattle.svc_sheet.specs.Kinds.{plain_kinds, supplied_kinds}
use Rattle.svc_draw.specs.Legend.{axis, head, lanes, legend}
use Rattle.svc_sheet.specs.Values.{values_text}
use Rattle.svc_shapes.specs.Shapes.{arrow_heads, closing, joined_words, parts_close, parts_open, rim_close, rim_open}

-- what is made once, and used where it stands: the heads of arrows and the kinds of marks
unfoldable pub parts : (size : ℕ) → List ℕ
parts size = parts_open ++ arrow_heads size ++ plain_kinds size ++ supplied_kinds size ++ parts_close

-- what lies below: these, the legend and the lanes
unfoldable pub surroundings : Sheet → (total : ℕ) → List ℕ
surroundings s total = head s ++ parts (radius s) ++ legend s total ++ lanes s

-- the bars, and on them the marks, layer by layer
unfoldable pub single_things : Sheet → List Bar → List Mark → List ℕ
single_things s bs ms = flat_map (bar_text s) bs ++ layer_text s 0 ms ++ layer_text s 1 ms ++ layer_text s 2 ms

-- those of many entries, joined
unfoldable pub joined_things : Sheet → List Bar → List Mark → List ℕ
joined_things s bs ms = joined_bars s bs ++ joined_lines s ms ++ joined_shapes s ms

unfoldable pub things : Sheet → List Bar → List Mark → List ℕ
things s bs ms = cond (is_joined s) (joined_things s bs ms) (single_things s bs ms)

-- and on these the words
unfoldable pub single_words : Sheet → List Bar → List Mark → List ℕ
single_words s bs ms = rim_open ++ values_text s ms ++ flat_map (bar_name s) bs ++ rim_close

unfoldable pub joined_things_words : Sheet → List Bar → List ℕ
joined_things_words s bs = rim_open ++ flat_map (long_name s) bs ++ rim_close

abbrev pub words_on : Sheet → List Bar → List Mark → List ℕ
words_on s bs ms = cond (is_joined s) (joined_things_words s bs) (single_words s bs ms)

-- on a compact picture there are none
abbrev pub words : Sheet → List Bar → List Mark → List ℕ
words s bs ms = cond s.style.is_compact [] (words_on s bs ms)

-- what is said of things that are joined
abbrev pub joined_note : Sheet → List ℕ
joined_note s = cond (is_joined s) (joined_words (bottom s)) []

-- a picture of these bars and marks, of a history of so many entries
unfoldable pub picture_text : Sheet → (total : ℕ) → List Bar → List Mark → List ℕ
picture_text s total bs ms =
    surroundings s total ++ things s bs ms ++ words s bs ms ++ joined_note s ++ axis s ++ closing

-- what is shown of a history, drawn so and told with these names, if any are given, and with the address of the
-- instruction at which each entry asks, if it does
abbrev pub sheet_of : List Entry → (units : ℕ) → View → Style → Option (Bor Names) → Bor (List (Option ℕ)) → Sheet
sheet_of es units view style names asked =
    record { window = window_shown es view; units = units; style = style; names = names; addresses = asked }

-- the picture of that
unfoldable pub picture_of : List Entry → (units : ℕ) → View → Style → Option (Bor Names) → Bor (List (Option ℕ))
    → List ℕ
picture_of es units view style names asked =
    picture_text (sheet_of es units view style names asked) (length es) (bars_shown es view) (marks_shown es view)
