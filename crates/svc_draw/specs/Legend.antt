-- What surrounds the bars and marks of a picture: its legend, its lanes and its axis.
use Rattle.std.specs.Prelude.{ℕ, ◌+◌, ◌-◌, ◌*◌, ◌/◌, ◌%◌, ◌==◌, nat_le, max, Bool, cond, List, [], ◌∷◌, ◌++◌, Some}
use Rattle.std.specs.Prelude.{unwrap_or, flat_map, codes}
use Rattle.std.specs.List.{find, range_with_len}
use Rattle.svc_history_laws.specs.declared.entry.ServedKind.{ServedKind}
use Rattle.svc_history_laws.specs.declared.entry.ServedKind.TheVariants as by
use Rattle.svc_report.specs.Fields.{served_word}
use Rattle.svc_task_runs.specs.declared.task_run.Fate.{Fate}
use Rattle.svc_task_runs.specs.declared.task_run.Fate.TheVariants as fate
use Rattle.svc_sheet.specs.declared.sheet.Sheet.{Sheet}
use Rattle.svc_shapes.specs.declared.sheet.TheConstants.{WIDTH}
use Rattle.svc_sheet.specs.Drawing.{fill_of, name_of}
use Rattle.svc_sheet.specs.Frame.{bottom, height, lane_top, shown, x_of}
use Rattle.svc_sheet.specs.Kinds.{letter_of}
use Rattle.svc_shapes.specs.Shapes.{axis_words, bar_words, bold_sample, border, commit_sample, fate_sample}
use Rattle.svc_shapes.specs.Shapes.{paper_text, hatching, headline, lane, mark_sample, opening, thin_sample, tick}

-- ---- what each picture begins with

-- the hatchings of the fates that have one
unfoldable pub hatchings : List ℕ
hatchings =
    hatching (codes "violation") (codes " patternTransform='rotate(45)'") (codes "#fbd5d0")
    (codes "<rect width='2' height='8' fill='#d9655a'/>")
    ++ hatching (codes "guess") (codes " patternTransform='rotate(135)'") (codes "#fdeac3")
    (codes "<rect width='2' height='8' fill='#c9922e'/>")
    ++ hatching (codes "cancel") [] (codes "#e6ddf3") (codes "<circle cx='4' cy='4' r='2' fill='#7a5bb0'/>")
    ++ hatching (codes "active") [] (codes "#ffffff") (codes "<rect width='8' height='1' y='4' fill='#9ab4d0'/>")

unfoldable pub head : Sheet → List ℕ
head s = opening (bottom s) ++ hatchings ++ paper_text (bottom s)

-- ---- the legend

-- a sample of a fate
unfoldable pub sample_of : (x : ℕ) → Fate → List ℕ
sample_of x f = fate_sample x (fill_of f) (name_of f)

-- one of each
unfoldable pub fate_samples : List ℕ
fate_samples =
    sample_of 90 fate.Committed ++ sample_of 320 fate.Violation ++ sample_of 550 fate.Guess ++ sample_of 780 fate.Cancel
    ++ sample_of 1010 fate.Active

-- samples of marks, with their names after them
unfoldable pub load_sample : (x after : ℕ) → (words : List ℕ) → List ℕ
load_sample x after words = mark_sample x 90 (codes "load") [] after words

-- one of each kind
unfoldable pub mark_samples : List ℕ
mark_samples =
    load_sample 106 130 (codes "load") ++ mark_sample 226 90 (codes "store") [] 250 (codes "store")
    ++ mark_sample 346 90 (codes "output") [] 370 (codes "word put out") ++ commit_sample

-- a sample of each arrow
unfoldable pub arrow_samples : List ℕ
arrow_samples =
    thin_sample ++ load_sample 735 755 (codes "a version goes from its store to a reader") ++ bold_sample
    ++ load_sample 1160 1180 (codes "a store finds a read too early, and squashes its task")

-- a load that a supplier served
unfoldable pub supplier_sample : (x after : ℕ) → ServedKind → List ℕ
supplier_sample x after by = mark_sample x 25 (codes "load") (letter_of (Some by)) after (served_word by)

-- one of each, and a line that was let go
unfoldable pub supplier_samples : List ℕ
supplier_samples =
    supplier_sample 790 810 by.Hit ++ supplier_sample 875 895 by.Reuse ++ supplier_sample 980 1000 by.Version
    ++ supplier_sample 1095 1115 by.Spill ++ supplier_sample 1190 1210 by.Committed
    ++ supplier_sample 1325 1345 by.Memory ++ mark_sample 1445 25 (codes "replace") [] 1465 (codes "line replaced")

unfoldable pub legend : Sheet → (total : ℕ) → List ℕ
legend s total =
    headline (s.window.to - s.window.from) total s.window.from s.units ++ supplier_samples ++ fate_samples
    ++ mark_samples ++ arrow_samples

-- ---- lanes

-- every second lane is darker
abbrev pub lane_fill : (number : ℕ) → List ℕ
lane_fill n = cond (n % 2 == 0) (codes "#f4f5f7") (codes "#fff")

-- down to where the next one begins
abbrev pub height_of : Sheet → (number : ℕ) → ℕ
height_of s n = lane_top s (n + 1) - lane_top s n

unfoldable pub lane_text : Sheet → (number : ℕ) → List ℕ
lane_text s n = lane n (lane_top s n) (height_of s n) (lane_fill n) (lane_top s n + height_of s n / 2 + 5)

unfoldable pub lanes : Sheet → List ℕ
lanes s = flat_map (lane_text s) (range_with_len 0 s.units) ++ border (height s)

-- ---- the axis

-- the steps between two numbers of an axis
abbrev pub steps : List ℕ
steps = 1 ∷ 2 ∷ 5 ∷ 10 ∷ 20 ∷ 50 ∷ 100 ∷ 200 ∷ 500 ∷ 1000 ∷ 2000 ∷ 5000 ∷ 10000 ∷ 20000 ∷ 50000 ∷ 100000 ∷ []

-- with this step, the numbers have room
unfoldable pub has_room : (shown step : ℕ) → Bool
has_room shown step = nat_le (44 * shown) (step * WIDTH)

-- the first such step, where so many entries are shown
unfoldable pub step_for : (shown : ℕ) → ℕ
step_for shown = max (unwrap_or (find (has_room shown) steps) 100000) 1

-- an entry's number, if it is a multiple of the step
unfoldable pub number_at : Sheet → (place : ℕ) → List ℕ
number_at s place = cond (place % step_for (shown s) == 0) (tick (x_of s place) (bottom s) place) []

-- below it, what a bar's words are, if bars have words
abbrev pub names_told : Sheet → List ℕ
names_told s = cond s.style.is_compact [] (bar_words (bottom s))

-- and what the numbers are
unfoldable pub words_below : Sheet → List ℕ
words_below s = names_told s ++ axis_words (bottom s)

unfoldable pub axis : Sheet → List ℕ
axis s =
    flat_map (number_at s) (range_with_len s.window.from (s.window.to - s.window.from)) ++ words_below s
