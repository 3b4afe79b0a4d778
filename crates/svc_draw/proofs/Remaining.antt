-- The marks and bars that are left to tally.
use Rattle.std.proofs.Common.{◌≡◌, ◌<◌, ◌≤◌, ◌∙◌, ◌+◌, ℕ, List, ap, sym, drop, get_or, length}
use Rattle.std.proofs.lemmas.List.{at_drop_all, at_drop_more}
use Rattle.svc_task_runs.specs.declared.task_run.Fate.{Fate}
use Rattle.svc_marks.specs.declared.bars.Bar.{Bar}
use Rattle.svc_marks.specs.declared.marks.Mark.{Mark}
use Rattle.svc_marks.specs.declared.marks.MarkKind.{MarkKind}
use Rattle.svc_sheet.specs.declared.sheet.Sheet.{Sheet}
use Rattle.svc_draw.specs.declared.tallies.Tally.{Tally}
use Rattle.svc_draw.specs.Tallies.{with_bar, with_bars, with_mark, with_marks}

-- one mark further, and at the end
pub marks_move : (s : Sheet) (kind : MarkKind) (ts after all : List Tally) (ms : List Mark) (i : ℕ) (d : Mark) → i < length ms
    → after ≡ with_mark s kind (get_or ms i d) ts → with_marks s kind ts (drop i ms) ≡ all → with_marks s kind after (drop (i + 1) ms) ≡ all
unfolding with_marks
marks_move s kind ts after all ms i d inside moved known =
    ap (λ (t : List Tally). with_marks s kind t (drop (i + 1) ms)) moved ∙ sym (at_drop_more (with_marks s kind ts) ms i d inside) ∙ known

pub marks_end : (s : Sheet) (kind : MarkKind) (ts all : List Tally) (ms : List Mark) (i : ℕ) → length ms ≤ i
    → with_marks s kind ts (drop i ms) ≡ all → ts ≡ all
unfolding with_marks
marks_end s kind ts all ms i over known = sym (at_drop_all (with_marks s kind ts) ms i over) ∙ known

-- the same of bars
pub bars_move : (s : Sheet) (f : Fate) (ts after all : List Tally) (bs : List Bar) (i : ℕ) (d : Bar) → i < length bs
    → after ≡ with_bar s f (get_or bs i d) ts → with_bars s f ts (drop i bs) ≡ all → with_bars s f after (drop (i + 1) bs) ≡ all
unfolding with_bars
bars_move s f ts after all bs i d inside moved known =
    ap (λ (t : List Tally). with_bars s f t (drop (i + 1) bs)) moved ∙ sym (at_drop_more (with_bars s f ts) bs i d inside) ∙ known

pub bars_end : (s : Sheet) (f : Fate) (ts all : List Tally) (bs : List Bar) (i : ℕ) → length bs ≤ i
    → with_bars s f ts (drop i bs) ≡ all → ts ≡ all
unfolding with_bars
bars_end s f ts all bs i over known = sym (at_drop_all (with_bars s f ts) bs i over) ∙ known
