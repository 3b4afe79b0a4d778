-- A script that is written is read again.
use Rattle.std.proofs.Common.{◌≡◌, ◌∷◌, ◌++◌, ◌∙◌, [], ℕ, suc, zero, get_or, length, List, Option, Some, inl, inr, Result, Ok, Err, refl, sym, ap, subst, map, take, arith}
use Rattle.std.specs.Prelude.{IfOk, IfErr, MatchResult, Vec, flat_map}
use Rattle.std.specs.List.{AllByRecursion}
use Rattle.std.specs.declared.alloc.Global.{Global}
use Rattle.std.proofs.lemmas.Bool.{ltb-true}
use Rattle.std.proofs.lemmas.List.{append-nil}
use Rattle.std.proofs.lemmas.Option.{same_Some}
use Rattle.csv.specs.Machine.{next_record}
use Rattle.csv.specs.Reading.{default_config, strip_bom}
use Rattle.csv.specs.declared.parser.State.TheVariants as st
use Rattle.csv.proofs.RoundTrip.{read-write-many}
use Rattle.std.specs.Prelude.{IfSome}
use Rattle.svc_record_limit.specs.Limit.{most_bytes, readable}
use Rattle.svc_report.specs.Faults.{IsStreamFault}
use Rattle.svc_report.specs.Fields.{unit_text}
use Rattle.svc_report.specs.Lines.{joined, line}
use Rattle.svc_report.specs.Records.{FirstOther, IsBadHeader, IsText}
use Rattle.svc_report.specs.Rows.{IsBadRow}
use Rattle.svc_report.specs.declared.error.ReportError.{ReportError}
use Rattle.svc_report.specs.declared.error.ReportError.TheVariants as fault
use Rattle.svc_report.proofs.RoundTrip.{ReadsAs, all_read, no_more, not_other, unique}
use Rattle.svc_report.proofs.SameColumns.{number_same, unit_one, wide}
use Rattle.svc_report.proofs.Short.{all_short}
use Rattle.svc_report.proofs.Whole.{IsShort, weight}
use Rattle.svc_script.specs.Script.{FirstBadStep, HasStepRow, IsScriptFault, arg_of, kind_with, script_header, script_records, script_text, step_columns, step_row, word_of, word_text}
use Rattle.svc_script.specs.declared.script.Step.{Step}
use Rattle.svc_script.specs.declared.script.StepKind.{StepKind}
use Rattle.svc_script.proofs.PlainSteps.{row_of_step}
use Rattle.svc_script.proofs.ShortSteps.{short_step}
use Rattle.svc_script.proofs.Steps.{kind_found, word_same}

row_read : (s : Step) → HasStepRow s → (tail : List ℕ) → next_record default_config st.StartRecord [] [] (step_row s ++ tail) ≡ Some (step_columns s, st.StartRecord, tail)
unfolding step_columns
row_read s p tail =
    subst (λ (t : List ℕ). next_record default_config st.StartRecord [] [] (t ++ tail) ≡ Some (step_columns s, st.StartRecord, tail)) (row_of_step s (omega (arith, p.unit)) p.arg)
    (read-write-many (word_text (word_of s.kind)) (unit_text s.unit) _ tail)

header_read : (tail : List ℕ) → next_record default_config st.StartRecord [] [] (line script_header ++ tail) ≡ Some (script_header, st.StartRecord, tail)
unfolding next_record joined
header_read tail = refl

steps_read : (steps : List Step) → AllByRecursion HasStepRow steps → ReadsAs (map step_columns steps) (flat_map step_row steps)
steps_read [] all = refl
steps_read (s ∷ steps) all = (flat_map step_row steps, row_read s all.0 (flat_map step_row steps), steps_read steps all.1)

text_read : (steps : List Step) → AllByRecursion HasStepRow steps → ReadsAs (script_records steps) (strip_bom (script_text steps))
unfolding strip_bom joined
text_read steps all = (flat_map step_row steps, header_read (flat_map step_row steps), steps_read steps all)

script_short : (steps : List Step) → AllByRecursion HasStepRow steps → AllByRecursion IsShort (script_records steps)
script_short steps all = (ltb-true (weight script_header) most_bytes refl, all_short step_columns HasStepRow short_step steps all)

text_readable : (steps : List Step) → AllByRecursion HasStepRow steps → ReadsAs (script_records steps) (readable (script_text steps))
text_readable steps all =
    let read = text_read steps all in
    subst (λ (t : List ℕ). ReadsAs (script_records steps) t) (sym (all_read (script_records steps) (strip_bom (script_text steps)) (script_short steps all) read)) read

column : (s t : Step) (k : ℕ) → step_columns s ≡ step_columns t → get_or (step_columns s) k [] ≡ get_or (step_columns t) k []
column s t k h = ap (λ (fs : List (List ℕ)). get_or fs k []) h

same_kind : (a b : StepKind) → word_of a ≡ word_of b → arg_of a ≡ arg_of b → a ≡ b
same_kind a b words args = same_Some a b (sym (kind_found a) ∙ (ap (λ w. kind_with w (arg_of a)) words ∙ (ap (kind_with (word_of b)) args ∙ kind_found b)))

same_step : (s t : Step) → HasStepRow s → HasStepRow t → step_columns s ≡ step_columns t → s ≡ t
unfolding step_columns
same_step s t p q h =
    let words = word_same (word_of s.kind) (word_of t.kind) (column s t 0 h) in
    let units = unit_one s.unit t.unit (omega (arith, p.unit)) (omega (arith, q.unit)) (column s t 1 h) in
    let args = number_same (arg_of s.kind) (arg_of t.kind) (wide (arg_of s.kind) p.arg) (wide (arg_of t.kind) q.arg) (column s t 2 h) in
    let kinds = same_kind s.kind t.kind words args in
    λ i. record { unit = units i; kind = kinds i }

same_steps : (xs ys : List Step) → AllByRecursion HasStepRow xs → AllByRecursion HasStepRow ys → map step_columns xs ≡ map step_columns ys → ys ≡ xs
same_steps [] [] p q e = refl
same_steps [] (y ∷ ys) p q e = cc e
same_steps (x ∷ xs) [] p q e = cc e
same_steps (x ∷ xs) (y ∷ ys) p q e =
    let head : step_columns y ≡ step_columns x = cc e in
    let tail : map step_columns xs ≡ map step_columns ys = cc e in
    ap (λ (z : Step). z ∷ ys) (same_step y x q.0 p.0 head) ∙ ap (λ (z : List Step). x ∷ z) (same_steps xs ys p.1 q.1 tail)

read_back : (steps found : List Step) → AllByRecursion HasStepRow steps → AllByRecursion HasStepRow found → IsText (script_text steps) (script_records found) → found ≡ steps
read_back steps found p q text =
    let (s, ys, reached, none) = text in
    let (start, more, split, after) = unique (script_records steps) (script_records found) (strip_bom (script_text steps)) ys s (text_read steps p) reached in
    let end = no_more more ys s start after none in
    let whole : script_header ∷ map step_columns steps ≡ script_header ∷ map step_columns found =
    split ∙ ap (λ (m : List (List (List ℕ))). script_records found ++ m) end ∙ append-nil (script_records found) in
    same_steps steps found p q (cc whole)

not_bad : (s : Step) (f : List (List ℕ)) (c : ℕ) → HasStepRow s → f ≡ step_columns s → FirstBadStep f c → ⊥
unfolding FirstBadStep step_columns
not_bad s f zero p same bad = bad (ap length same)
not_bad s f (suc k) p same bad = bad.2 s p (ap (λ (x : List (List ℕ)). take (suc k) x) same)

good_header : (steps : List Step) (row column : ℕ) → AllByRecursion HasStepRow steps → IsBadHeader (script_text steps) script_header row column → ⊥
good_header steps row column p (at, inl bad) =
    let (s, ys, reached, none) = bad.0 in
    let (start, more, split, after) = unique (script_records steps) [] (readable (script_text steps)) ys s (text_readable steps p) reached in
    let end = no_more more ys s start after none in
    cc (split, end)
good_header steps row column p (at, inr bad) =
    let (fields, begins, other) = bad in
    let (s, ys, reached) = begins in
    let (start, more, split, after) = unique (script_records steps) (fields ∷ []) (readable (script_text steps)) ys s (text_readable steps p) reached in
    let same : fields ≡ script_header = cc split in
    not_other script_header column (subst (λ (f : List (List ℕ)). FirstOther f script_header column) same other)

member : (steps : List Step) (front : List (List (List ℕ))) (f : List (List ℕ)) (more : List (List (List ℕ))) → AllByRecursion HasStepRow steps → map step_columns steps ≡ (front ++ (f ∷ [])) ++ more
    → (s : Step) × HasStepRow s × (f ≡ step_columns s)
member [] [] f more p e = cc e
member [] (x ∷ xs) f more p e = cc e
member (s ∷ steps) [] f more p h = (s, p.0, cc h)
member (s ∷ steps) (x ∷ xs) f more p h = let tail : map step_columns steps ≡ (xs ++ (f ∷ [])) ++ more = cc h in member steps xs f more p.1 tail

good_steps : (steps : List Step) (row column : ℕ) → AllByRecursion HasStepRow steps → IsBadRow script_header step_columns HasStepRow FirstBadStep (script_text steps) row column → ⊥
good_steps steps row column p bad =
    let (found, all, at, fields, begins, first) = bad in
    let (s, ys, reached) = begins in
    let (start, more, split, after) = unique (script_records steps) (script_records found ++ (fields ∷ [])) (readable (script_text steps)) ys s (text_readable steps p) reached in
    let tail : map step_columns steps ≡ (map step_columns found ++ (fields ∷ [])) ++ more = cc split in
    let (step, range, same) = member steps (map step_columns found) fields more p tail in
    not_bad step fields column range same first

fails_rarely : (steps : List Step) (e : ReportError) → AllByRecursion HasStepRow steps → IsScriptFault (Some (script_text steps)) e → IsStreamFault e
fails_rarely steps fault.Memory p f = tt
fails_rarely steps fault.Read p f = tt
fails_rarely steps fault.Write p f = f
fails_rarely steps (fault.Row row column) p (inl bad) = good_header steps row column p bad
fails_rarely steps (fault.Row row column) p (inr bad) = good_steps steps row column p bad

-- reading a script's text fails for memory or the reader alone, and gives the script's steps
pub reads_back : (steps : List Step) (known : Option (List ℕ)) (r : Result (Vec Step Global) ReportError) → AllByRecursion HasStepRow steps → known ≡ Some (script_text steps)
    → IfOk r (λ v. AllByRecursion HasStepRow v.items × IfSome known (λ text. IsText text (script_records v.items))) → IfErr r (λ e. IsScriptFault known e)
    → MatchResult r (λ v. v.items ≡ steps) IsStreamFault
reads_back steps known (Ok v) p k ok err = let good = rw k at ok in read_back steps v.items p good.0 good.1
reads_back steps known (Err e) p k ok err = fails_rarely steps e p (rw k at err)
