-- What is written is read again.
use Rattle.std.proofs.Common.{◌≡◌, ◌∷◌, ◌++◌, ◌<◌, ◌≤◌, ◌^◌, ◌∙◌, [], ℕ, suc, zero, get_or, length, List, Option, Some, None, refl, sym, ap, subst, map, arith}
use Rattle.std.specs.Prelude.{IfSome, flat_map}
use Rattle.std.specs.List.{AllByRecursion}
use Rattle.csv.specs.Machine.{next_record, Read}
use Rattle.csv.specs.Reading.{Reached, default_config, strip_bom}
use Rattle.csv.specs.declared.parser.State.{State}
use Rattle.csv.specs.declared.parser.State.TheVariants as st
use Rattle.csv.proofs.RoundTrip.{read-write-many}
use Rattle.svc_history_laws.specs.declared.entry.Entry.{Entry}
use Rattle.svc_base.specs.declared.ids.UnitId.{UnitId}
use Rattle.svc_report.specs.Faults.{IsStreamFault}
use Rattle.svc_report.specs.Fields.{kind_word, unit_text}
use Rattle.svc_record_limit.specs.Limit.{readable, readable_from}
use Rattle.svc_report.specs.Lines.{joined, line}
use Rattle.svc_report.specs.Records.{FirstOther, IsBadHeader, IsText}
use Rattle.svc_report.specs.Trace.{FirstBad, HasRow, IsBadEntry, IsReadFault, columns, header, row_of, text_of, trace_records}
use Rattle.svc_report.specs.declared.error.ReportError.{ReportError}
use Rattle.svc_report.specs.declared.error.ReportError.TheVariants as fault
use Rattle.std.proofs.lemmas.List.{append-nil}
use Rattle.std.proofs.Common.{inl, inr, Result, Ok, Err}
use Rattle.std.specs.Prelude.{IfOk, IfErr, MatchResult, Vec}
use Rattle.std.specs.declared.alloc.Global.{Global}
use Rattle.svc_report.proofs.PlainLines.{row_of_entry}
use Rattle.svc_report.proofs.SameColumns.{columns_same}
use Rattle.svc_report.proofs.Short.{trace_short}
use Rattle.svc_report.proofs.Whole.{IsShort, reads_record}
use Rattle.std.proofs.Common.{zero-le}

-- the bytes read as these records, one after the other
abbrev pub ReadsAs : List (List (List ℕ)) → List ℕ → Type 0
ReadsAs [] xs = xs ≡ []
ReadsAs (r ∷ rs) xs = (rest : List ℕ) × (next_record default_config st.StartRecord [] [] xs ≡ Some (r, st.StartRecord, rest)) × ReadsAs rs rest

byte : (most : ℕ) → most ≤ 255 → (n : Option ℕ) → IfSome n (λ x. x ≤ most) → IfSome n (λ x. x < 2 ^ 8)
byte most low None h = tt
byte most low (Some n) h = omega arith

unit_byte : (n : Option UnitId) → IfSome n (λ u. u.0 ≤ 255) → IfSome n (λ u. u.0 < 2 ^ 8)
unit_byte None h = tt
unit_byte (Some u) h = omega arith

row_read : (e : Entry) → HasRow e → (tail : List ℕ) → next_record default_config st.StartRecord [] [] (row_of e ++ tail) ≡ Some (columns e, st.StartRecord, tail)
unfolding columns
row_read e p tail =
    let text = row_of_entry e (omega (arith, p.unit)) p.arg (byte 63 (omega arith) e.local p.local) p.addr p.word (unit_byte e.from p.from) p.first p.squashed in
    subst (λ (t : List ℕ). next_record default_config st.StartRecord [] [] (t ++ tail) ≡ Some (columns e, st.StartRecord, tail)) text
    (read-write-many (kind_word e.kind) (unit_text e.unit) _ tail)

header_read : (tail : List ℕ) → next_record default_config st.StartRecord [] [] (line header ++ tail) ≡ Some (header, st.StartRecord, tail)
unfolding next_record joined
header_read tail = refl

entries_read : (h : List Entry) → AllByRecursion HasRow h → ReadsAs (map columns h) (flat_map row_of h)
entries_read [] all = refl
entries_read (e ∷ es) all = (flat_map row_of es, row_read e all.0 (flat_map row_of es), entries_read es all.1)

text_read : (h : List Entry) → AllByRecursion HasRow h → ReadsAs (trace_records h) (strip_bom (text_of h))
unfolding strip_bom joined
text_read h all = (flat_map row_of h, header_read (flat_map row_of h), entries_read h all)

pub all_read : (rows : List (List (List ℕ))) (xs : List ℕ) → AllByRecursion IsShort rows → ReadsAs rows xs → readable_from st.StartRecord 0 xs ≡ xs
unfolding readable_from
all_read [] xs short r = rw r refl
all_read (f ∷ rows) xs short r =
    let (rest, first, others) = r in
    reads_record st.StartRecord 0 [] [] xs (f, st.StartRecord, rest) tt zero-le short.0 first (all_read rows rest short.1 others)

-- what is read of a history's text is the same
text_readable : (h : List Entry) → AllByRecursion HasRow h → ReadsAs (trace_records h) (readable (text_of h))
text_readable h all =
    let read = text_read h all in
    subst (λ (t : List ℕ). ReadsAs (trace_records h) t) (sym (all_read (trace_records h) (strip_bom (text_of h)) (trace_short h all) read)) read

-- records that were taken from the front are the first ones, and the others follow
pub unique : (rows rs : List (List (List ℕ))) (xs ys : List ℕ) (s : State) → ReadsAs rows xs → Reached default_config st.StartRecord xs rs s ys
    → (s ≡ st.StartRecord) × (more : List (List (List ℕ))) × (rows ≡ rs ++ more) × ReadsAs more ys
unfolding Reached next_record
unique rows [] xs ys s h r = (sym r.0, rows, refl, subst (λ (t : List ℕ). ReadsAs rows t) r.1 h)
unique [] (q ∷ qs) xs ys s h r = let none = rw h at r.1 in cc none
unique (a ∷ rows) (q ∷ qs) xs ys s h r =
    let (rest, first, others) = h in
    let (p, taken, same, goes) = r in
    let both : p ≡ (a, st.StartRecord, rest) = cc (first, taken) in
    let next = rw both at goes in
    let (end, more, split, after) = unique rows qs rest ys s others next in
    let head : a ≡ q = sym (same ∙ ap (λ (z : Read). z.0) both) in
    (end, more, ap (λ (z : List (List ℕ)). z ∷ rows) head ∙ ap (λ (z : List (List (List ℕ))). q ∷ z) split, after)

pub no_more : (more : List (List (List ℕ))) (ys : List ℕ) (s : State) → s ≡ st.StartRecord → ReadsAs more ys → next_record default_config s [] [] ys ≡ None → more ≡ []
no_more [] ys s start after none = refl
no_more (r ∷ rs) ys s start after none = let h = rw start at none in cc (h, after.1)

same_entries : (h es : List Entry) → AllByRecursion HasRow h → AllByRecursion HasRow es → map columns h ≡ map columns es → es ≡ h
same_entries [] [] p q e = refl
same_entries [] (f ∷ fs) p q e = cc e
same_entries (x ∷ xs) [] p q e = cc e
same_entries (x ∷ xs) (f ∷ fs) p q e =
    let head : columns f ≡ columns x = cc e in
    let tail : map columns xs ≡ map columns fs = cc e in
    ap (λ (z : Entry). z ∷ fs) (columns_same f x q.0 p.0 head) ∙ ap (λ (z : List Entry). x ∷ z) (same_entries xs fs p.1 q.1 tail)

-- the entries of a history's text are the history
pub read_back : (h es : List Entry) → AllByRecursion HasRow h → AllByRecursion HasRow es → IsText (text_of h) (trace_records es) → es ≡ h
read_back h es p q text =
    let (s, ys, reached, none) = text in
    let (start, more, split, after) = unique (trace_records h) (trace_records es) (strip_bom (text_of h)) ys s (text_read h p) reached in
    let end = no_more more ys s start after none in
    let whole : header ∷ map columns h ≡ header ∷ map columns es = split ∙ ap (λ (m : List (List (List ℕ))). trace_records es ++ m) end ∙ append-nil (trace_records es) in
    same_entries h es p q (cc whole)

pub not_other : (names : List (List ℕ)) (c : ℕ) → FirstOther names names c → ⊥
unfolding FirstOther
not_other names zero bad = bad refl
not_other names (suc k) bad = bad.2 refl

not_bad : (e : Entry) (f : List (List ℕ)) (c : ℕ) → HasRow e → f ≡ columns e → FirstBad f c → ⊥
unfolding FirstBad columns
not_bad e f zero p same bad = bad (ap length same)
not_bad e f (suc k) p same bad = bad.2 e p (ap (λ (x : List (List ℕ)). get_or x k []) same)

good_header : (h : List Entry) (row column : ℕ) → AllByRecursion HasRow h → IsBadHeader (text_of h) header row column → ⊥
good_header h row column p (at, inl bad) =
    let (s, ys, reached, none) = bad.0 in
    let (start, more, split, after) = unique (trace_records h) [] (readable (text_of h)) ys s (text_readable h p) reached in
    let end = no_more more ys s start after none in
    cc (split, end)
good_header h row column p (at, inr bad) =
    let (fields, begins, other) = bad in
    let (s, ys, reached) = begins in
    let (start, more, split, after) = unique (trace_records h) (fields ∷ []) (readable (text_of h)) ys s (text_readable h p) reached in
    let same : fields ≡ header = cc split in
    not_other header column (subst (λ (f : List (List ℕ)). FirstOther f header column) same other)

member : (h : List Entry) (front : List (List (List ℕ))) (f : List (List ℕ)) (more : List (List (List ℕ))) → AllByRecursion HasRow h → map columns h ≡ (front ++ (f ∷ [])) ++ more
    → (e : Entry) × HasRow e × (f ≡ columns e)
member [] [] f more p e = cc e
member [] (x ∷ xs) f more p e = cc e
member (e ∷ es) [] f more p h = (e, p.0, cc h)
member (e ∷ es) (x ∷ xs) f more p h = let tail : map columns es ≡ (xs ++ (f ∷ [])) ++ more = cc h in member es xs f more p.1 tail

good_entries : (h : List Entry) (row column : ℕ) → AllByRecursion HasRow h → IsBadEntry (text_of h) row column → ⊥
good_entries h row column p bad =
    let (es, all, at, fields, begins, first) = bad in
    let (s, ys, reached) = begins in
    let (start, more, split, after) = unique (trace_records h) (trace_records es ++ (fields ∷ [])) (readable (text_of h)) ys s (text_readable h p) reached in
    let tail : map columns h ≡ (map columns es ++ (fields ∷ [])) ++ more = cc split in
    let (e, range, same) = member h (map columns es) fields more p tail in
    not_bad e fields column range same first

-- reading a history's text fails for memory or the reader alone
pub fails_rarely : (h : List Entry) (e : ReportError) → AllByRecursion HasRow h → IsReadFault (Some (text_of h)) e → IsStreamFault e
fails_rarely h fault.Memory p f = tt
fails_rarely h fault.Read p f = tt
fails_rarely h fault.Write p f = f
fails_rarely h (fault.Row row column) p (inl bad) = good_header h row column p bad
fails_rarely h (fault.Row row column) p (inr bad) = good_entries h row column p bad

pub reads_back : (h : List Entry) (known : Option (List ℕ)) (r : Result (Vec Entry Global) ReportError) → AllByRecursion HasRow h → known ≡ Some (text_of h)
    → IfOk r (λ v. AllByRecursion HasRow v.items × IfSome known (λ text. IsText text (trace_records v.items))) → IfErr r (λ e. IsReadFault known e)
    → MatchResult r (λ v. v.items ≡ h) IsStreamFault
reads_back h known (Ok v) p k ok err = let good = rw k at ok in read_back h v.items p good.0 good.1
reads_back h known (Err e) p k ok err = fails_rarely h e p (rw k at err)
