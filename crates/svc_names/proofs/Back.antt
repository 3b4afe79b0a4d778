-- The text of a table is read back.
use Rattle.std.proofs.Common.{◌≡◌, ◌==◌, ◌∷◌, ◌++◌, ◌∙◌, [], ℕ, zero, suc, List, Option, Some, Result, Ok, Err, true, false, refl, sym, ap, subst, append_assoc, get_or, length, map, arith, inl, inr}
use Rattle.std.specs.Prelude.{IfErr, IfOk, IfSome, MatchResult, codes, decimal, flat_map}
use Rattle.std.specs.Cmp.Lexicographic.{slice_cmp}
use Rattle.std.specs.List.{AllByRecursion}
use Rattle.std.specs.Ordering.{is_lt, nat_cmp, ordering_then}
use Rattle.std.proofs.lemmas.Bool.{ltb-true, ne_eqb}
use Rattle.std.proofs.lemmas.Fmt.{decimal_injective}
use Rattle.std.proofs.lemmas.List.{append-nil}
use Rattle.csv.specs.Machine.{next_record}
use Rattle.csv.specs.Reading.{default_config, strip_bom}
use Rattle.csv.specs.Writing.{default_writer, needs_byte}
use Rattle.csv.specs.Writing as writing
use Rattle.csv.specs.declared.parser.State.TheVariants as st
use Rattle.csv.proofs.RoundTrip.{read-write-many}
use Rattle.svc_tokens.specs.Characters.{is_name}
use Rattle.svc_record_limit.specs.Limit.{most_bytes, readable}
use Rattle.svc_report.specs.declared.error.ReportError.{ReportError}
use Rattle.svc_report.specs.declared.error.ReportError.TheVariants as fault
use Rattle.svc_report.specs.Faults.{IsStreamFault}
use Rattle.svc_report.specs.Lines.{IsPlain, joined, line}
use Rattle.svc_report.specs.Records.{FirstOther, IsBadHeader, IsText}
use Rattle.svc_report.proofs.PlainLines.{plain_decimal, row_is_line}
use Rattle.svc_report.proofs.RoundTrip.{ReadsAs, all_read, no_more, not_other, unique}
use Rattle.svc_report.proofs.Whole.{weight}
use Rattle.svc_names.specs.declared.name.Name.{Name}
use Rattle.svc_names.specs.declared.names.Names.{Names}
use Rattle.svc_names.specs.Made.{name_row, pair_of, pairs_of, table_text}
use Rattle.svc_names.specs.Table.{FirstBad, HasRow, IsBadName, IsNamesFault, IsTable, are_in_order, columns, comes_next, header, is_before, is_name_text, table_records}
use Rattle.svc_names.proofs.NameText.{IsNameByte, name_bytes}
use Rattle.svc_names.proofs.Order.{first_of, second_of}
use Rattle.svc_names.proofs.Read.{all_short}

-- ---- a row is read as its columns

other_byte : (c x : ℕ) → is_name c ≡ true → is_name x ≡ false → (c == x) ≡ false
other_byte c x is is_not = ne_eqb c x (λ same. let never : true ≡ false = sym is ∙ ap is_name same ∙ is_not in cc never)

plain_byte : (c : ℕ) → is_name c ≡ true → needs_byte default_writer c ≡ false
unfolding is_name
plain_byte c h = rw (other_byte c 44 h refl, other_byte c 34 h refl, other_byte c 13 h refl, other_byte c 10 h refl) refl

plain_name : (text : List ℕ) → AllByRecursion IsNameByte text → IsPlain text
plain_name [] h = refl
plain_name (c ∷ text) h = rw (plain_byte c h.0) (plain_name text h.1)

row_line : (text digits : List ℕ) → line (text ∷ digits ∷ []) ≡ text ++ (44 ∷ (digits ++ (10 ∷ [])))
unfolding joined
row_line text digits = append_assoc text (44 ∷ digits) (10 ∷ [])

row_read : (n : Name) → HasRow n → (tail : List ℕ) → next_record default_config st.StartRecord [] [] (name_row n ++ tail) ≡ Some (columns n, st.StartRecord, tail)
row_read n row tail =
    let low = row.small in
    let digits : IsPlain (decimal n.address) = plain_decimal n.address (omega (arith, low)) in
    let written : writing.row_text default_writer (columns n) ≡ name_row n =
    row_is_line n.text.items (decimal n.address) [] (plain_name n.text.items (name_bytes n.text.items row.name)) (digits, tt) ∙ row_line n.text.items (decimal n.address) in
    subst (λ (t : List ℕ). next_record default_config st.StartRecord [] [] (t ++ tail) ≡ Some (columns n, st.StartRecord, tail)) written
    (read-write-many n.text.items (decimal n.address) [] tail)

header_read : (tail : List ℕ) → next_record default_config st.StartRecord [] [] (codes "name,address\n" ++ tail) ≡ Some (header, st.StartRecord, tail)
unfolding next_record
header_read tail = refl

rows_read : (h : List Name) → AllByRecursion HasRow h → ReadsAs (map columns h) (flat_map name_row h)
rows_read [] all = refl
rows_read (n ∷ h) all =
    let rest = flat_map name_row h in
    let first : next_record default_config st.StartRecord [] [] (name_row n ++ rest) ≡ Some (columns n, st.StartRecord, rest) = row_read n all.0 rest in
    (rest, first, rows_read h all.1)

text_read : (h : List Name) → AllByRecursion HasRow h → ReadsAs (table_records h) (strip_bom (table_text h))
unfolding strip_bom
text_read h all = (flat_map name_row h, header_read (flat_map name_row h), rows_read h all)

-- what is read of a table's text is the same
text_readable : (h : List Name) → AllByRecursion HasRow h → ReadsAs (table_records h) (readable (table_text h))
text_readable h all =
    let read = text_read h all in
    subst (λ (t : List ℕ). ReadsAs (table_records h) t)
    (sym (all_read (table_records h) (strip_bom (table_text h)) (ltb-true (weight header) most_bytes refl, all_short h all) read)) read

-- ---- the names that are read

same_pair : (n m : Name) → HasRow n → HasRow m → columns n ≡ columns m → pair_of n ≡ pair_of m
same_pair n m p q e =
    let low = p.small in
    let small = q.small in
    let text : n.text.items ≡ m.text.items = ap (λ (f : List (List ℕ)). get_or f 0 []) e in
    let address : n.address ≡ m.address = decimal_injective n.address m.address (omega (arith, low)) (omega (arith, small)) (ap (λ (f : List (List ℕ)). get_or f 1 []) e) in
    ap (λ (t : List ℕ). (t, n.address)) text ∙ ap (λ (a : ℕ). (m.text.items, a)) address

same_pairs : (h names : List Name) → AllByRecursion HasRow h → AllByRecursion HasRow names → map columns h ≡ map columns names → pairs_of names ≡ pairs_of h
same_pairs [] [] p q e = refl
same_pairs [] (n ∷ names) p q e = cc e
same_pairs (m ∷ h) [] p q e = cc e
same_pairs (m ∷ h) (n ∷ names) p q e =
    let head : columns n ≡ columns m = cc e in
    let tail : map columns h ≡ map columns names = cc e in
    ap (λ (x : List ℕ × ℕ). x ∷ pairs_of names) (same_pair n m q.0 p.0 head) ∙ ap (λ (xs : List (List ℕ × ℕ)). pair_of m ∷ xs) (same_pairs h names p.1 q.1 tail)

read_back : (h names : List Name) → AllByRecursion HasRow h → AllByRecursion HasRow names → IsText (table_text h) (table_records names) → pairs_of names ≡ pairs_of h
read_back h names p q text =
    let (s, ys, reached, none) = text in
    let (start, more, split, after) = unique (table_records h) (table_records names) (strip_bom (table_text h)) ys s (text_read h p) reached in
    let end = no_more more ys s start after none in
    let whole : header ∷ map columns h ≡ header ∷ map columns names =
    split ∙ ap (λ (m : List (List (List ℕ))). table_records names ++ m) end ∙ append-nil (table_records names) in
    same_pairs h names p q (cc whole)

-- ---- no record is bad

good_header : (h : List Name) (row column : ℕ) → AllByRecursion HasRow h → IsBadHeader (table_text h) header row column → ⊥
good_header h row column p (at, inl bad) =
    let (s, ys, reached, none) = bad.0 in
    let (start, more, split, after) = unique (table_records h) [] (readable (table_text h)) ys s (text_readable h p) reached in
    let end = no_more more ys s start after none in
    cc (split, end)
good_header h row column p (at, inr bad) =
    let (fields, begins, other) = bad in
    let (s, ys, reached) = begins in
    let (start, more, split, after) = unique (table_records h) (fields ∷ []) (readable (table_text h)) ys s (text_readable h p) reached in
    let same : fields ≡ header = cc split in
    not_other header column (subst (λ (f : List (List ℕ)). FirstOther f header column) same other)

before_same : (x a n : Name) → HasRow x → HasRow a → columns x ≡ columns a → is_before x n.text.items n.address ≡ is_before a n.text.items n.address
before_same x a n p q e =
    ap (λ (pair : List ℕ × ℕ). is_lt (ordering_then (nat_cmp pair.1 n.address) (slice_cmp nat_cmp pair.0 n.text.items))) (same_pair x a p q e)

-- the record behind the first rows of a table is a name's that comes next
next_row : (h names : List Name) (fields : List (List ℕ)) (more : List (List (List ℕ))) → AllByRecursion HasRow h → AllByRecursion HasRow names → are_in_order h ≡ true
    → map columns h ≡ (map columns names ++ (fields ∷ [])) ++ more
    → (n : Name) × HasRow n × (fields ≡ columns n) × (comes_next names n.text.items n.address ≡ true)
next_row [] [] fields more p q o e = cc e
next_row [] (a ∷ names) fields more p q o e = cc e
next_row (n ∷ h) [] fields more p q o e = (n, p.0, cc e, refl)
next_row (x ∷ []) (a ∷ []) fields more p q o e = cc e
next_row (x ∷ []) (a ∷ b ∷ names) fields more p q o e = cc e
next_row (x ∷ n ∷ h) (a ∷ []) fields more p q o e =
    let head : columns x ≡ columns a = cc e in
    let same : is_before x n.text.items n.address ≡ is_before a n.text.items n.address = before_same x a n p.0 q.0 head in
    (n, p.1.0, cc e, sym same ∙ first_of (is_before x n.text.items n.address) (are_in_order (n ∷ h)) o)
next_row (x ∷ y ∷ h) (a ∷ b ∷ names) fields more p q o e =
    let tail : map columns (y ∷ h) ≡ (map columns (b ∷ names) ++ (fields ∷ [])) ++ more = cc e in
    next_row (y ∷ h) (b ∷ names) fields more p.1 q.1 (second_of (is_before x y.text.items y.address) (are_in_order (y ∷ h)) o) tail

not_bad : (names : List Name) (n : Name) (fields : List (List ℕ)) (c : ℕ) → HasRow n → fields ≡ columns n → comes_next names n.text.items n.address ≡ true → FirstBad names fields c → ⊥
unfolding FirstBad
not_bad names n fields zero row same next bad = bad (ap length same)
not_bad names n fields (suc zero) row same next bad =
    let named : is_name_text (get_or fields 0 []) ≡ true = ap (λ (f : List (List ℕ)). is_name_text (get_or f 0 [])) same ∙ row.name in
    let never : true ≡ false = sym named ∙ bad.1 in
    cc never
not_bad names n fields (suc (suc zero)) row same next bad =
    let text : get_or fields 0 [] ≡ n.text.items = ap (λ (f : List (List ℕ)). get_or f 0 []) same in
    bad.2 n.address (record {
      text_is = same ∙ ap (λ (t : List ℕ). t ∷ decimal n.address ∷ []) (sym text);
      name = ap is_name_text text ∙ row.name;
      small = row.small;
      next = ap (λ (t : List ℕ). comes_next names t n.address) text ∙ next;
    })
not_bad names n fields (suc (suc (suc k))) row same next bad = bad

good_names : (h : List Name) (row column : ℕ) → IsTable h → IsBadName (table_text h) row column → ⊥
good_names h row column table bad =
    let (names, front, at, fields, begins, first) = bad in
    let (s, ys, reached) = begins in
    let (start, more, split, after) = unique (table_records h) (table_records names ++ (fields ∷ [])) (readable (table_text h)) ys s (text_readable h table.rows) reached in
    let tail : map columns h ≡ (map columns names ++ (fields ∷ [])) ++ more = cc split in
    let (n, has, same, next) = next_row h names fields more table.rows front.rows table.order tail in
    not_bad names n fields column has same next first

-- reading a table's text fails for memory or the reader alone
fails_rarely : (h : List Name) (e : ReportError) → IsTable h → IsNamesFault (Some (table_text h)) e → IsStreamFault e
fails_rarely h fault.Memory p f = tt
fails_rarely h fault.Read p f = tt
fails_rarely h fault.Write p f = f
fails_rarely h (fault.Row row column) p (inl bad) = absurd (good_header h row column p.rows bad)
fails_rarely h (fault.Row row column) p (inr bad) = absurd (good_names h row column p bad)

pub reads_back : (h : List Name) (known : Option (List ℕ)) (r : Result Names ReportError) → IsTable h → known ≡ Some (table_text h)
    → IfOk r (λ names. IsTable names.list.items × IfSome known (λ text. IsText text (table_records names.list.items))) → IfErr r (λ e. IsNamesFault known e)
    → MatchResult r (λ names. pairs_of names.list.items ≡ pairs_of h) IsStreamFault
reads_back h known (Ok names) p k ok err = let good = rw k at ok in read_back h names.list.items p.rows good.0.rows good.1
reads_back h known (Err e) p k ok err = fails_rarely h e p (rw k at err)
