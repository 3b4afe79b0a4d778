-- What is read of a table of names.
use Rattle.std.proofs.Common.{◌≡◌, ◌∙◌, ◌+◌, ◌≤◌, ◌<◌, ◌^◌, ◌∷◌, ◌++◌, [], ℕ, List, Option, Some, None, true, refl, ap, sym, get_or, length, arith, inl, inr, map}
use Rattle.std.specs.Prelude.{◌&&◌, IfSome, decimal, nat_le, nat_lt}
use Rattle.std.specs.Str.{bytes_eq}
use Rattle.svc_tokens.specs.Characters.{name_at}
use Rattle.svc_names.proofs.Order.{first_of, second_of}
use Rattle.std.specs.List.{AllByRecursion}
use Rattle.std.proofs.lemmas.Bool.{leb-true, ltb-true}
use Rattle.std.proofs.lemmas.Fmt.{decimal_injective, length-decimal-le}
use Rattle.csv.specs.declared.reader.Reader.{Reader}
use Rattle.svc_record_limit.specs.Limit.{most_bytes}
use Rattle.svc_report.specs.Records.{FirstOther, IsRead, IsText}
use Rattle.svc_report.specs.declared.error.ReportError.TheVariants as fault
use Rattle.svc_report.proofs.Tracks.{Tracks, begins}
use Rattle.svc_report.proofs.Whole.{IsShort, weight, whole_text}
use Rattle.svc_names.specs.declared.name.Name.{Name}
use Rattle.svc_names.specs.Table.{FirstBad, HasRow, IsNamesFault, IsNext, IsTable, columns, header, is_name_text, table_records}

pub two_fields : (fields : List (List ℕ)) → length fields ≡ 2 → fields ≡ get_or fields 0 [] ∷ get_or fields 1 [] ∷ []
two_fields (a ∷ b ∷ []) h = refl
two_fields _ h = absurd (omega arith)

-- the address of a record that may come next is its second field's
pub its_address : (names : List Name) (fields : List (List ℕ)) (address other : ℕ) → IsNext names fields address → other < 2 ^ 32 → get_or fields 1 [] ≡ decimal other → address ≡ other
its_address names fields address other next small is =
    let low = next.small in
    decimal_injective address other (omega (arith, low)) (omega (arith, small)) (sym (ap (λ (f : List (List ℕ)). get_or f 1 []) next.text_is) ∙ is)

-- ---- faults

pub no_header : (known : Option (List ℕ)) → IfSome known (λ text. IsRead text []) → IsNamesFault known (fault.Row 1 0)
no_header None h = tt
no_header (Some text) h = inl (refl, inl (h, refl))

pub other_header : {R : Type 0} (rem : R → Option (List ℕ)) (known : Option (List ℕ)) (a : Reader R) (f : List (List ℕ)) (c : ℕ)
    → Tracks rem known a (f ∷ []) → FirstOther f header c → IsNamesFault known (fault.Row 1 c)
other_header rem None a f c h other = tt
other_header rem (Some text) a f c h other = inl (refl, inr (f, begins rem text a (f ∷ []) h, other))

pub bad_name : {R : Type 0} (rem : R → Option (List ℕ)) (known : Option (List ℕ)) (a : Reader R) (names : List Name) (f : List (List ℕ)) (row c : ℕ)
    → Tracks rem known a (table_records names ++ (f ∷ [])) → IsTable names → row ≡ length names + 2 → FirstBad names f c → IsNamesFault known (fault.Row row c)
bad_name rem None a names f row c h table at bad = tt
bad_name rem (Some text) a names f row c h table at bad = inr (names, table, at, f, begins rem text a (table_records names ++ (f ∷ [])) h, bad)

-- ---- a table is read whole

name_size : (text : List ℕ) → is_name_text text ≡ true → length text ≤ 2000
name_size text h =
    let some = nat_lt 0 (length text) in
    let few = nat_le (length text) 2000 in
    leb-true (length text) 2000 (second_of some few (first_of (some && few) (bytes_eq (name_at text) text) h))

short_row : (n : Name) → HasRow n → IsShort (columns n)
short_row n row =
    let low = row.small in
    let digits : length (decimal n.address) ≤ 10 = length-decimal-le 10 n.address (omega arith) (omega (arith, low)) (omega (arith, low)) in
    let size = name_size n.text.items row.name in
    omega (arith, digits, size)

pub all_short : (names : List Name) → AllByRecursion HasRow names → AllByRecursion IsShort (map columns names)
all_short [] all = tt
all_short (n ∷ names) all = (short_row n all.0, all_short names all.1)

pub whole_table : (known : Option (List ℕ)) (names : List Name) → IsTable names → IfSome known (λ text. IsRead text (table_records names))
    → IfSome known (λ text. IsText text (table_records names))
whole_table None names table read = tt
whole_table (Some text) names table read =
    whole_text text (table_records names) (ltb-true (weight header) most_bytes refl, all_short names table.rows) read

-- ---- one name more

-- the columns of a name are the record that came next
pub row_of_next : (names : List Name) (fields : List (List ℕ)) (address : ℕ) (n : Name) → IsNext names fields address → n.text.items ≡ get_or fields 0 [] → n.address ≡ address
    → fields ≡ columns n
row_of_next names fields address n next text at =
    next.text_is ∙ sym (ap (λ (t : List ℕ). t ∷ decimal n.address ∷ []) text ∙ ap (λ (a : ℕ). get_or fields 0 [] ∷ decimal a ∷ []) at)
