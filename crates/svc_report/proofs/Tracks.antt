-- How far a reader has come in a text.
use Rattle.std.proofs.Common.{◌≡◌, ◌∷◌, ◌++◌, ◌+◌, [], ℕ, List, Option, Some, None, refl, sym, inl, inr, length, true, false}
use Rattle.std.specs.Prelude.{IfSome, option_map}
use Rattle.std.specs.List.{AllByRecursion}
use Rattle.std.proofs.lemmas.List.{map-append}
use Rattle.csv.specs.Reading.{ReadRecord, Reached, default_config, reader_config, reader_state, source_of}
use Rattle.csv.specs.declared.parser.State.TheVariants as st
use Rattle.csv.specs.declared.reader.Reader.{Reader}
use Rattle.csv.proofs.ReadFacts.{rows-end, rows-more}
use Rattle.svc_record_limit.specs.Limit.{readable}
use Rattle.svc_report.specs.Records.{BeginsWith, FirstOther, IsRead}
use Rattle.svc_report.specs.Rows.{IsRowsFault, records_of}
use Rattle.svc_report.specs.declared.error.ReportError.TheVariants as fault

-- the records that a reader took from the known text
abbrev pub Tracks : {R : Type 0} → (R → Option (List ℕ)) → Option (List ℕ) → Reader R → List (List (List ℕ)) → Type 0
Tracks rem known a rows = IfSome known (λ text. (y : List ℕ) × (source_of rem a ≡ Some y) × Reached default_config st.StartRecord (readable text) rows (reader_state a) y)

pub begun : {R : Type 0} (rem : R → Option (List ℕ)) (known : Option (List ℕ)) (a : Reader R) → reader_state a ≡ st.StartRecord → source_of rem a ≡ option_map readable known → Tracks rem known a []
unfolding Reached
begun rem None a state source = tt
begun rem (Some text) a state source = (readable text, source, (sym state, refl))

pub went_on : {R : Type 0} (rem : R → Option (List ℕ)) (known : Option (List ℕ)) (a b : Reader R) (rows : List (List (List ℕ))) (f : List (List ℕ)) → reader_config a ≡ default_config → Tracks rem known a rows
    → ReadRecord rem a b true f → Tracks rem known b (rows ++ (f ∷ []))
went_on rem None a b rows f config h r = tt
went_on rem (Some text) a b rows f config h r = rows-more rem a b f default_config st.StartRecord (readable text) h.0 rows config h.1 h.2 r

pub ended : {R : Type 0} (rem : R → Option (List ℕ)) (known : Option (List ℕ)) (a b : Reader R) (rows : List (List (List ℕ))) (f : List (List ℕ)) → reader_config a ≡ default_config → Tracks rem known a rows
    → ReadRecord rem a b false f → IfSome known (λ text. IsRead text rows)
ended rem None a b rows f config h r = tt
ended rem (Some text) a b rows f config h r = (reader_state a, h.0, h.2, rows-end rem a b f default_config h.0 config h.1 r)

pub begins : {R : Type 0} (rem : R → Option (List ℕ)) (text : List ℕ) (a : Reader R) (rows : List (List (List ℕ))) → Tracks rem (Some text) a rows → BeginsWith text rows
begins rem text a rows h = (reader_state a, h.0, h.2)

-- the text has no record
pub no_header : {A : Type 0} (names : List (List ℕ)) (columns : A → List (List ℕ)) (HasRow : A → Type 0) (FirstBad : List (List ℕ) → ℕ → Type 0) (known : Option (List ℕ))
    → IfSome known (λ text. IsRead text []) → IsRowsFault names columns HasRow FirstBad known (fault.Row 1 0)
no_header names columns HasRow FirstBad None h = tt
no_header names columns HasRow FirstBad (Some text) h = inl (refl, inl (h, refl))

pub other_header : {A R : Type 0} (names : List (List ℕ)) (columns : A → List (List ℕ)) (HasRow : A → Type 0) (FirstBad : List (List ℕ) → ℕ → Type 0) (rem : R → Option (List ℕ)) (known : Option (List ℕ)) (a : Reader R)
    (f : List (List ℕ)) (c : ℕ) → Tracks rem known a (f ∷ []) → FirstOther f names c → IsRowsFault names columns HasRow FirstBad known (fault.Row 1 c)
other_header names columns HasRow FirstBad rem None a f c h other = tt
other_header names columns HasRow FirstBad rem (Some text) a f c h other = inl (refl, inr (f, begins rem text a (f ∷ []) h, other))

pub bad_row : {A R : Type 0} (names : List (List ℕ)) (columns : A → List (List ℕ)) (HasRow : A → Type 0) (FirstBad : List (List ℕ) → ℕ → Type 0) (rem : R → Option (List ℕ)) (known : Option (List ℕ)) (a : Reader R)
    (items : List A) (f : List (List ℕ)) (row c : ℕ) → Tracks rem known a (records_of names columns items ++ (f ∷ [])) → AllByRecursion HasRow items → row ≡ length items + 2 → FirstBad f c
    → IsRowsFault names columns HasRow FirstBad known (fault.Row row c)
bad_row names columns HasRow FirstBad rem None a items f row c h all at bad = tt
bad_row names columns HasRow FirstBad rem (Some text) a items f row c h all at bad = inr (items, all, at, f, begins rem text a (records_of names columns items ++ (f ∷ [])) h, bad)

pub all_more : {A : Type 0} (P : A → Type 0) (xs : List A) (x : A) → AllByRecursion P xs → P x → AllByRecursion P (xs ++ (x ∷ []))
all_more P [] x all p = (p, tt)
all_more P (y ∷ ys) x all p = (all.0, all_more P ys x all.1 p)

pub rows_more : {A : Type 0} (names : List (List ℕ)) (columns : A → List (List ℕ)) (items : List A) (x : A) → records_of names columns items ++ (columns x ∷ []) ≡ records_of names columns (items ++ (x ∷ []))
rows_more names columns items x = rw (map-append columns items (x ∷ [])) refl
