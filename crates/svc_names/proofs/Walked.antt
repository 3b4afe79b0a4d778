-- The rows of a text, one byte on.
use Rattle.std.proofs.Common.{◌≡◌, ◌≤◌, ◌<◌, ◌∙◌, ◌+◌, ◌++◌, ◌∷◌, [], ℕ, List, Bool, true, false, ap, sym, drop, get_or, length, append_assoc, add-one, drop-cons}
use Rattle.std.specs.Prelude.{◌==◌, if◌then◌else◌}
use Rattle.std.specs.List.{between}
use Rattle.std.proofs.lemmas.List.{drop_all}
use Rattle.std.proofs.lemmas.List.Edits.{between_more, between_none}
use Rattle.std.proofs.lemmas.Slice.{between_to_end}
use Rattle.svc_names.specs.declared.name.Name.{Name}
use Rattle.svc_names.specs.declared.rows.Rows.{Rows}
use Rattle.svc_names.specs.Rows.{named_row, with_names, with_names_from}

-- what is left of the rows at a place, where a row has begun
abbrev pub left_at : List Name → Rows → (told : List ℕ) → (from at : ℕ) → List ℕ
left_at names rows told from at = with_names_from names rows (between from at told) (drop at told)

pub in_row : (names : List Name) (rows : Rows) (told : List ℕ) (from at : ℕ) → from ≤ at → at < length told → (get_or told at 0 == 10) ≡ false
    → left_at names rows told from at ≡ left_at names rows told from (at + 1)
unfolding with_names_from
in_row names rows told from at early low other =
    let x = get_or told at 0 in
    let row = between from at told in
    let rest = drop (at + 1) told in
    let here : drop at told ≡ x ∷ rest = rw add-one (drop-cons told at 0 low) in
    ap (with_names_from names rows row) here
    ∙ ap (λ (b : Bool). if b then named_row names rows row ++ with_names_from names rows [] rest else with_names_from names rows (row ++ (x ∷ [])) rest) other
    ∙ ap (λ (r : List ℕ). with_names_from names rows r rest) (sym (between_more told from at 0 early low))

pub row_ends : (names : List Name) (rows : Rows) (told : List ℕ) (from at : ℕ) → at < length told → (get_or told at 0 == 10) ≡ true
    → left_at names rows told from at ≡ named_row names rows (between from at told) ++ left_at names rows told (at + 1) (at + 1)
unfolding with_names_from
row_ends names rows told from at low ends =
    let x = get_or told at 0 in
    let row = between from at told in
    let rest = drop (at + 1) told in
    let here : drop at told ≡ x ∷ rest = rw add-one (drop-cons told at 0 low) in
    ap (with_names_from names rows row) here
    ∙ ap (λ (b : Bool). if b then named_row names rows row ++ with_names_from names rows [] rest else with_names_from names rows (row ++ (x ∷ [])) rest) ends
    ∙ ap (λ (r : List ℕ). named_row names rows row ++ with_names_from names rows r rest) (sym (between_none told (at + 1)))

pub all_told : (names : List Name) (rows : Rows) (told : List ℕ) (from at : ℕ) → length told ≤ at → left_at names rows told from at ≡ drop from told
unfolding with_names_from
all_told names rows told from at end =
    ap (with_names_from names rows (between from at told)) (drop_all at told end) ∙ between_to_end told from at end

pub none_told : (names : List Name) (rows : Rows) (told : List ℕ) → left_at names rows told 0 0 ≡ with_names names rows told
none_told names rows told = ap (λ (r : List ℕ). with_names_from names rows r told) (between_none told 0)

-- ---- a text with the rows so far, and what is left

pub after_row : (names : List Name) (rows : Rows) (told : List ℕ) (from at : ℕ) (text more whole : List ℕ) → at < length told → (get_or told at 0 == 10) ≡ true
    → more ≡ text ++ named_row names rows (between from at told) → text ++ left_at names rows told from at ≡ whole
    → more ++ left_at names rows told (at + 1) (at + 1) ≡ whole
after_row names rows told from at text more whole low ends grown so_far =
    let row = named_row names rows (between from at told) in
    let rest = left_at names rows told (at + 1) (at + 1) in
    ap (λ (t : List ℕ). t ++ rest) grown ∙ append_assoc text row rest
    ∙ sym (ap (λ (t : List ℕ). text ++ t) (row_ends names rows told from at low ends)) ∙ so_far

pub within_row : (names : List Name) (rows : Rows) (told : List ℕ) (from at : ℕ) (text whole : List ℕ) → from ≤ at → at < length told → (get_or told at 0 == 10) ≡ false
    → text ++ left_at names rows told from at ≡ whole → text ++ left_at names rows told from (at + 1) ≡ whole
within_row names rows told from at text whole early low other so_far =
    sym (ap (λ (t : List ℕ). text ++ t) (in_row names rows told from at early low other)) ∙ so_far

pub no_more : (names : List Name) (rows : Rows) (told : List ℕ) (from at : ℕ) (text whole : List ℕ) → length told ≤ at
    → text ++ left_at names rows told from at ≡ whole → text ++ drop from told ≡ whole
no_more names rows told from at text whole end so_far = sym (ap (λ (t : List ℕ). text ++ t) (all_told names rows told from at end)) ∙ so_far
