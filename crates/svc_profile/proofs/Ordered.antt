-- Rows of a table whose words stand in order are those over all words, where a word that isn't in the table has none.
use Rattle.std.proofs.Common.{Less, ◌≡◌, ◌∙◌, ◌+◌, ◌<◌, ◌≤◌, ◌++◌, ◌∷◌, ◌⊎◌, inl, inr, [], ℕ, zero, suc, List, Bool, true, false, cond, Option, Some, None, refl, ap, ap₂, sym, arith}
use Rattle.std.specs.Prelude.{flat_map}
use Rattle.std.specs.List.{AllByRecursion, range_with_len}
use Rattle.std.specs.List.Sorted.{IsStrictlySortedBy}
use Rattle.std.specs.Map.{keys_of, lookup}
use Rattle.std.specs.Ordering.{is_eq, nat_cmp}
use Rattle.std.proofs.lemmas.Bool.{cases_eq, cases_lt}
use Rattle.std.proofs.lemmas.Option.{none-some}
use Rattle.std.proofs.lemmas.Map.Entries.{lookup_head, lookup_tail}
use Rattle.std.proofs.lemmas.Map.Keys.{sorted_head, sorted_tail}
use Rattle.svc_profile.proofs.Tallies.{alike, apart}

module _ {X : Type 0} (row : ℕ × X → List ℕ) where
  abbrev pub found : List (ℕ × X) → ℕ → Option X
  found es w = lookup (λ k. is_eq (nat_cmp w k)) es

  abbrev pub row_at : ℕ → Option X → List ℕ
  row_at w None = []
  row_at w (Some x) = row (w, x)

  -- without entries there are no rows
  no_rows : (a n : ℕ) → flat_map (λ w. row_at w (found [] w)) (range_with_len a n) ≡ []
  no_rows a zero = refl
  no_rows a (suc n) = no_rows (a + 1) n

  same_from : (f g : ℕ → List ℕ) (a n : ℕ) → ((w : ℕ) → a ≤ w → f w ≡ g w) → flat_map f (range_with_len a n) ≡ flat_map g (range_with_len a n)
  same_from f g a zero same = refl
  same_from f g a (suc n) same =
      ap₂ (λ (l m : List ℕ). l ++ m) (same a (omega arith)) (same_from f g (a + 1) n (λ w from. same w (omega (arith, from))))

  -- a word below all is not there
  none_below : (es : List (ℕ × X)) (w : ℕ) → AllByRecursion (λ (k : ℕ). w < k) (keys_of es) → found es w ≡ None
  none_below [] w all = refl
  none_below (e ∷ es) w all =
      lookup_tail (λ k. is_eq (nat_cmp w k)) e es (apart w e.0 (λ same. let below = all.0 in omega (arith, same, below))) ∙ none_below es w all.1

  above : (a : ℕ) (ks : List ℕ) → AllByRecursion (λ (k : ℕ). nat_cmp a k ≡ Less) ks → AllByRecursion (λ (k : ℕ). a < k) ks
  above a [] all = tt
  above a (k ∷ ks) all = (let less = all.0 in grind (arith, less), above a ks all.1)

  later : (a b : ℕ) (ks : List ℕ) → a ≤ b → AllByRecursion (λ (k : ℕ). b < k) ks → AllByRecursion (λ (k : ℕ). a < k) ks
  later a b [] le all = tt
  later a b (k ∷ ks) le all = (let below = all.0 in omega (arith, le, below), later a b ks le all.1)

  abbrev pub Below : ℕ → List (ℕ × X) → Type 0
  Below end es = AllByRecursion (λ (k : ℕ). k < end) (keys_of es)

  -- where no word from an end on is found, all lie below it
  pub below_all : (es : List (ℕ × X)) (end : ℕ) → ((w : ℕ) → end ≤ w → found es w ≡ None) → Below end es
  below_all [] end none = tt
  below_all (e ∷ es) end none = (by (cases_lt e.0 end), below_all es end (λ w le. rest (is_eq (nat_cmp w e.0)) e.1 (found es w) (none w le)))
    where
      rest : (b : Bool) (x : X) (o : Option X) → cond b (Some x) o ≡ None → o ≡ None
      rest true x o h = absurd (none-some x (sym h))
      rest false x o h = h

      by : (e.0 < end) ⊎ (end ≤ e.0) → e.0 < end
      by (inl lt) = lt
      by (inr le) = absurd (none-some e.1 (sym (none e.0 le) ∙ lookup_head (λ k. is_eq (nat_cmp e.0 k)) e es (alike e.0 e.0 refl)))

  pub from_zero : (ks : List ℕ) → AllByRecursion (λ (k : ℕ). 0 ≤ k) ks
  from_zero [] = tt
  from_zero (k ∷ ks) = (omega arith, from_zero ks)

  -- from a word on, where no word of the table lies before it
  pub rows_over : (es : List (ℕ × X)) → IsStrictlySortedBy nat_cmp (keys_of es) → (a n end : ℕ) → a + n ≡ end → Below end es
      → AllByRecursion (λ (k : ℕ). a ≤ k) (keys_of es) → flat_map row es ≡ flat_map (λ w. row_at w (found es w)) (range_with_len a n)
  rows_over [] sorted a n end is below from = sym (no_rows a n)
  rows_over (e ∷ es) sorted a zero end is below from = let low = from.0 in let high = below.0 in absurd (omega (arith, is, low, high))
  rows_over (e ∷ es) sorted a (suc n) end is below from =
      by (cases_eq a e.0)
      (λ low. rows_over es (sorted_tail nat_cmp e.0 (keys_of es) sorted) (a + 1) n end (omega (arith, is)) below.1 low)
      (λ low. rows_over (e ∷ es) sorted (a + 1) n end (omega (arith, is)) below low)
    where
      beyond : AllByRecursion (λ (k : ℕ). e.0 < k) (keys_of es)
      beyond = above e.0 (keys_of es) (sorted_head nat_cmp e.0 (keys_of es) sorted)

      rest : (b : ℕ) (ks : List ℕ) → AllByRecursion (λ (k : ℕ). b < k) ks → AllByRecursion (λ (k : ℕ). b + 1 ≤ k) ks
      rest b [] all = tt
      rest b (k ∷ ks) all = (let one = all.0 in omega (arith, one), rest b ks all.1)

      by : (a ≡ e.0) ⊎ (a ≡ e.0 → ⊥)
          → (AllByRecursion (λ (k : ℕ). a + 1 ≤ k) (keys_of es) → flat_map row es ≡ flat_map (λ w. row_at w (found es w)) (range_with_len (a + 1) n))
          → (AllByRecursion (λ (k : ℕ). a + 1 ≤ k) (keys_of (e ∷ es)) → flat_map row (e ∷ es) ≡ flat_map (λ w. row_at w (found (e ∷ es) w)) (range_with_len (a + 1) n))
          → row e ++ flat_map row es ≡ row_at a (found (e ∷ es) a) ++ flat_map (λ w. row_at w (found (e ∷ es) w)) (range_with_len (a + 1) n)
      by (inl same) first others =
          let here : row_at a (found (e ∷ es) a) ≡ row e =
          ap (row_at a) (lookup_head (λ k. is_eq (nat_cmp a k)) e es (alike a e.0 same)) ∙ ap (λ (w : ℕ). row (w, e.1)) same in
          let there : flat_map (λ w. row_at w (found (e ∷ es) w)) (range_with_len (a + 1) n) ≡ flat_map (λ w. row_at w (found es w)) (range_with_len (a + 1) n) =
          same_from (λ w. row_at w (found (e ∷ es) w)) (λ w. row_at w (found es w)) (a + 1) n
          (λ w high. ap (row_at w) (lookup_tail (λ k. is_eq (nat_cmp w k)) e es (apart w e.0 (λ k. omega (arith, k, same, high))))) in
          let all = first (rest a (keys_of es) (later a e.0 (keys_of es) (omega (arith, same)) beyond)) in
          ap₂ (λ (l m : List ℕ). l ++ m) (sym here) (all ∙ sym there)
      by (inr ne) first others =
          let low = from.0 in
          let less : a < e.0 = grind (arith, ne, low) in
          let none : found (e ∷ es) a ≡ None = none_below (e ∷ es) a (less, later a e.0 (keys_of es) (omega (arith, less)) beyond) in
          others (omega (arith, less), rest a (keys_of es) (later a e.0 (keys_of es) (omega (arith, less)) beyond))
          ∙ ap (λ (l : List ℕ). l ++ flat_map (λ w. row_at w (found (e ∷ es) w)) (range_with_len (a + 1) n)) (sym (ap (row_at a) none))
