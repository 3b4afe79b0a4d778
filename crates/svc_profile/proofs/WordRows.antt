-- The rows of a table of counts are those of the words that entries name.
use Rattle.std.proofs.Common.{◌≡◌, ◌∙◌, ◌+◌, ◌<◌, ◌≤◌, ◌++◌, ◌∷◌, [], ℕ, zero, suc, List, Bool, true, false, Option, None, Some, cond, refl, ap, ap₂, subst, sym, arith, ne_eqb}
use Rattle.std.specs.Prelude.{◌==◌, ◌||◌, decimal, flat_map, nat_lt}
use Rattle.std.specs.BTreeMap.{BTreeMap, IsOrdered, get}
use Rattle.std.specs.List.{AllByRecursion, filter, list_any, range_with_len}
use Rattle.std.specs.Map.{keys_of}
use Rattle.std.specs.Ordering.{nat_cmp}
use Rattle.svc_history_laws.specs.declared.entry.Entry.{Entry}
use Rattle.svc_profile.specs.Column.{Column}
use Rattle.svc_profile.specs.Column as column
use Rattle.svc_profile.specs.declared.counts.Counts.{Counts}
use Rattle.svc_profile.specs.declared.shares.WordShare.{WordShare}
use Rattle.svc_profile.specs.Counts.{IsTally, all_shares, amount, counts_at, in_column, named_row, told_of}
use Rattle.svc_text.specs.Rows.{row}
use Rattle.svc_profile.specs.Words.{count_in, count_of, counts_told, is_named, word_row, words_end, words_named}
use Rattle.svc_profile.proofs.InColumns.{all_in_column}
use Rattle.svc_profile.proofs.Inside.{all_inside}
use Rattle.svc_profile.proofs.Ordered.{below_all, found, from_zero, row_at, rows_over}

module _ (es : List Entry) (m : BTreeMap ℕ Counts) (is : IsTally (all_shares es) m) where
  -- what the table has of a word
  has : (c : Column) (w : ℕ) → amount c (counts_at m w) ≡ count_of c es w
  has c w = is.counts w c ∙ ap (λ ss. count_in ss w) (all_in_column c es)

  told : (w : ℕ) → told_of (counts_at m w) ≡ counts_told es w
  told w =
      ap₂ (λ (n : ℕ) (l : List ℕ). n ∷ l) (has column.Loads w)
      (ap₂ (λ (n : ℕ) (l : List ℕ). n ∷ l) (has column.Stores w)
      (ap₂ (λ (n : ℕ) (l : List ℕ). n ∷ l) (has column.Versions w)
      (ap₂ (λ (n : ℕ) (l : List ℕ). n ∷ l) (has column.Violations w)
      (ap₂ (λ (n : ℕ) (l : List ℕ). n ∷ l) (has column.Squashed w)
      (ap (λ (n : ℕ). n ∷ []) (has column.Turns w))))))

  -- the row of a word that is in the table or isn't
  shown : (w : ℕ) (o : Option Counts) → get nat_cmp m w ≡ o → row_at named_row w o ≡ cond (is_named es w) (word_row es w) []
  shown w o there =
      by o there
      ∙ ap₂ (λ (n : ℕ) (l : List ℕ). cond (nat_lt 0 n) (row (decimal w) l) []) (has column.Named w) (told w)
    where
      by : (o : Option Counts) → get nat_cmp m w ≡ o → row_at named_row w o ≡ named_row (w, counts_at m w)
      by None e = rw e refl
      by (Some k) e = rw e refl

  -- over all words, and over those that are named
  kept : (a n : ℕ) → flat_map (λ w. row_at named_row w (found named_row m.entries w)) (range_with_len a n) ≡ flat_map (word_row es) (filter (is_named es) (range_with_len a n))
  kept a zero = refl
  kept a (suc n) =
      ap₂ (λ (k l : List ℕ). k ++ l) (shown a (get nat_cmp m a) refl) (kept (a + 1) n)
      ∙ by (is_named es a) (filter (is_named es) (range_with_len (a + 1) n))
    where
      by : (b : Bool) (ws : List ℕ) → cond b (word_row es a) [] ++ flat_map (word_row es) ws ≡ flat_map (word_row es) (cond b (a ∷ ws) ws)
      by true ws = refl
      by false ws = refl

  -- no word lies past the last one that is named
  past : (ss : List WordShare) (end w : ℕ) → AllByRecursion (λ s. s.word < end) (in_column column.Named ss) → end ≤ w → list_any (λ (s : WordShare). s.word == w) ss ≡ false
  past [] end w all le = refl
  past (s ∷ ss) end w all le =
      let below = all.0 in
      let miss : (s.word == w) ≡ false = ne_eqb s.word w (λ e. omega (arith, below, le, e)) in
      ap (λ (b : Bool). b || list_any (λ (s : WordShare). s.word == w) ss) miss ∙ past ss end w all.1 le

  below : (w : ℕ) → words_end es ≤ w → get nat_cmp m w ≡ None
  below w le =
      is.absent w (past (all_shares es) (words_end es) w
      (subst (AllByRecursion (λ s. s.word < words_end es)) (sym (all_in_column column.Named es)) (all_inside column.Named es)) le)

  pub rows : IsOrdered nat_cmp m → flat_map named_row m.entries ≡ flat_map (word_row es) (words_named es)
  rows ordered = rows_over named_row m.entries ordered 0 (words_end es) (words_end es) (omega arith)
      (below_all named_row m.entries (words_end es) below) (from_zero named_row (keys_of m.entries)) ∙ kept 0 (words_end es)
