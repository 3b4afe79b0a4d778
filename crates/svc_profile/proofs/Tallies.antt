-- A table of what shares count together for each word, with what is counted for a further word.
use Rattle.std.proofs.Common.{◌≡◌, ◌∙◌, ◌+◌, ◌<◌, ◌≤◌, ◌^◌, ◌∷◌, ◌++◌, ◌⊎◌, inl, inr, [], ℕ, List, Bool, true, false, Option, None, Some, IfSome, cond, not, length, get_or, take, drop, refl, ap, sym, subst, arith, eq-eqb, ne_eqb}
use Rattle.std.specs.Prelude.{◌==◌, ◌||◌, flat_map, unwrap_or}
use Rattle.std.specs.BTreeMap.{BTreeMap, get}
use Rattle.std.specs.List.{filter, list_any, sum_by}
use Rattle.std.specs.Ordering.{is_eq, nat_cmp}
use Rattle.std.proofs.lemmas.Bool.{cases_eq}
use Rattle.std.proofs.lemmas.List.{append_assoc, append-nil, map-append, take_all, take_more, take-append-drop}
use Rattle.std.proofs.lemmas.Grind.{flat_map-append}
use Rattle.std.proofs.lemmas.List.Filters.{sum_by-filter_both}
use Rattle.std.proofs.lemmas.List.Folds.{list_any-append}
use Rattle.std.proofs.lemmas.List.Sums.{sum_by-append, sum_by-cons}
use Rattle.svc_base.specs.declared.ids.WordAddr.{WordAddr}
use Rattle.svc_profile.specs.Column.{Column, Share}
use Rattle.svc_profile.specs.declared.counts.Counts.{Counts}
use Rattle.svc_profile.specs.declared.shares.WordShare.{WordShare}
use Rattle.svc_profile.specs.Counts.{Adds, AddsFor, IsTally, amount, counts_at, in_column, no_counts, share_in, word_counted}
use Rattle.svc_profile.specs.Words.{count_in}
use Rattle.svc_profile.proofs.InColumns.{of_none, sum_in_column}
use Rattle.svc_profile.proofs.Unnamed.{count_both}

pub tally_none : (m : BTreeMap ℕ Counts) → m.entries ≡ [] → IsTally [] m
tally_none m none = record { counts = λ w c. rw none (of_none c); absent = λ w h. rw none refl }

-- one share more
count_more : (c : Column) (ss : List WordShare) (x : WordShare) (w : ℕ)
    → count_in (in_column c (ss ++ (x ∷ []))) w ≡ count_in (in_column c ss) w + cond (x.word == w) (amount c x.counts) 0
count_more c ss x w =
    let so_far = in_column c ss in
    ap (λ (l : List Share). count_in l w) (map-append (share_in c) ss (x ∷ []))
    ∙ count_both so_far (share_in c x ∷ []) w
    ∙ ap (λ (n : ℕ). count_in so_far w + n) (by (share_in c x) (x.word == w))
  where
    by : (s : Share) (b : Bool) → sum_by (λ (s : Share). s.amount) (cond b (s ∷ []) []) ≡ cond b s.amount 0
    by s true = omega arith
    by s false = refl

false_true : ◌≡◌ {A = Bool} false true → ⊥
false_true h = cc

-- numbers that differ are told apart
pub apart : (k q : ℕ) → (k ≡ q → ⊥) → is_eq (nat_cmp k q) ≡ false
apart k q ne = grind (arith, ne)

pub alike : (k q : ℕ) → k ≡ q → is_eq (nat_cmp k q) ≡ true
alike k q e = grind (arith, e)

tally_more : (ss : List WordShare) (x : WordShare) (m n : BTreeMap ℕ Counts) → IsTally ss m → Adds x m n → IsTally (ss ++ (x ∷ [])) n
tally_more ss x m n is adds = record { counts = λ w c. each w c (cases_eq x.word w); absent = λ w h. gone w h (cases_eq x.word w) }
  where
    each : (w : ℕ) (c : Column) → (x.word ≡ w) ⊎ (x.word ≡ w → ⊥) → amount c (counts_at n w) ≡ count_in (in_column c (ss ++ (x ∷ []))) w
    each w c (inl e) =
        let was = is.counts x.word c in
        let same = eq-eqb x.word x.word refl in
        let all : count_in (in_column c (ss ++ (x ∷ []))) x.word ≡ count_in (in_column c ss) x.word + amount c x.counts =
        count_more c ss x x.word ∙ rw same refl in
        let sum = adds.counts c in
        let here : amount c (counts_at n x.word) ≡ count_in (in_column c (ss ++ (x ∷ []))) x.word = omega (arith, was, all, sum) in
        subst (λ (v : ℕ). amount c (counts_at n v) ≡ count_in (in_column c (ss ++ (x ∷ []))) v) e here
    each w c (inr ne) =
        let kept : amount c (counts_at n w) ≡ amount c (counts_at m w) = ap (λ (o : Option Counts). amount c (unwrap_or o no_counts)) (adds.others w (ne_eqb x.word w ne)) in
        let was = is.counts w c in
        let apart = ne_eqb x.word w ne in
        let all : count_in (in_column c (ss ++ (x ∷ []))) w ≡ count_in (in_column c ss) w + 0 = count_more c ss x w ∙ rw apart refl in
        omega (arith, kept, was, all)

    left_false : (p q : Bool) → (p || q) ≡ false → p ≡ false
    left_false true q h = h
    left_false false q h = refl

    right_false : (p q : Bool) → (p || q) ≡ false → q ≡ false
    right_false true q h = cc
    right_false false q h = h

    parts : (w : ℕ) → list_any (λ (s : WordShare). s.word == w) (ss ++ (x ∷ [])) ≡ (list_any (λ (s : WordShare). s.word == w) ss || (x.word == w))
    parts w = list_any-append (λ (s : WordShare). s.word == w) ss (x ∷ []) ∙ ap (λ (b : Bool). list_any (λ (s : WordShare). s.word == w) ss || b) (alone (x.word == w))
      where
        alone : (b : Bool) → (b || false) ≡ b
        alone true = refl
        alone false = refl

    gone : (w : ℕ) → list_any (λ (s : WordShare). s.word == w) (ss ++ (x ∷ [])) ≡ false → (x.word ≡ w) ⊎ (x.word ≡ w → ⊥) → get nat_cmp n w ≡ None
    gone w h (inl e) =
        let all = sym (parts w) ∙ h in
        absurd (false_true (sym (right_false (list_any (λ (s : WordShare). s.word == w) ss) (x.word == w) all) ∙ eq-eqb x.word w e))
    gone w h (inr ne) =
        let all = sym (parts w) ∙ h in
        adds.others w (ne_eqb x.word w ne) ∙ is.absent w (left_false (list_any (λ (s : WordShare). s.word == w) ss) (x.word == w) all)

tally_for : (ss : List WordShare) (a : Option WordAddr) (k : Counts) (m n : BTreeMap ℕ Counts) → IsTally ss m → AddsFor a k m n → IsTally (ss ++ word_counted a k) n
tally_for ss None k m n is same = subst (λ (l : List WordShare). IsTally l n) (sym (append-nil ss)) (subst (λ (t : BTreeMap ℕ Counts). IsTally ss t) (sym same) is)
tally_for ss (Some a) k m n is adds = tally_more ss (record { word = a.0; counts = k }) m n is adds

-- the counts so far and a share's are within the sum of all
tally_fits : (ss rest : List WordShare) (x : WordShare) (m : BTreeMap ℕ Counts) → IsTally ss m
    → ((c : Column) → sum_by (λ (s : WordShare). amount c s.counts) ((ss ++ (x ∷ [])) ++ rest) < 2 ^ 64)
    → (c : Column) → amount c (counts_at m x.word) + amount c x.counts < 2 ^ 64
tally_fits ss rest x m is few c =
    let each = λ (s : WordShare). amount c s.counts in
    let p = λ (s : Share). s.word == x.word in
    let q = λ (s : Share). not (s.word == x.word) in
    let so_far = in_column c ss in
    let was = is.counts x.word c in
    let both : sum_by (λ (s : Share). s.amount) (filter p so_far) + sum_by (λ (s : Share). s.amount) (filter q so_far) ≡ sum_by (λ (s : Share). s.amount) so_far =
    sum_by-filter_both p q (λ s. refl) (λ (s : Share). s.amount) so_far in
    let same = sum_in_column c ss in
    let one : sum_by each (x ∷ []) ≡ each x + 0 = sum_by-cons each x [] in
    let front = sum_by-append each ss (x ∷ []) in
    let whole = sum_by-append each (ss ++ (x ∷ [])) rest in
    let most = few c in
    omega (arith, was, both, same, one, front, whole, most)

room_for : (ss rest : List WordShare) (a : Option WordAddr) (k : Counts) (m : BTreeMap ℕ Counts) → IsTally ss m
    → ((c : Column) → sum_by (λ (s : WordShare). amount c s.counts) ((ss ++ word_counted a k) ++ rest) < 2 ^ 64)
    → IfSome a (λ w. (c : Column) → amount c (counts_at m w.0) + amount c k < 2 ^ 64)
room_for ss rest None k m is few = tt
room_for ss rest (Some a) k m is few = tally_fits ss rest (record { word = a.0; counts = k }) m is few

-- what items count, one item more: it adds what it counts for a word, if there is one
module _ {X : Type 0} (word : X → Option WordAddr) (counts : X → Counts) (base : List WordShare) (xs : List X) where
  abbrev pub of : X → List WordShare
  of x = word_counted (word x) (counts x)

  abbrev pub so_far : ℕ → List WordShare
  so_far i = base ++ flat_map of (take i xs)

  one_more : (i : ℕ) (d : X) → i < length xs → so_far (i + 1) ≡ so_far i ++ of (get_or xs i d)
  one_more i d inside =
      ap (λ (l : List X). base ++ flat_map of l) (take_more xs i d inside)
      ∙ ap (λ (l : List WordShare). base ++ l) (flat_map-append of (take i xs) (get_or xs i d ∷ []) ∙ ap (λ (l : List WordShare). flat_map of (take i xs) ++ l) (append-nil (of (get_or xs i d))))
      ∙ sym (append_assoc base (flat_map of (take i xs)) (of (get_or xs i d)))

  all_of : (i : ℕ) (d : X) → i < length xs → base ++ flat_map of xs ≡ (so_far i ++ of (get_or xs i d)) ++ flat_map of (drop (i + 1) xs)
  all_of i d inside =
      ap (λ (l : List X). base ++ flat_map of l) (sym (take-append-drop (i + 1) xs))
      ∙ ap (λ (l : List WordShare). base ++ l) (flat_map-append of (take (i + 1) xs) (drop (i + 1) xs))
      ∙ sym (append_assoc base (flat_map of (take (i + 1) xs)) (flat_map of (drop (i + 1) xs)))
      ∙ ap (λ (l : List WordShare). l ++ flat_map of (drop (i + 1) xs)) (one_more i d inside)

  pub tally_step : (i : ℕ) (d : X) (m n : BTreeMap ℕ Counts) → i < length xs → IsTally (so_far i) m
      → AddsFor (word (get_or xs i d)) (counts (get_or xs i d)) m n → IsTally (so_far (i + 1)) n
  tally_step i d m n inside is adds =
      subst (λ (l : List WordShare). IsTally l n) (sym (one_more i d inside)) (tally_for (so_far i) (word (get_or xs i d)) (counts (get_or xs i d)) m n is adds)

  pub tally_room : (i : ℕ) (d : X) (m : BTreeMap ℕ Counts) → i < length xs → IsTally (so_far i) m
      → ((c : Column) → sum_by (λ (s : WordShare). amount c s.counts) (base ++ flat_map of xs) < 2 ^ 64)
      → IfSome (word (get_or xs i d)) (λ w. (c : Column) → amount c (counts_at m w.0) + amount c (counts (get_or xs i d)) < 2 ^ 64)
  tally_room i d m inside is few =
      room_for (so_far i) (flat_map of (drop (i + 1) xs)) (word (get_or xs i d)) (counts (get_or xs i d)) m is
      (λ c. subst (λ (l : List WordShare). sum_by (λ (s : WordShare). amount c s.counts) l < 2 ^ 64) (all_of i d inside) (few c))

  pub tally_all : (m : BTreeMap ℕ Counts) (i : ℕ) → length xs ≤ i → IsTally (so_far i) m → IsTally (base ++ flat_map of xs) m
  tally_all m i end is = subst (λ (l : List X). IsTally (base ++ flat_map of l) m) (take_all i xs end) is
