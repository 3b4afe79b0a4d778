-- Labels in the order of a table make one.
use Rattle.std.proofs.Common.{◌≡◌, ◌∙◌, ◌++◌, ◌+◌, ◌<◌, ◌≤◌, ◌∷◌, [], ℕ, zero, suc, List, true, false, refl, sym, ap, subst, get_or, length, map, arith, inl, inr}
use Rattle.std.specs.Cmp.Lexicographic.{slice_cmp}
use Rattle.std.specs.List.{Contains}
use Rattle.std.specs.List.Sorted.{IsPermutation, IsSortedBy}
use Rattle.std.specs.Ordering.{is_lt, nat_cmp, ordering_reverse, ordering_then}
use Rattle.std.specs.declared.cmp.Ordering.{Ordering}
use Rattle.std.specs.declared.cmp.Ordering.TheVariants as ordering
use Rattle.std.proofs.lemmas.Cmp.{nat_cmp_total, nat_list_cmp_total, on_total, then_total}
use Rattle.std.proofs.lemmas.List.Elements.{Contains-append_left, Contains-append_right, Contains-push, Contains-push_cases}
use Rattle.std.proofs.lemmas.List.Sorted.{Contains-permutation, IsPermutation-map, IsPermutation-sym, ranks_by, sorted_far}
use Rattle.std.proofs.lemmas.Map.Lookups.{exact_bytes, exact_unsigned}
use Rattle.svc_asm.specs.declared.labels.Label.{Label}
use Rattle.svc_asm.specs.Labels.{parts_of}
use Rattle.svc_names.specs.declared.name.Name.{Name}
use Rattle.svc_names.specs.Made.{IsTableOf, NotBelow, compared, is_below, pair_of, pairs_of}
use Rattle.svc_names.specs.Table.{IsTable, comes_next, is_name_text}

-- ---- two names of which neither stands before the other

both_equal : (a b : Ordering) → ordering_then a b ≡ ordering.Equal → (a ≡ ordering.Equal) × (b ≡ ordering.Equal)
both_equal ordering.Less b h = cc h
both_equal ordering.Equal b h = (refl, h)
both_equal ordering.Greater b h = cc h

is_tie : (a b : Ordering) → a ≡ ordering_reverse b → is_lt a ≡ false → is_lt b ≡ false → a ≡ ordering.Equal
is_tie ordering.Less b back h k = cc h
is_tie ordering.Equal b back h k = refl
is_tie ordering.Greater ordering.Less back h k = cc k
is_tie ordering.Greater ordering.Equal back h k = cc back
is_tie ordering.Greater ordering.Greater back h k = cc back

same_pair : (p q : List ℕ × ℕ) → is_lt (compared p q) ≡ false → is_lt (compared q p) ≡ false → p ≡ q
same_pair p q h k =
    let total = then_total (on_total (λ (p : List ℕ × ℕ). p.1) nat_cmp_total) (on_total (λ (p : List ℕ × ℕ). p.0) nat_list_cmp_total) in
    let tie : compared p q ≡ ordering.Equal = is_tie (compared p q) (compared q p) (total.antisymm p q) h k in
    let parts = both_equal (nat_cmp p.1 q.1) (slice_cmp nat_cmp p.0 q.0) tie in
    let address : p.1 ≡ q.1 = exact_unsigned p.1 q.1 parts.0 in
    let text : p.0 ≡ q.0 = exact_bytes p.0 q.0 parts.1 in
    ap (λ (t : List ℕ). (t, p.1)) text ∙ ap (λ (a : ℕ). (q.0, a)) address

-- ---- the last name, and what is not below it

pub last_pushed : (names : List Name) (n : Name) (pair : List ℕ × ℕ) → is_lt (compared pair (pair_of n)) ≡ false → NotBelow (names ++ (n ∷ [])) pair
last_pushed [] n pair h = h
last_pushed (a ∷ []) n pair h = h
last_pushed (a ∷ b ∷ names) n pair h = last_pushed (b ∷ names) n pair h

-- what comes neither next nor below the last one is the last one
pub stands_there : (names : List Name) (text : List ℕ) (address : ℕ) → comes_next names text address ≡ false → NotBelow names (text, address)
    → Contains (pairs_of names) (text, address)
stands_there [] text address h low = cc h
stands_there (n ∷ []) text address h low = (0, omega arith, same_pair (pair_of n) (text, address) h low)
stands_there (n ∷ m ∷ names) text address h low =
    Contains-append_right (pair_of n ∷ []) (pairs_of (m ∷ names)) (text, address) (stands_there (m ∷ names) text address h low)

pub pairs_more : (names : List Name) (n : Name) → pairs_of (names ++ (n ∷ [])) ≡ pairs_of names ++ (pair_of n ∷ [])
pairs_more [] n = refl
pairs_more (a ∷ names) n = ap (λ (ps : List (List ℕ × ℕ)). pair_of a ∷ ps) (pairs_more names n)

-- ---- one label more

labels_more : (front : List Label) (l : Label) → map parts_of (front ++ (l ∷ [])) ≡ map parts_of front ++ (parts_of l ∷ [])
labels_more [] l = refl
labels_more (a ∷ front) l = ap (λ (ps : List (List ℕ × ℕ)). parts_of a ∷ ps) (labels_more front l)

-- a label that has no row, or has one already
pub passed_label : (front : List Label) (l : Label) (names : List Name) → IsTableOf (map parts_of front) names
    → (is_name_text l.name.now ≡ true → Contains (pairs_of names) (parts_of l)) → IsTableOf (map parts_of (front ++ (l ∷ []))) names
passed_label front l names made there = record {
  table = made.table;
  all = λ name address h is.
      elim (Contains-push_cases (map parts_of front) (parts_of l) (name, address) (subst (λ (ps : List (List ℕ × ℕ)). Contains ps (name, address)) (labels_more front l) h)) [
        | inl before ↦ made.all name address before is
        | inr same ↦
            subst (Contains (pairs_of names)) same (there (ap (λ (p : List ℕ × ℕ). is_name_text p.0) same ∙ is))
      ];
  only = λ name address h. subst (λ (ps : List (List ℕ × ℕ)). Contains ps (name, address)) (sym (labels_more front l))
      (Contains-append_left (map parts_of front) (parts_of l ∷ []) (name, address) (made.only name address h));
}

-- a label that gets a row
pub pushed_label : (front : List Label) (l : Label) (names : List Name) (n : Name) → IsTableOf (map parts_of front) names → pair_of n ≡ parts_of l → IsTable (names ++ (n ∷ []))
    → IsTableOf (map parts_of (front ++ (l ∷ []))) (names ++ (n ∷ []))
pushed_label front l names n made same table =
    let more = pairs_more names n in record {
      table = table;
      all = λ name address h is.
          let at : Contains (pairs_of names ++ (pair_of n ∷ [])) (name, address) =
          elim (Contains-push_cases (map parts_of front) (parts_of l) (name, address) (subst (λ (ps : List (List ℕ × ℕ)). Contains ps (name, address)) (labels_more front l) h)) [
            | inl before ↦ Contains-append_left (pairs_of names) (pair_of n ∷ []) (name, address) (made.all name address before is)
            | inr here ↦ subst (Contains (pairs_of names ++ (pair_of n ∷ []))) (same ∙ here) (Contains-push (pairs_of names) (pair_of n))
          ] in
          subst (λ (ps : List (List ℕ × ℕ)). Contains ps (name, address)) (sym more) at;
      only = λ name address h.
          let at : Contains (map parts_of front ++ (parts_of l ∷ [])) (name, address) =
          elim (Contains-push_cases (pairs_of names) (pair_of n) (name, address) (subst (λ (ps : List (List ℕ × ℕ)). Contains ps (name, address)) more h)) [
            | inl before ↦ Contains-append_left (map parts_of front) (parts_of l ∷ []) (name, address) (made.only name address before)
            | inr here ↦ subst (Contains (map parts_of front ++ (parts_of l ∷ []))) (sym same ∙ here) (Contains-push (map parts_of front) (parts_of l))
          ] in
          subst (λ (ps : List (List ℕ × ℕ)). Contains ps (name, address)) (sym (labels_more front l)) at;
    }

same_at : (labels : List Label) (i : ℕ) (d e : Label) → i < length labels → get_or labels i d ≡ get_or labels i e
same_at [] i d e low = absurd (omega (arith, low))
same_at (l ∷ labels) zero d e low = refl
same_at (l ∷ labels) (suc i) d e low = same_at labels i d e (omega (arith, low))

-- no label from a place on stands below the one at it
pub none_below : (labels : List Label) → IsSortedBy is_below labels → (i k : ℕ) (d e : Label) → i ≤ k → k < length labels
    → is_lt (compared (parts_of (get_or labels k d)) (parts_of (get_or labels i e))) ≡ false
none_below labels up i k d e from low =
    let total = then_total (on_total (λ (p : List ℕ × ℕ). p.1) nat_cmp_total) (on_total (λ (p : List ℕ × ℕ). p.0) nat_list_cmp_total) in
    let far : is_lt (compared (parts_of (get_or labels k d)) (parts_of (get_or labels i d))) ≡ false = sorted_far is_below (ranks_by total parts_of) labels up i k d from low in
    ap (λ (l : Label). is_lt (compared (parts_of (get_or labels k d)) (parts_of l))) (same_at labels i e d (omega (arith, from, low))) ∙ far

-- the table of labels is that of the same labels in another order
pub in_any_order : (labels others : List Label) (names : List Name) → IsPermutation labels others → IsTableOf (map parts_of others) names → IsTableOf (map parts_of labels) names
in_any_order labels others names same made =
    let pairs = IsPermutation-map parts_of labels others same in
    let back = IsPermutation-sym (map parts_of labels) (map parts_of others) pairs in record {
      table = made.table;
      all = λ name address h. made.all name address (Contains-permutation (map parts_of labels) (map parts_of others) (name, address) pairs h);
      only = λ name address h. Contains-permutation (map parts_of others) (map parts_of labels) (name, address) back (made.only name address h);
    }

-- no labels make a table of no names
pub no_labels : IsTableOf [] []
no_labels = record {
  table = record { rows = tt; order = refl };
  all = λ name address h is. absurd (omega (arith, h.1));
  only = λ name address h. absurd (omega (arith, h.1));
}
