-- Names in order, and one more.
use Rattle.std.proofs.Common.{◌≡◌, ◌∙◌, ◌≤◌, ◌<◌, ◌∷◌, ◌++◌, [], ℕ, zero, suc, List, Bool, true, false, refl, ap, get_or, length, arith}
use Rattle.std.specs.Prelude.{◌&&◌, ◌==◌, cond, nat_lt}
use Rattle.std.specs.Cmp.Lexicographic.{slice_cmp}
use Rattle.std.specs.List.{AllByRecursion}
use Rattle.std.specs.List.Sorted.{IsNonDecreasingBy}
use Rattle.std.specs.Ordering.{is_lt, nat_cmp, ordering_then}
use Rattle.std.specs.declared.cmp.Ordering.{Ordering}
use Rattle.std.specs.declared.cmp.Ordering.TheVariants as ordering
use Rattle.std.proofs.lemmas.Bool.{eqb-true, ltb-true}
use Rattle.svc_report.proofs.Tracks.{all_more}
use Rattle.svc_names.specs.declared.name.Name.{Name}
use Rattle.svc_names.specs.Table.{HasRow, IsTable, are_in_order, are_named, comes_next, is_before, is_name_text}

both_true : (b c : Bool) → b ≡ true → c ≡ true → (b && c) ≡ true
both_true b c e f = ap (λ (x : Bool). x && c) e ∙ f

pub first_of : (b c : Bool) → (b && c) ≡ true → b ≡ true
first_of true c e = refl
first_of false c e = cc e

pub second_of : (b c : Bool) → (b && c) ≡ true → c ≡ true
second_of true c e = e
second_of false c e = cc e

-- the names of a table are names
pub named_rows : (names : List Name) → AllByRecursion HasRow names → are_named names ≡ true
named_rows [] all = refl
named_rows (n ∷ names) all = both_true (is_name_text n.text.items) (are_named names) all.0.name (named_rows names all.1)

order_more : (names : List Name) (n : Name) → are_in_order names ≡ true → comes_next names n.text.items n.address ≡ true → are_in_order (names ++ (n ∷ [])) ≡ true
order_more [] n h next = refl
order_more (a ∷ []) n h next = both_true (is_before a n.text.items n.address) true next refl
order_more (a ∷ b ∷ names) n h next =
    let before = is_before a b.text.items b.address in
    let rest = are_in_order (b ∷ names) in
    both_true before (are_in_order (b ∷ names ++ (n ∷ []))) (first_of before rest h) (order_more (b ∷ names) n (second_of before rest h) next)

pub table_more : (names : List Name) (n : Name) → IsTable names → HasRow n → comes_next names n.text.items n.address ≡ true → IsTable (names ++ (n ∷ []))
table_more names n table row next = record {
  rows = all_more HasRow names n table.rows row;
  order = order_more names n table.order next;
}

-- ---- what stands before has no higher address

by_test : (x y : ℕ) (less same : Bool) (o : Ordering) → nat_lt x y ≡ less → (x == y) ≡ same
    → is_lt (ordering_then (cond less ordering.Less (cond same ordering.Equal ordering.Greater)) o) ≡ true → x ≤ y
by_test x y true same o is_less is_same h = let low = ltb-true x y is_less in omega (arith, low)
by_test x y false true o is_less is_same h = let equal = eqb-true x y is_same in omega (arith, equal)
by_test x y false false o is_less is_same h = cc h

not_higher : (a : Name) (text : List ℕ) (address : ℕ) → is_before a text address ≡ true → a.address ≤ address
not_higher a text address h =
    by_test a.address address (nat_lt a.address address) (a.address == address) (slice_cmp nat_cmp a.text.items text) refl refl h

head_least : (a : Name) (names : List Name) (k : ℕ) (d : Name) → are_in_order (a ∷ names) ≡ true → k < length names → a.address ≤ (get_or names k d).address
head_least a [] k d h low = absurd (omega (arith, low))
head_least a (b ∷ names) zero d h low =
    not_higher a b.text.items b.address (first_of (is_before a b.text.items b.address) (are_in_order (b ∷ names)) h)
head_least a (b ∷ names) (suc k) d h low =
    let before = is_before a b.text.items b.address in
    let one = not_higher a b.text.items b.address (first_of before (are_in_order (b ∷ names)) h) in
    let two = head_least b names k d (second_of before (are_in_order (b ∷ names)) h) (omega (arith, low)) in
    omega (arith, one, two)

rest_in_order : (a : Name) (names : List Name) → are_in_order (a ∷ names) ≡ true → are_in_order names ≡ true
rest_in_order a [] h = refl
rest_in_order a (b ∷ names) h = second_of (is_before a b.text.items b.address) (are_in_order (b ∷ names)) h

pub in_order : (names : List Name) → are_in_order names ≡ true → IsNonDecreasingBy (λ (n : Name). n.address) names
in_order [] h i j d le low = absurd (omega (arith, low))
in_order (a ∷ names) h zero zero d le low = omega arith
in_order (a ∷ names) h zero (suc j) d le low = head_least a names j d h (omega (arith, low))
in_order (a ∷ names) h (suc i) zero d le low = absurd (omega (arith, le))
in_order (a ∷ names) h (suc i) (suc j) d le low = in_order names (rest_in_order a names h) i j d (omega (arith, le)) (omega (arith, low))
