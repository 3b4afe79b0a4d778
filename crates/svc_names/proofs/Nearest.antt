-- The nearest name, by its place in a list in order.
use Rattle.std.proofs.Common.{◌≡◌, ◌∙◌, ◌≤◌, ◌<◌, ◌-◌, ◌∷◌, [], ℕ, zero, suc, List, Option, Some, None, Bool, true, false, refl, ap, sym, get_or, length, arith, inl, inr}
use Rattle.std.specs.Prelude.{◌&&◌, IfSome, nat_le, nat_lt, if◌then◌else◌}
use Rattle.std.specs.List.{AllWithin}
use Rattle.std.specs.List.Sorted.{IsNonDecreasingBy}
use Rattle.std.proofs.lemmas.Bool.{cases_Bool, leb-true, le-leb, lt-leb, ltb-true, ltb-false}
use Rattle.svc_names.specs.declared.name.Name.{Name}
use Rattle.svc_names.specs.Near.{is_at_or_below, kind_start, nearer, nearest}

-- ---- tests

and_false : (b c : Bool) → c ≡ false → (b && c) ≡ false
and_false true c e = e
and_false false c e = refl

first_false : (b c : Bool) → b ≡ false → (b && c) ≡ false
first_false b c e = ap (λ (x : Bool). x && c) e

both_true : (b c : Bool) → b ≡ true → c ≡ true → (b && c) ≡ true
both_true b c e f = ap (λ (x : Bool). x && c) e ∙ f

second_of : (b c : Bool) → (b && c) ≡ true → c ≡ true
second_of true c e = e
second_of false c e = cc e

pub above_is_not : (a : ℕ) (n : Name) → a < n.address → is_at_or_below a n ≡ false
above_is_not a n h = and_false (nat_le (kind_start a) n.address) (nat_le n.address a) (lt-leb n.address a h)

other_kind_is_not : (a : ℕ) (n : Name) → n.address < kind_start a → is_at_or_below a n ≡ false
other_kind_is_not a n h = first_false (nat_le (kind_start a) n.address) (nat_le n.address a) (lt-leb (kind_start a) n.address h)

is_one : (a : ℕ) (n : Name) → kind_start a ≤ n.address → n.address ≤ a → is_at_or_below a n ≡ true
is_one a n h k = both_true (nat_le (kind_start a) n.address) (nat_le n.address a) (le-leb (kind_start a) n.address h) (le-leb n.address a k)

below : (a : ℕ) (n : Name) → is_at_or_below a n ≡ true → n.address ≤ a
below a n h = leb-true n.address a (second_of (nat_le (kind_start a) n.address) (nat_le n.address a) h)

-- ---- what is found is one of them

one_keeps : (b : Bool) (n : Name) (P : Name → Type 0) → (b ≡ true → P n) → IfSome (if b then Some n else None) P
one_keeps true n P h = h refl
one_keeps false n P h = tt

two_keep : (b c : Bool) (n m : Name) (P : Name → Type 0) → (b ≡ true → P n) → P m → IfSome (if b && c then Some n else Some m) P
two_keep true true n m P h k = h refl
two_keep true false n m P h k = k
two_keep false c n m P h k = k

keeps : (a : ℕ) (n : Name) (o : Option Name) (P : Name → Type 0) → (is_at_or_below a n ≡ true → P n) → IfSome o P → IfSome (nearer a n o) P
keeps a n None P h k = one_keeps (is_at_or_below a n) n P h
keeps a n (Some m) P h k = two_keep (is_at_or_below a n) (nat_le m.address n.address) n m P h k

found_is : (a : ℕ) (names : List Name) (P : Name → Type 0)
    → ((k : ℕ) (d : Name) → k < length names → is_at_or_below a (get_or names k d) ≡ true → P (get_or names k d)) → IfSome (nearest a names) P
found_is a [] P h = tt
found_is a (n ∷ names) P h =
    keeps a n (nearest a names) P (h 0 n (omega arith)) (found_is a names P (λ k d low is. h (suc k) d (omega (arith, low)) is))

-- ---- none, or this one

nobody : (o : Option Name) → IfSome o (λ _. ⊥) → o ≡ None
nobody None h = refl
nobody (Some n) h = absurd h

pub none_is : (a : ℕ) (names : List Name) → ((k : ℕ) (d : Name) → k < length names → is_at_or_below a (get_or names k d) ≡ false) → nearest a names ≡ None
none_is a names h =
    nobody (nearest a names) (found_is a names (λ _. ⊥) (λ k d low is. let never : true ≡ false = sym is ∙ h k d low in cc never))

first_is : (a : ℕ) (n : Name) (o : Option Name) → is_at_or_below a n ≡ true → IfSome o (λ m. m.address ≤ n.address) → nearer a n o ≡ Some n
first_is a n None is near = ap (λ (b : Bool). if b then Some n else None) is
first_is a n (Some m) is near =
    ap (λ (b : Bool). if b then Some n else Some m) (both_true (is_at_or_below a n) (nat_le m.address n.address) is (le-leb m.address n.address near))

later_is : (a : ℕ) (n m : Name) → n.address < m.address → nearer a n (Some m) ≡ Some m
later_is a n m far =
    ap (λ (b : Bool). if b then Some n else Some m)
    (and_false (is_at_or_below a n) (nat_le m.address n.address) (lt-leb m.address n.address far))

pub nearest_is : (a : ℕ) (names : List Name) (i : ℕ) (d : Name) → i < length names → is_at_or_below a (get_or names i d) ≡ true
    → ((k : ℕ) (e : Name) → k < i → (get_or names k e).address < (get_or names i d).address)
    → ((k : ℕ) (e : Name) → k < length names → is_at_or_below a (get_or names k e) ≡ true → (get_or names k e).address ≤ (get_or names i d).address)
    → nearest a names ≡ Some (get_or names i d)
nearest_is a [] i d low is before near = absurd (omega (arith, low))
nearest_is a (n ∷ names) zero d low is before near =
    first_is a n (nearest a names) is (found_is a names (λ m. m.address ≤ n.address) (λ k e small passes. near (suc k) e (omega (arith, small)) passes))
nearest_is a (n ∷ names) (suc i) d low is before near =
    let rest =
    nearest_is a names i d (omega (arith, low)) is (λ k e small. before (suc k) e (omega (arith, small)))
    (λ k e small passes. near (suc k) e (omega (arith, small)) passes) in
    ap (nearer a n) rest ∙ later_is a n (get_or names i d) (before 0 n (omega arith))

-- ---- by the places that a search in a list in order finds

pub any_default : (xs : List Name) (i : ℕ) (d e : Name) → i < length xs → get_or xs i d ≡ get_or xs i e
any_default [] i d e low = absurd (omega (arith, low))
any_default (y ∷ ys) zero d e low = refl
any_default (y ∷ ys) (suc i) d e low = any_default ys i d e (omega (arith, low))

abbrev address_of : Name → ℕ
address_of n = n.address

-- the last of those up to the address is of the other kind
pub none_of_kind : (a : ℕ) (names : List Name) (end : ℕ) (x : Name) → IsNonDecreasingBy (λ (n : Name). n.address) names → end ≤ length names → 0 < end
    → AllWithin (λ (n : Name). a < n.address) names end (length names) → x ≡ get_or names (end - 1) x → x.address < kind_start a → nearest a names ≡ None
none_of_kind a names end x order inside some past last other =
    none_is a names (λ k d low. elim (cases_Bool (nat_lt k end)) [
      | inl is_so ↦
          let small : k < end = ltb-true k end is_so in
          let one : (get_or names k d).address ≤ (get_or names (end - 1) d).address = order k (end - 1) d (omega (arith, small)) (omega (arith, inside, some)) in
          let same : get_or names (end - 1) d ≡ x = any_default names (end - 1) d x (omega (arith, inside, some)) ∙ sym last in
          let equal : (get_or names (end - 1) d).address ≡ x.address = ap address_of same in
          other_kind_is_not a (get_or names k d) (omega (arith, one, equal, other))
      | inr is_not ↦ above_is_not a (get_or names k d) (past k d (ltb-false k end is_not) low)
    ])

-- the first of those whose address is that of the last one up to the address
pub record Finds (a : ℕ) (names : List Name) (end first : ℕ) (x : Name) : Type 0 where
  pub order : IsNonDecreasingBy (λ (n : Name). n.address) names
  pub inside : end ≤ length names
  pub some : 0 < end
  pub up_to : AllWithin (λ (n : Name). n.address ≤ a) names 0 end
  pub past : AllWithin (λ (n : Name). a < n.address) names end (length names)
  pub last : x ≡ get_or names (end - 1) x
  pub kind : kind_start a ≤ x.address
  pub before : AllWithin (λ (n : Name). n.address < x.address) names 0 first
  pub from : AllWithin (λ (n : Name). x.address ≤ n.address) names first (length names)

pub first_inside : (a : ℕ) (names : List Name) (end first : ℕ) (x : Name) → Finds a names end first x → first < end
first_inside a names end first x h = elim (cases_Bool (nat_lt first end)) [
  | inl is_so ↦ ltb-true first end is_so
  | inr is_not ↦
      let some = h.some in
      let far : end ≤ first = ltb-false first end is_not in
      let never : (get_or names (end - 1) x).address < x.address = h.before (end - 1) x (omega arith) (omega (arith, far, some)) in
      let same : x.address ≡ (get_or names (end - 1) x).address = ap address_of h.last in
      absurd (omega (arith, never, same))
]

pub its_address : (a : ℕ) (names : List Name) (end first : ℕ) (x : Name) → Finds a names end first x → (get_or names first x).address ≡ x.address
its_address a names end first x h =
    let early = first_inside a names end first x h in
    let inside = h.inside in
    let one = h.from first x (omega arith) (omega (arith, early, inside)) in
    let two : (get_or names first x).address ≤ (get_or names (end - 1) x).address = h.order first (end - 1) x (omega (arith, early)) (omega (arith, early, inside)) in
    let same : x.address ≡ (get_or names (end - 1) x).address = ap address_of h.last in
    omega (arith, one, two, same)

pub nearest_found : (a : ℕ) (names : List Name) (end first : ℕ) (x : Name) → Finds a names end first x → nearest a names ≡ Some (get_or names first x)
nearest_found a names end first x h =
    let early = first_inside a names end first x h in
    let inside = h.inside in
    let some = h.some in
    let kind = h.kind in
    let address = its_address a names end first x h in
    let last : x.address ≡ (get_or names (end - 1) x).address = ap address_of h.last in
    let most = h.up_to first x (omega arith) early in
    nearest_is a names first x (omega (arith, early, inside))
    (is_one a (get_or names first x) (omega (arith, kind, address)) most)
    (λ k e small.
    let one : (get_or names k x).address < x.address = h.before k x (omega arith) small in
    let same : (get_or names k e).address ≡ (get_or names k x).address = ap address_of (any_default names k e x (omega (arith, small, early, inside))) in
    omega (arith, one, same, address))
    (λ k e low passes. elim (cases_Bool (nat_lt k end)) [
      | inl near ↦
          let small : k < end = ltb-true k end near in
          let one : (get_or names k x).address ≤ (get_or names (end - 1) x).address = h.order k (end - 1) x (omega (arith, small)) (omega (arith, inside, some)) in
          let same : (get_or names k e).address ≡ (get_or names k x).address = ap address_of (any_default names k e x low) in
          omega (arith, one, same, last, address)
      | inr far ↦
          let never : a < (get_or names k e).address = h.past k e (ltb-false k end far) low in
          let up_to = below a (get_or names k e) passes in
          absurd (omega (arith, never, up_to))
    ])
