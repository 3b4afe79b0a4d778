-- A list by the numbers of its elements: the elements with each number, number by number.
use Rattle.std.proofs.Common.{◌≡◌, ◌∙◌, ◌+◌, ◌<◌, ◌≤◌, ◌++◌, ◌∷◌, ◌==◌, ◌⊎◌, inl, inr, [], ℕ, zero, suc, List, length, get_or, refl, ap, ap₂, sym, arith, eq-eqb, ne_eqb}
use Rattle.std.specs.Prelude.{flat_map}
use Rattle.std.specs.List.{AllByRecursion, filter, range_with_len, sum_by}
use Rattle.std.specs.List.Sorted.{IsNonDecreasingBy}
use Rattle.std.proofs.lemmas.Bool.{cases_eq, cases_order}
use Rattle.std.proofs.lemmas.List.Sums.{sum_by-cons, sum_by-append}

-- those with this number
abbrev pub bucket : {X : Type 0} → (X → ℕ) → List X → ℕ → List X
bucket k xs n = filter (λ x. k x == n) xs

-- one that has a smaller number isn't met
unseen : {X : Type 0} (k : X → ℕ) (x : X) (xs : List X) (a n : ℕ) → k x < a
    → flat_map (bucket k (x ∷ xs)) (range_with_len a n) ≡ flat_map (bucket k xs) (range_with_len a n)
unseen k x xs a zero lt = refl
unseen k x xs a (suc n) lt = rw (ne_eqb (k x) a (λ e. omega (arith, e, lt))) (ap (λ l. bucket k xs a ++ l) (unseen k x xs (a + 1) n (omega (arith, lt))))

none_at : {X : Type 0} (k : X → ℕ) (xs : List X) (a m : ℕ) → a < m → AllByRecursion (λ y. m ≤ k y) xs → bucket k xs a ≡ []
none_at k [] a m lt all = refl
none_at k (x ∷ xs) a m lt all = let le = all.0 in rw (ne_eqb (k x) a (λ e. omega (arith, e, lt, le))) (none_at k xs a m lt all.1)

over_it : (a m : ℕ) → a ≤ m → (m ≡ a → ⊥) → a + 1 ≤ m
over_it a m le ne = by (cases_order m a)
  where
    by : (m ≡ a) ⊎ ((m < a) ⊎ (a < m)) → a + 1 ≤ m
    by (inl e) = absurd (ne e)
    by (inr (inl lt)) = omega (arith, le, lt)
    by (inr (inr lt)) = omega (arith, lt)

-- the least one is met first
least : {X : Type 0} (k : X → ℕ) (x : X) (xs : List X) (a n : ℕ) → a ≤ k x → k x < a + n → AllByRecursion (λ y. k x ≤ k y) xs
    → flat_map (bucket k (x ∷ xs)) (range_with_len a n) ≡ x ∷ flat_map (bucket k xs) (range_with_len a n)
least k x xs a zero le lt all = let never : ⊥ = omega (arith, le, lt) in absurd never
least {X} k x xs a (suc n) le lt all = by (λ over. least k x xs (a + 1) n over (omega (arith, lt)) all) (cases_eq (k x) a)
  where
    by : (a + 1 ≤ k x → flat_map (bucket k (x ∷ xs)) (range_with_len (a + 1) n) ≡ x ∷ flat_map (bucket k xs) (range_with_len (a + 1) n))
        → (k x ≡ a) ⊎ (k x ≡ a → ⊥)
        → flat_map (bucket k (x ∷ xs)) (range_with_len a (suc n)) ≡ x ∷ flat_map (bucket k xs) (range_with_len a (suc n))
    by rest (inl e) = rw (eq-eqb (k x) a e) (ap (λ (l : List X). x ∷ (bucket k xs a ++ l)) (unseen k x xs (a + 1) n (omega (arith, e))))
    by rest (inr ne) =
        let over : a + 1 ≤ k x = over_it a (k x) le ne in
        rw (ne_eqb (k x) a ne, none_at k xs a (k x) (omega (arith, over)) all) (rest over)

-- each is no greater than those after it
abbrev Rises : {X : Type 0} → (X → ℕ) → List X → Type 0
Rises k [] = Unit {0}
Rises k (x ∷ xs) = AllByRecursion (λ y. k x ≤ k y) xs × Rises k xs

all_from : {X : Type 0} (k : X → ℕ) (m : ℕ) (xs : List X) → ((i : ℕ) (d : X) → i < length xs → m ≤ k (get_or xs i d)) → AllByRecursion (λ y. m ≤ k y) xs
all_from k m [] h = tt
all_from k m (x ∷ xs) h = (h 0 x (omega arith), all_from k m xs (λ i d inside. h (suc i) d (omega (arith, inside))))

rises : {X : Type 0} (k : X → ℕ) (xs : List X) → IsNonDecreasingBy k xs → Rises k xs
rises k [] up = tt
rises k (x ∷ xs) up = (
  all_from k (k x) xs (λ i d inside. up 0 (suc i) d (omega arith) (omega (arith, inside))),
  rises k xs (λ i j d le inside. up (suc i) (suc j) d (omega (arith, le)) (omega (arith, inside))),
)

nothing_in : {X : Type 0} (k : X → ℕ) (a n : ℕ) → flat_map (bucket k []) (range_with_len a n) ≡ []
nothing_in k a zero = refl
nothing_in k a (suc n) = nothing_in k (a + 1) n

rising : {X : Type 0} (k : X → ℕ) (xs : List X) (n : ℕ) → Rises k xs → AllByRecursion (λ y. k y < n) xs → flat_map (bucket k xs) (range_with_len 0 n) ≡ xs
rising k [] n up all = nothing_in k 0 n
rising {X} k (x ∷ xs) n up all = least k x xs 0 n (omega arith) (let below = all.0 in omega (arith, below)) up.0 ∙ ap (λ (l : List X). x ∷ l) (rising k xs n up.1 all.1)

-- a list in order is its elements, number by number
pub by_number : {X : Type 0} (k : X → ℕ) (xs : List X) (n : ℕ) → IsNonDecreasingBy k xs → AllByRecursion (λ y. k y < n) xs
    → flat_map (bucket k xs) (range_with_len 0 n) ≡ xs
by_number k xs n up all = rising k xs n (rises k xs up) all

-- what two functions give alike, one after the other
pub same_buckets : {X A : Type 0} (f g : X → List A) (ns : List X) → ((n : X) → f n ≡ g n) → flat_map f ns ≡ flat_map g ns
same_buckets f g [] same = refl
same_buckets f g (n ∷ ns) same = ap₂ (λ l m. l ++ m) (same n) (same_buckets f g ns same)

-- ---- sums number by number

sum_unseen : {X : Type 0} (k f : X → ℕ) (x : X) (xs : List X) (a n : ℕ) → k x < a
    → sum_by (λ m. sum_by f (bucket k (x ∷ xs) m)) (range_with_len a n) ≡ sum_by (λ m. sum_by f (bucket k xs m)) (range_with_len a n)
sum_unseen k f x xs a zero lt = refl
sum_unseen k f x xs a (suc n) lt =
    let old = λ (m : ℕ). sum_by f (bucket k xs m) in
    let new = λ (m : ℕ). sum_by f (bucket k (x ∷ xs) m) in
    let first : new a ≡ old a = rw (ne_eqb (k x) a (λ e. omega (arith, e, lt))) refl in
    let rest : sum_by new (range_with_len (a + 1) n) ≡ sum_by old (range_with_len (a + 1) n) = sum_unseen k f x xs (a + 1) n (omega (arith, lt)) in
    sum_by-cons new a (range_with_len (a + 1) n) ∙ ap₂ (λ p q. p + q) first rest ∙ sym (sum_by-cons old a (range_with_len (a + 1) n))

sum_least : {X : Type 0} (k f : X → ℕ) (x : X) (xs : List X) (a n : ℕ) → a ≤ k x → k x < a + n
    → sum_by (λ m. sum_by f (bucket k (x ∷ xs) m)) (range_with_len a n) ≡ f x + sum_by (λ m. sum_by f (bucket k xs m)) (range_with_len a n)
sum_least k f x xs a zero le lt = omega (arith, le, lt)
sum_least {X} k f x xs a (suc n) le lt = by (λ over. sum_least k f x xs (a + 1) n over (omega (arith, lt))) (cases_eq (k x) a)
  where
    old : ℕ → ℕ
    old m = sum_by f (bucket k xs m)

    new : ℕ → ℕ
    new m = sum_by f (bucket k (x ∷ xs) m)

    after : List ℕ
    after = range_with_len (a + 1) n

    by : (a + 1 ≤ k x → sum_by new after ≡ f x + sum_by old after) → (k x ≡ a) ⊎ (k x ≡ a → ⊥) → sum_by new (range_with_len a (suc n)) ≡ f x + sum_by old (range_with_len a (suc n))
    by then (inl e) =
        let first : new a ≡ f x + old a = rw (eq-eqb (k x) a e) (sum_by-cons f x (bucket k xs a)) in
        let rest : sum_by new after ≡ sum_by old after = sum_unseen k f x xs (a + 1) n (omega (arith, e)) in
        let whole : sum_by new (a ∷ after) ≡ new a + sum_by new after = sum_by-cons new a after in
        let was : sum_by old (a ∷ after) ≡ old a + sum_by old after = sum_by-cons old a after in
        omega (arith, first, rest, whole, was)
    by then (inr ne) =
        let first : new a ≡ old a = rw (ne_eqb (k x) a ne) refl in
        let rest : sum_by new after ≡ f x + sum_by old after = then (over_it a (k x) le ne) in
        let whole : sum_by new (a ∷ after) ≡ new a + sum_by new after = sum_by-cons new a after in
        let was : sum_by old (a ∷ after) ≡ old a + sum_by old after = sum_by-cons old a after in
        omega (arith, first, rest, whole, was)

sum_nothing : {X : Type 0} (k f : X → ℕ) (a n : ℕ) → sum_by (λ m. sum_by f (bucket k [] m)) (range_with_len a n) ≡ 0
sum_nothing k f a zero = refl
sum_nothing k f a (suc n) =
    let first = sum_by-cons (λ m. sum_by f (bucket k [] m)) a (range_with_len (a + 1) n) in
    let rest = sum_nothing k f (a + 1) n in
    omega (arith, first, rest)

-- the sums of those with each number, together, are the sum of all
pub sum_by_number : {X : Type 0} (k f : X → ℕ) (xs : List X) (n : ℕ) → AllByRecursion (λ y. k y < n) xs
    → sum_by (λ m. sum_by f (bucket k xs m)) (range_with_len 0 n) ≡ sum_by f xs
sum_by_number k f [] n all = sum_nothing k f 0 n
sum_by_number k f (x ∷ xs) n all =
    let most = sum_least k f x xs 0 n (omega arith) (let below = all.0 in omega (arith, below)) in
    let rest = sum_by_number k f xs n all.1 in
    most ∙ ap (λ (s : ℕ). f x + s) rest ∙ sym (sum_by-cons f x xs)

pub sum_flat : {X A : Type 0} (f : A → ℕ) (g : X → List A) (xs : List X) → sum_by f (flat_map g xs) ≡ sum_by (λ x. sum_by f (g x)) xs
sum_flat f g [] = refl
sum_flat f g (x ∷ xs) =
    sum_by-append f (g x) (flat_map g xs) ∙ ap (λ (s : ℕ). sum_by f (g x) + s) (sum_flat f g xs) ∙ sym (sum_by-cons (λ y. sum_by f (g y)) x xs)
