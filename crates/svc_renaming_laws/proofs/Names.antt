-- Renamings, and lists of names.
use Rattle.std.proofs.Common.{◌≡◌, ◌≢◌, refl, sym, ap, ◌∙◌, subst, ℕ, zero, suc, ◌<◌, ◌≤◌, leb, Bool, false, List, [], ◌∷◌, ◌++◌, map, take, drop, length, get_or, inl, inr, arith, eq-eqb, ne_eqb}
use Rattle.std.specs.Bool.{◌==◌}
use Rattle.std.proofs.lemmas.Bool.{cases_Bool, cases_eq, leb-true, leb-false, lt-leb}
use Rattle.std.proofs.lemmas.List.{get_or-map}
use Rattle.svc_bus_laws.specs.Search.{all_below, tabulate}
use Rattle.svc_bus_laws.proofs.Searches.{all_from, all_fails, all_refuted, all_true}
use Rattle.svc_renaming_laws.specs.Renamings.{Renaming, IsRenaming, swap, swapped, unchanged, undone, followed_by}

-- ---- swaps

swap_first : (a b u : ℕ) → u ≡ a → swap a b u ≡ b
swap_first a b u e = rw (eq-eqb u a e)

swap_second : (a b u : ℕ) → u ≡ b → swap a b u ≡ a
swap_second a b u e = elim (cases_eq u a) [
  | inl is ↦ rw (eq-eqb u a is) (sym e ∙ is)
  | inr ne ↦ rw (ne_eqb u a ne, eq-eqb u b e)
]

swap_other : (a b u : ℕ) → u ≢ a → u ≢ b → swap a b u ≡ u
swap_other a b u ne un = rw (ne_eqb u a ne, ne_eqb u b un)

swap_twice : (a b u : ℕ) → swap a b (swap a b u) ≡ u
swap_twice a b u = elim (cases_eq u a) [
  | inl is ↦ ap (swap a b) (swap_first a b u is) ∙ swap_second a b b refl ∙ sym is
  | inr ne ↦ elim (cases_eq u b) [
    | inl is ↦ ap (swap a b) (swap_second a b u is) ∙ swap_first a b a refl ∙ sym is
    | inr un ↦ ap (swap a b) (swap_other a b u ne un) ∙ swap_other a b u ne un
  ]
]

swap_known : (n a b u : ℕ) → a < n → b < n → u < n → swap a b u < n
swap_known n a b u h k l = elim (cases_eq u a) [
  | inl is ↦ subst (λ v. v < n) (sym (swap_first a b u is)) k
  | inr ne ↦ elim (cases_eq u b) [
    | inl is ↦ subst (λ v. v < n) (sym (swap_second a b u is)) h
    | inr un ↦ subst (λ v. v < n) (sym (swap_other a b u ne un)) l
  ]
]

pub swaps_rename : (n a b : ℕ) → a < n → b < n → IsRenaming n (swapped a b)
swaps_rename n a b h k = record { returns = swap_twice a b; reaches = swap_twice a b; known = λ u. swap_known n a b u h k; known_back = λ u. swap_known n a b u h k }

pub unchanged_renames : (n : ℕ) → IsRenaming n unchanged
unchanged_renames n = record { returns = λ u. refl; reaches = λ u. refl; known = λ u h. h; known_back = λ u h. h }

pub undone_renames : (n : ℕ) (r : Renaming) → IsRenaming n r → IsRenaming n (undone r)
undone_renames n r is = record { returns = is.reaches; reaches = is.returns; known = is.known_back; known_back = is.known }

pub followed_renames : (n : ℕ) (r s : Renaming) → IsRenaming n r → IsRenaming n s → IsRenaming n (followed_by r s)
followed_renames n r s is so = record {
  returns = λ u. ap r.back (so.returns (r.there u)) ∙ is.returns u;
  reaches = λ u. ap s.there (is.reaches (s.back u)) ∙ so.reaches u;
  known = λ u h. so.known (r.there u) (is.known u h);
  known_back = λ u h. is.known_back (s.back u) (so.known_back u h);
}

-- ---- lists

pub tabulate_same : {A : Type 0} (n : ℕ) (f g : ℕ → A) → ((p : ℕ) → p < n → f p ≡ g p) → tabulate n f ≡ tabulate n g
tabulate_same zero f g same = refl
tabulate_same {A} (suc n) f g same =
    let first : f 0 ≡ g 0 = same 0 (omega arith) in
    let rest : tabulate n (λ p. f (suc p)) ≡ tabulate n (λ p. g (suc p)) = tabulate_same n (λ p. f (suc p)) (λ p. g (suc p)) (λ p h. same (suc p) (omega (arith, h))) in
    λ i. first i ∷ rest i

pub map_take : {A B : Type 0} (f : A → B) (n : ℕ) (xs : List A) → map f (take n xs) ≡ take n (map f xs)
map_take f zero xs = refl
map_take f (suc n) [] = refl
map_take {A} {B} f (suc n) (x ∷ xs) = ap {B = List B} (λ l. f x ∷ l) (map_take f n xs)

pub map_drop : {A B : Type 0} (f : A → B) (n : ℕ) (xs : List A) → map f (drop n xs) ≡ drop n (map f xs)
map_drop f zero xs = refl
map_drop f (suc n) [] = refl
map_drop f (suc n) (x ∷ xs) = map_drop f n xs

pub map_both : {A B X : Type 0} (f : A → B) (g : B → X) (xs : List A) → map g (map f xs) ≡ map (λ x. g (f x)) xs
map_both f g [] = refl
map_both {A} {B} {X} f g (x ∷ xs) = ap {B = List X} (λ l. g (f x) ∷ l) (map_both f g xs)

pub map_append : {A B : Type 0} (f : A → B) (xs ys : List A) → map f (xs ++ ys) ≡ map f xs ++ map f ys
map_append f [] ys = refl
map_append {A} {B} f (x ∷ xs) ys = ap {B = List B} (λ l. f x ∷ l) (map_append f xs ys)

module _ (r : Renaming) (n : ℕ) (is : IsRenaming n r) where
  -- a unit has this new name if it is the one with that name
  pub same_name : (v u : ℕ) → (v == r.there u) ≡ (r.back v == u)
  same_name v u = elim (cases_eq v (r.there u)) [
    | inl e ↦ eq-eqb v (r.there u) e ∙ sym (eq-eqb (r.back v) u (ap r.back e ∙ is.returns u))
    | inr ne ↦ ne_eqb v (r.there u) ne ∙ sym (ne_eqb (r.back v) u (λ e. ne (sym (is.reaches v) ∙ ap r.there e)))
  ]

  -- units are equal if their new names are
  pub both_names : (v u : ℕ) → (r.there v == r.there u) ≡ (v == u)
  both_names v u = same_name (r.there v) u ∙ ap (λ w. w == u) (is.returns v)

  -- a new name is one of so many if the old one is
  pub same_known : (u : ℕ) → leb n (r.there u) ≡ leb n u
  same_known u = elim (cases_Bool (leb n (r.there u))) [
    | inl above ↦ elim (cases_Bool (leb n u)) [
      | inl also ↦ above ∙ sym also
      | inr below ↦
          let h : r.there u < n = is.known u (leb-false n u below) in
          let k : n ≤ r.there u = leb-true n (r.there u) above in
          absurd (omega (arith, h, k))
    ]
    | inr below ↦ below ∙ sym (lt-leb n u (subst (λ v. v < n) (is.returns u) (is.known_back (r.there u) (leb-false n (r.there u) below))))
  ]

  pub named_at : (us : List ℕ) (p : ℕ) → p < length us → get_or (map r.there us) p 0 ≡ r.there (get_or us p 0)
  named_at us p h = get_or-map r.there us p 0 0 h

  pub back_at : (us : List ℕ) (p : ℕ) → p < length us → r.back (get_or (map r.there us) p 0) ≡ get_or us p 0
  back_at us p h = ap r.back (named_at us p h) ∙ is.returns (get_or us p 0)

  pub is_at : (us : List ℕ) (p v : ℕ) → p < length us → (v == get_or (map r.there us) p 0) ≡ (r.back v == get_or us p 0)
  is_at us p v h = ap (λ u. v == u) (named_at us p h) ∙ same_name v (get_or us p 0)

  -- all units pass a test in whichever order
  pub all_renamed : (test : ℕ → Bool) → all_below n (λ v. test (r.back v)) ≡ all_below n test
  all_renamed test = elim (cases_Bool (all_below n test)) [
    | inl all ↦ all_from n (λ v. test (r.back v)) (λ v h. all_true n test all (r.back v) (is.known_back v h)) ∙ sym all
    | inr some ↦ fails (all_fails n test some) ∙ sym some
  ]
    where
      fails : ((k : ℕ) × (k < n) × (test k ≡ false)) → all_below n (λ v. test (r.back v)) ≡ false
      fails w = all_refuted n (λ v. test (r.back v)) (r.there w.0) (is.known w.0 w.1) (ap test (is.returns w.0) ∙ w.2)
