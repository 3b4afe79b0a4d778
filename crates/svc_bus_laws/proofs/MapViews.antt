-- The view, the victim and the walk in the subject's words.
use Rattle.std.proofs.Common.{◌≡◌, refl, sym, ap, ◌∙◌, ℕ, suc, zero, ◌+◌, ◌-◌, ◌<◌, ◌≤◌, Some, None, true, false, Bool, ◌&&◌, ◌||◌, Option, length, inl, inr, arith, true≢false, ltb, leb, ltb-true, ltb-false, leb-true, subst, is_some, is_none}
use Rattle.std.proofs.lemmas.Bool.{cases_Bool}
use Rattle.svc_bus_laws.specs.Versioned.{Versioned, version, is_exposed, view, none_between, victim}
use Rattle.svc_bus_laws.specs.Walk.{walk}
use Rattle.svc_bus_laws.specs.MapLaws.{IsVictim, IsWalked}
use Rattle.svc_bus_laws.proofs.Searches.{Found, least_cases, all_true, some_is, cases_below}
use Rattle.svc_bus_laws.proofs.Maps.{latest_none, latest_at, not_chosen, walk_finds, walk_stops, walk_ends}

-- ---- the view

pub committed_view : (m : Versioned) (p a : ℕ) → ((q : ℕ) → q ≤ p → version m q a ≡ None) → view m p a ≡ m.committed a
committed_view m p a none = latest_none _ _ (suc p) (λ q h. none q (omega (arith, h)))

pub nearest_view : (m : Versioned) (p q a x : ℕ) → q ≤ p → version m q a ≡ Some x → ((r : ℕ) → q < r → r ≤ p → version m r a ≡ None) → view m p a ≡ x
nearest_view m p q a x h is none = latest_at _ _ (suc p) q x (omega (arith, h)) is (λ r i j. none r i (omega (arith, j)))

-- ---- the victim

-- between two places no task has a version
none_is : (m : Versioned) (p a v : ℕ) → none_between m p v a ≡ true → (r : ℕ) → p < r → r < v → version m r a ≡ None
none_is m p a v e r h i = go (leb r p) refl (version m r a) (all_true v _ e r i)
  where
    go : (low : Bool) → leb r p ≡ low → (o : Option ℕ) → (low || is_none o) ≡ true → o ≡ None
    go true x o e = absurd (omega (arith, h, leb-true r p x))
    go false x None e = refl
    go false x (Some k) e = absurd (true≢false (sym e))

parts : (x y z : Bool) → ((x && y) && z) ≡ true → (x ≡ true) × (y ≡ true) × (z ≡ true)
parts true true z e = (refl, refl, e)
parts true false z e = absurd (true≢false (sym e))
parts false y z e = absurd (true≢false (sym e))

is_false : (b : Bool) → (b ≡ true → ⊥) → b ≡ false
is_false true f = absurd (f refl)
is_false false f = refl

pub victim_is : (m : Versioned) (p a v : ℕ) → victim m p a ≡ Some v → IsVictim m p a v
victim_is m p a v e = elim (least_cases (length m.rows) (λ v. (ltb p v && is_exposed m v a) && none_between m p v a)) [
  | inl (none, never) ↦ absurd (no_some (sym none ∙ e))
  | inr (k, is, found) ↦ subst (IsVictim m p a) (some_is k v (sym is ∙ e)) (chosen k found)
]
  where
    no_some : ◌≡◌ {A = Option ℕ} None (Some v) → ⊥
    no_some e = true≢false (ap is_none e)

    chosen : (k : ℕ) → Found (length m.rows) (λ v. (ltb p v && is_exposed m v a) && none_between m p v a) k → IsVictim m p a k
    chosen k found =
        let w = parts (ltb p k) (is_exposed m k a) (none_between m p k a) found.passes in
        let free : (r : ℕ) → p < r → r < k → version m r a ≡ None = λ r i j. none_is m p a k w.2 r i j in
        record {
          active = found.within;
          later = ltb-true p k w.0;
          exposed = w.1;
          unversioned = free;
          least = λ r i j. is_false (is_exposed m r a) (λ shown.
              let n = not_chosen m p a r i shown (found.before r j) in
              true≢false (sym n.3 ∙ ap is_some (free n.0 n.1 (omega (arith, n.2, j)))));
        }

walked : (m : Versioned) (p a v : ℕ) → IsVictim m p a v → IsWalked m p a v
walked m p a v is = record { fresh = is.least; unversioned = λ k h i. ap is_none (is.unversioned k h i) }

pub is_the_victim : (m : Versioned) (p a v : ℕ) → IsVictim m p a v → victim m p a ≡ Some v
is_the_victim m p a v is = walk_finds m p a v (walked m p a v is) is.later is.active is.exposed

pub no_victim : (m : Versioned) (p a q : ℕ) → victim m p a ≡ None → p < q → q < length m.rows → is_exposed m q a ≡ true → (r : ℕ) × (p < r) × (r < q) × (is_some (version m r a) ≡ true)
no_victim m p a q e h k shown = elim (least_cases (length m.rows) (λ v. (ltb p v && is_exposed m v a) && none_between m p v a)) [
  | inl (none, never) ↦ not_chosen m p a q h shown (never q k)
  | inr (v, is, found) ↦ absurd (true≢false (sym (ap is_none (sym is ∙ e)) ∙ refl))
]

-- ---- the walk

-- the rest of the walk, from a place up to which nothing was met
walk_on : (m : Versioned) (p a v n : ℕ) → p < v → v + n ≡ length m.rows → IsWalked m p a v → walk (λ q. is_exposed m q a) (λ q. is_some (version m q a)) v n ≡ victim m p a
walk_on m p a v zero h e before = sym (walk_ends m p a (subst (IsWalked m p a) (omega (arith, e)) before))
walk_on m p a v (suc n) h e before = elim (cases_Bool (is_exposed m v a)) [
  | inl shown ↦ rw shown (sym (walk_finds m p a v before h (omega (arith, e)) shown))
  | inr fresh ↦ rw fresh (elim (cases_Bool (is_some (version m v a))) [
    | inl stored ↦ rw stored (sym (walk_stops m p a v before h fresh (not_none _ stored)))
    | inr none ↦ rw none (walk_on m p a (suc v) n (omega (arith, h)) (omega (arith, e)) (record {
      fresh = λ k i j. elim (cases_below k v j) [ inl lt ↦ before.fresh k i lt | inr is ↦ rw is fresh ];
      unversioned = λ k i j. elim (cases_below k v j) [ inl lt ↦ before.unversioned k i lt | inr is ↦ rw is (still_none _ none) ];
    }))
  ])
]
  where
    not_none : (o : Option ℕ) → is_some o ≡ true → is_none o ≡ false
    not_none None e = absurd (true≢false (sym e))
    not_none (Some x) e = refl

    still_none : (o : Option ℕ) → is_some o ≡ false → is_none o ≡ true
    still_none None e = refl
    still_none (Some x) e = absurd (true≢false e)

pub walk_is : (m : Versioned) (p a : ℕ) → walk (λ q. is_exposed m q a) (λ q. is_some (version m q a)) (suc p) (length m.rows - suc p) ≡ victim m p a
walk_is m p a = elim (cases_Bool (ltb p (length m.rows))) [
  | inl within ↦ walk_on m p a (suc p) (length m.rows - suc p) (omega arith) (omega (arith, ltb-true p (length m.rows) within)) (record {
    fresh = λ k h i. absurd (omega (arith, h, i));
    unversioned = λ k h i. absurd (omega (arith, h, i));
  })
  | inr past ↦
      let none : length m.rows - suc p ≡ 0 = omega (arith, ltb-false p (length m.rows) past) in
      ap (walk (λ q. is_exposed m q a) (λ q. is_some (version m q a)) (suc p)) none
      ∙ sym (walk_ends m p a (record {
        fresh = λ k h i. absurd (omega (arith, h, i, ltb-false p (length m.rows) past));
        unversioned = λ k h i. absurd (omega (arith, h, i, ltb-false p (length m.rows) past));
      }))
]
