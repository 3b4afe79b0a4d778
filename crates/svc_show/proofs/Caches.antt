-- What caches have of a named word, one cache more.
use Rattle.std.proofs.Common.{◌≡◌, ◌∙◌, ◌+◌, ◌<◌, ◌⊎◌, inl, inr, ℕ, Bool, true, false, None, cond, refl, ap, sym, arith}
use Rattle.std.specs.Prelude.{◌==◌}
use Rattle.std.proofs.lemmas.Bool.{cases_eq}
use Rattle.svc_bus_laws.specs.BusLine.{is_committed_dirty_line, value_of_line}
use Rattle.svc_bus_laws.specs.BusState.{BusState}
use Rattle.svc_show.specs.declared.cached.Versions.{Versions}
use Rattle.svc_show.specs.declared.cached.Versions.TheVariants.{Absent, One, Several}
use Rattle.svc_held.specs.declared.named.Named.{Named}
use Rattle.svc_held.specs.Held.{HasItsLines, line_named}
use Rattle.svc_held.proofs.Listed.{own_line}
use Rattle.svc_show.specs.Named.{AreVersions, NoneHas, OneHas, and_line, and_version, is_named_version}

module _ (b : BusState) (n : Named) where
  -- whether one of the units so far or the next one
  last_or : (u k : ℕ) → u < k + 1 → (u < k) ⊎ (u ≡ k)
  last_or u k h = by (cases_eq u k)
    where
      by : (u ≡ k) ⊎ (u ≡ k → ⊥) → (u < k) ⊎ (u ≡ k)
      by (inl e) = inr e
      by (inr ne) = inl (grind (arith, h, ne))

  still_none : (k : ℕ) → NoneHas b n k → is_named_version b n k ≡ false → NoneHas b n (k + 1)
  still_none k none last u inside = by (last_or u k inside)
    where
      by : (u < k) ⊎ (u ≡ k) → is_named_version b n u ≡ false
      by (inl below) = none u below
      by (inr e) = ap (is_named_version b n) e ∙ last

  still_one : (k value : ℕ) → OneHas b n k value → is_named_version b n k ≡ false → OneHas b n (k + 1) value
  still_one k value one last = record {
    unit = one.unit;
    inside = let h = one.inside in omega (arith, h);
    has = one.has;
    value_is = one.value_is;
    others = λ u inside other. by u other (last_or u k inside);
  }
    where
      by : (u : ℕ) → (u == one.unit) ≡ false → (u < k) ⊎ (u ≡ k) → is_named_version b n u ≡ false
      by u other (inl below) = one.others u below other
      by u other (inr e) = ap (is_named_version b n) e ∙ last

  now_one : (k : ℕ) → NoneHas b n k → is_named_version b n k ≡ true → OneHas b n (k + 1) (value_of_line (line_named b n k))
  now_one k none last = record {
    unit = k;
    inside = omega arith;
    has = last;
    value_is = refl;
    others = λ u inside other. by u other (last_or u k inside);
  }
    where
      by : (u : ℕ) → (u == k) ≡ false → (u < k) ⊎ (u ≡ k) → is_named_version b n u ≡ false
      by u other (inl below) = none u below
      by u other (inr e) = absurd (grind (arith, other, e))

  pub one_cache : (k : ℕ) (vs : Versions) → AreVersions b n k vs → AreVersions b n (k + 1) (and_line vs (line_named b n k))
  one_cache k vs are = by vs (is_named_version b n k) refl are
    where
      by : (vs : Versions) (x : Bool) → is_named_version b n k ≡ x → AreVersions b n k vs
          → AreVersions b n (k + 1) (cond x (and_version vs (value_of_line (line_named b n k))) vs)
      by Absent true e are = now_one k are e
      by (One value) true e are = tt
      by Several true e are = tt
      by Absent false e are = still_none k are e
      by (One value) false e are = still_one k value are e
      by Several false e are = tt

  pub no_version : (words units : ℕ) → HasItsLines b words n → NoneHas b n units → (u : ℕ) → u < units → is_committed_dirty_line (b.lines u n.word.0) ≡ false
  no_version words units own none u inside = ap is_committed_dirty_line (sym (own_line b words n own u)) ∙ none u inside

  pub the_version : (words units value : ℕ) → HasItsLines b words n → (one : OneHas b n units value) → is_committed_dirty_line (b.lines one.unit n.word.0) ≡ true
  the_version words units value own one = ap is_committed_dirty_line (sym (own_line b words n own one.unit)) ∙ one.has

  pub the_value : (words units value : ℕ) → HasItsLines b words n → (one : OneHas b n units value) → value_of_line (b.lines one.unit n.word.0) ≡ value
  the_value words units value own one = ap value_of_line (sym (own_line b words n own one.unit)) ∙ one.value_is

  pub no_other : (words units value : ℕ) → HasItsLines b words n → (one : OneHas b n units value) → (u : ℕ) → u < units → (u == one.unit) ≡ false
      → is_committed_dirty_line (b.lines u n.word.0) ≡ false
  no_other words units value own one u inside other = ap is_committed_dirty_line (sym (own_line b words n own u)) ∙ one.others u inside other
