-- The squash of one unit's lines after another's.
use Rattle.std.proofs.Common.{◌≡◌, ◌∙◌, refl, sym, ap, subst, ℕ, suc, ◌+◌, ◌<◌, ◌≤◌, Bool, true, false, cond, ◌&&◌, leb, leb-true, leb-false, Option, Some, None, List, length, get_or, set, inl, inr, arith, length-set, get_or-set_same, get_or-set_other, eq-eqb, ne_eqb, le-leb}
use Rattle.std.specs.Prelude.{if◌then◌else◌}
use Rattle.std.specs.Bool.{◌==◌}
use Rattle.std.proofs.lemmas.Bool.{cases_Bool, cases_eq}
use Rattle.svc_line.specs.Bits.{is_active}
use Rattle.svc_line.specs.Line.{SeenLine}
use Rattle.svc_cache.specs.Lines.{LineMap, squash_line}
use Rattle.svc_cache.specs.Places.{CacheValue, line_of}
use Rattle.svc_bus_laws.specs.Search.{any_below}
use Rattle.svc_bus_laws.specs.LineTable.{is_cut}
use Rattle.svc_bus_laws.proofs.Searches.{any_none}
use Rattle.svc_retire.specs.Caches.{no_cache, cache_at, held_line, SameSizes}
use Rattle.svc_retire.proofs.Bools.{or_true, or_false, and_false}

-- the unit runs one of the tasks from a place on, among the first so many
abbrev pub is_cut_below : List ℕ → (from count u : ℕ) → Bool
is_cut_below units from count u = any_below count (λ q. leb from q && (get_or units q 0 == u))

-- a line after the squash of the units that were come to
abbrev pub line_after : Bool → Option SeenLine → Option SeenLine
line_after cut line = cond cut (squash_line line) line

-- the lines of the caches after the tasks of the first so many places were squashed
pub record IsSquashed (before now : List CacheValue) (units : List ℕ) (from count : ℕ) : Type 0 where
  pub lines : (u a : ℕ) → held_line now u a ≡ line_after (is_cut_below units from count u) (held_line before u a)
  pub sizes : SameSizes before now

pub none_cut : (units : List ℕ) (from count u : ℕ) → count ≤ from → is_cut_below units from count u ≡ false
none_cut units from count u few = any_none count _ (λ q low. above q (omega (arith, low, few)))
  where
    above : (q : ℕ) → q < from → (leb from q && (get_or units q 0 == u)) ≡ false
    above q low = elim (cases_Bool (leb from q)) [
      | inr fail ↦ rw fail
      | inl pass ↦ absurd (omega (arith, low, leb-true from q pass))
    ]

pub squash_begins : (caches : List CacheValue) (units : List ℕ) (from : ℕ) → IsSquashed caches caches units from from
squash_begins caches units from = record {
  lines = λ u a. rw (none_cut units from from u (omega arith));
  sizes = record { count = refl; sets = λ u. refl; ways = λ u. refl };
}

-- a line squashed once more
again : (cut : Bool) (line : Option SeenLine) → squash_line (line_after cut line) ≡ line_after true line
again false line = refl
again true None = refl
again true (Some l) = go (is_active l.bits) refl
  where
    go : (active : Bool) → is_active l.bits ≡ active → squash_line (if active then None else Some l) ≡ (if active then None else Some l)
    go true e = refl
    go false e = rw e refl

-- one more cache is squashed
pub squash_steps : (before now : List CacheValue) (units : List ℕ) (from count : ℕ) (new : CacheValue) → from ≤ count → get_or units count 0 < length now
    → IsSquashed before now units from count
    → line_of new ≡ (λ word. squash_line (line_of (cache_at now (get_or units count 0)) word))
    → new.sets ≡ (cache_at now (get_or units count 0)).sets → new.ways ≡ (cache_at now (get_or units count 0)).ways
    → IsSquashed before (set now (get_or units count 0) new) units from (count + 1)
squash_steps before now units from count new at within done lines sets ways = record {
  lines = λ u a. subst (λ n. held_line (set now unit new) u a ≡ line_after (is_cut_below units from n u) (held_line before u a)) (let e : suc count ≡ count + 1 = omega arith in e) (stepped u a);
  sizes = record {
    count = length-set now unit new ∙ done.sizes.count;
    sets = λ u. elim (cases_eq u unit) [
      | inl e ↦ rw e (ap (λ (c : CacheValue). c.sets) (get_or-set_same now unit new no_cache within) ∙ sets ∙ done.sizes.sets unit)
      | inr ne ↦ ap (λ (c : CacheValue). c.sets) (get_or-set_other now unit u new no_cache ne) ∙ done.sizes.sets u
    ];
    ways = λ u. elim (cases_eq u unit) [
      | inl e ↦ rw e (ap (λ (c : CacheValue). c.ways) (get_or-set_same now unit new no_cache within) ∙ ways ∙ done.sizes.ways unit)
      | inr ne ↦ ap (λ (c : CacheValue). c.ways) (get_or-set_other now unit u new no_cache ne) ∙ done.sizes.ways u
    ];
  };
}
  where
    unit : ℕ
    unit = get_or units count 0

    own : (a : ℕ) → held_line (set now (get_or units count 0) new) (get_or units count 0) a ≡ line_after true (held_line before (get_or units count 0) a)
    own a =
        let u = get_or units count 0 in
        ap (λ (c : CacheValue). line_of c a) (get_or-set_same now u new no_cache within)
        ∙ ap (λ (f : LineMap). f a) lines
        ∙ ap squash_line (done.lines u a)
        ∙ again (is_cut_below units from count u) (held_line before u a)

    stepped : (u a : ℕ) → held_line (set now (get_or units count 0) new) u a ≡ line_after (is_cut_below units from (suc count) u) (held_line before u a)
    stepped u a = elim (cases_eq u (get_or units count 0)) [
      | inl e ↦
          let passes : (leb from count && (get_or units count 0 == u)) ≡ true = rw (le-leb from count at, eq-eqb (get_or units count 0) u (sym e)) in
          let cut : is_cut_below units from (suc count) u ≡ true = or_true (is_cut_below units from count u) _ passes in
          ap (λ v. held_line (set now (get_or units count 0) new) v a) e ∙ own a ∙ ap (λ v. line_after true (held_line before v a)) (sym e) ∙ ap (λ x. line_after x (held_line before u a)) (sym cut)
      | inr ne ↦
          let fails : (leb from count && (get_or units count 0 == u)) ≡ false = and_false (leb from count) _ (ne_eqb (get_or units count 0) u (λ e. ne (sym e))) in
          let cut : is_cut_below units from (suc count) u ≡ is_cut_below units from count u = or_false (is_cut_below units from count u) _ fails in
          ap (λ (c : CacheValue). line_of c a) (get_or-set_other now (get_or units count 0) u new no_cache ne) ∙ done.lines u a ∙ ap (λ x. line_after x (held_line before u a)) (sym cut)
    ]

-- all of them were
pub squash_ends : (before now : List CacheValue) (units : List ℕ) (from count : ℕ) → length units ≤ count → (from ≤ length units → count ≤ length units) → (length units < from → count ≤ from) → IsSquashed before now units from count
    → (u a : ℕ) → held_line now u a ≡ cond (is_cut units from u) (squash_line (held_line before u a)) (held_line before u a)
squash_ends before now units from count all exact none done u a = done.lines u a ∙ ap (λ x. line_after x (held_line before u a)) same
  where
    same : is_cut_below units from count u ≡ is_cut units from u
    same = elim (cases_Bool (leb from (length units))) [
      | inl inside ↦ let e : count ≡ length units = omega (arith, all, exact (leb-true from (length units) inside)) in ap (λ n. is_cut_below units from n u) e
      | inr past ↦
          let high : length units < from = omega (arith, leb-false from (length units) past) in
          none_cut units from count u (none high) ∙ sym (none_cut units from (length units) u (omega (arith, high)))
    ]
