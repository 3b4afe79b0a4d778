-- One more line comes to the end of a list.
use Rattle.std.proofs.Common.{◌≡◌, ◌⊎◌, ◌∙◌, refl, sym, ap, ℕ, ◌+◌, ◌<◌, true, false, Option, Some, None, List, [], ◌∷◌, ◌++◌, length, get_or, option_map, inl, inr, arith, true≢false, length-append, append_assoc}
use Rattle.std.proofs.lemmas.Bool.{cases_eq}
use Rattle.std.proofs.lemmas.List.{get_or_append_left, get_or_at}
use Rattle.svc_line.specs.Line.{seen_line}
use Rattle.svc_vol.specs.declared.held_line.HeldLine.{HeldLine}
use Rattle.svc_vol.specs.Lines.{UnitLines}
use Rattle.svc_vol.specs.Value.{no_held_line, unit_at, held_at}
use Rattle.svc_line.specs.declared.line.Line.{Line}
use Rattle.svc_vol.specs.Listed.{is_copy, AreCopies, IsCopyIn, ListsAfter}

longer : (versions : List HeldLine) (new : HeldLine) → length (versions ++ new ∷ []) ≡ length versions + 1
longer versions new = length-append versions (new ∷ [])

old_at : (versions : List HeldLine) (new : HeldLine) (k : ℕ) → k < length versions → held_at (versions ++ new ∷ []) k ≡ held_at versions k
old_at versions new k h = get_or_append_left versions (new ∷ []) no_held_line k h

new_at : (versions : List HeldLine) (new : HeldLine) (k : ℕ) → k ≡ length versions → held_at (versions ++ new ∷ []) k ≡ new
new_at versions new k is = ap (held_at (versions ++ new ∷ [])) is ∙ get_or_at versions new [] no_held_line (length versions) refl

last_or_old : (n k : ℕ) → k < n + 1 → (k < n) ⊎ (k ≡ n)
last_or_old n k h = grind arith

which : (versions : List HeldLine) (new : HeldLine) (k : ℕ) → k < length (versions ++ new ∷ []) → (k < length versions) ⊎ (k ≡ length versions)
which versions new k h = last_or_old (length versions) k (let e = longer versions new in omega (arith, h, e))

module _ (lines : UnitLines) (n : ℕ) (versions : List HeldLine) (are : AreCopies lines n versions) where
  pub copy_less : is_copy (lines n) ≡ false → AreCopies lines (n + 1) versions
  copy_less other = record {
    within = λ k h. let low = are.within k h in omega (arith, low);
    held = are.held;
    clean = are.clean;
    each = λ u h copy. elim (cases_eq u n) [
      | inl is ↦ absurd (true≢false (sym copy ∙ ap (λ v. is_copy (lines v)) is ∙ other))
      | inr ne ↦ are.each u (omega (arith, h, ne)) copy
    ];
    apart = are.apart;
  }

  module _ (new : HeldLine) (unit : new.unit.0 ≡ n) (held : lines n ≡ Some (seen_line new.line)) (copy : is_copy (lines n) ≡ true) where
    abbrev after : List HeldLine
    after = versions ++ new ∷ []

    was : (k : ℕ) → k < length versions → unit_at after k ≡ unit_at versions k
    was k h = ap (λ (v : HeldLine). v.unit.0) (old_at versions new k h)

    last : (k : ℕ) → k ≡ length versions → unit_at after k ≡ n
    last k is = ap (λ (v : HeldLine). v.unit.0) (new_at versions new k is) ∙ unit

    pub copy_more : AreCopies lines (n + 1) (versions ++ new ∷ [])
    copy_more = record {
      within = λ k h. elim (which versions new k h) [
        | inl low ↦ let below = are.within k low in let e = was k low in omega (arith, below, e)
        | inr is ↦ let e = last k is in omega (arith, e)
      ];
      held = λ k h. elim (which versions new k h) [
        | inl low ↦ ap lines (was k low) ∙ are.held k low ∙ ap (λ (v : HeldLine). Some (seen_line v.line)) (sym (old_at versions new k low))
        | inr is ↦ ap lines (last k is) ∙ held ∙ ap (λ (v : HeldLine). Some (seen_line v.line)) (sym (new_at versions new k is))
      ];
      clean = λ k h. elim (which versions new k h) [
        | inl low ↦ ap (λ u. is_copy (lines u)) (was k low) ∙ are.clean k low
        | inr is ↦ ap (λ u. is_copy (lines u)) (last k is) ∙ copy
      ];
      each = λ u h there. let size = longer versions new in elim (cases_eq u n) [
        | inl is ↦ (length versions, omega (arith, size), last (length versions) refl ∙ sym is)
        | inr ne ↦ let found = are.each u (omega (arith, h, ne)) there in (found.0, let low = found.1 in omega (arith, low, size), was found.0 found.1 ∙ found.2)
      ];
      apart = λ j k less h same. elim (which versions new k h) [
        | inl low ↦ are.apart j k less low (sym (was j (omega (arith, less, low))) ∙ same ∙ was k low)
        | inr is ↦
            let early : j < length versions = omega (arith, less, is) in
            let below = are.within j early in
            let e = was j early in
            let top = last k is in
            omega (arith, below, e, top, same)
      ];
    }

pub no_copies : (lines : UnitLines) → AreCopies lines 0 []
no_copies lines = record {
  within = λ k h. absurd (omega (arith, h));
  held = λ k h. absurd (omega (arith, h));
  clean = λ k h. absurd (omega (arith, h));
  each = λ u h copy. absurd (omega (arith, h));
  apart = λ j k less h. absurd (omega (arith, h));
}

pub none_after : (lines : UnitLines) (old : List HeldLine) (order : List ℕ) → old ≡ old ++ [] → ListsAfter lines old order 0 old
none_after lines old order same = record { later = []; are = same; size = refl; units = λ k h. absurd (omega (arith, h)); held = λ k h. absurd (omega (arith, h)) }

pub one_after : (lines : UnitLines) (old : List HeldLine) (order : List ℕ) (count : ℕ) (versions : List HeldLine) (new : HeldLine) → ListsAfter lines old order count versions
    → new.unit.0 ≡ get_or order count 0 → lines new.unit.0 ≡ Some (seen_line new.line) → ListsAfter lines old order (count + 1) (versions ++ new ∷ [])
one_after lines old order count versions new after unit held = record {
  later = after.later ++ new ∷ [];
  are = ap (λ (vs : List HeldLine). vs ++ new ∷ []) after.are ∙ append_assoc old after.later (new ∷ []);
  size = longer after.later new ∙ ap (λ n. n + 1) after.size;
  units = λ k h. elim (last_or_old count k h) [
    | inl low ↦ ap (λ (v : HeldLine). v.unit.0) (old_at after.later new k (let size = after.size in omega (arith, low, size))) ∙ after.units k low
    | inr is ↦ ap (λ (v : HeldLine). v.unit.0) (new_at after.later new k (is ∙ sym after.size)) ∙ unit ∙ ap (λ i. get_or order i 0) (sym is)
  ];
  held = λ k h. elim (last_or_old count k h) [
    | inl low ↦
        let e = old_at after.later new k (let size = after.size in omega (arith, low, size)) in
        ap (λ (v : HeldLine). lines v.unit.0) e ∙ after.held k low ∙ ap (λ (v : HeldLine). Some (seen_line v.line)) (sym e)
    | inr is ↦
        let e = new_at after.later new k (is ∙ sym after.size) in
        ap (λ (v : HeldLine). lines v.unit.0) e ∙ held ∙ ap (λ (v : HeldLine). Some (seen_line v.line)) (sym e)
  ];
}

-- ---- the line that is a clean committed one

pub copy_found : (line copy : Option Line) (l : Line) → IsCopyIn line copy → copy ≡ Some l → (line ≡ Some l) × (is_copy (Some (seen_line l)) ≡ true)
copy_found None copy l is e = let none = sym is ∙ e in cc
copy_found (Some m) None l is e = cc
copy_found (Some m) (Some k) l is e = let same : k ≡ l = some_line e in (ap Some (sym is.0 ∙ same), ap (λ (x : Line). is_copy (Some (seen_line x))) (sym same ∙ is.0) ∙ is.1)
  where
    some_line : {x y : Line} → ◌≡◌ {A = Option Line} (Some x) (Some y) → x ≡ y
    some_line e = cc

pub copy_missed : (line copy : Option Line) → IsCopyIn line copy → copy ≡ None → is_copy (option_map seen_line line) ≡ false
copy_missed None copy is e = refl
copy_missed (Some m) None is e = is
copy_missed (Some m) (Some k) is e = cc
