-- Clean lines, and then versions along the links, make the list of a word's committed lines.
use Rattle.std.proofs.Common.{◌≡◌, ◌≢◌, ◌⊎◌, ◌∙◌, refl, sym, ap, subst, ℕ, ◌+◌, ◌-◌, ◌<◌, ◌≤◌, Bool, true, false, cond, not, ◌&&◌, ltb, lt-ltb, le-ltb, Option, Some, None, List, length, get_or, inl, inr, arith, true≢false, length-append}
use Rattle.std.proofs.lemmas.Bool.{cases_Bool, cases_lt, cases_eq}
use Rattle.std.proofs.lemmas.List.{get_or_append_left, get_or-append_right}
use Rattle.svc_line.specs.Bits.{is_committed}
use Rattle.svc_line.specs.Line.{SeenLine, seen_line}
use Rattle.svc_cache.specs.Lines.{is_committed_line}
use Rattle.svc_links_laws.specs.LinkOrder.{reaches}
use Rattle.svc_links_laws.specs.Walks.{IsWalk}
use Rattle.svc_links_laws.proofs.Orders.{reaches_above}
use Rattle.svc_links_laws.proofs.Walking.{walk_dirty, walk_has_all, walk_once, walk_ordered}
use Rattle.svc_vol.specs.declared.held_line.HeldLine.{HeldLine}
use Rattle.svc_vol.specs.Lines.{UnitLines, is_committed_version, is_older_line, links_of, versions_of, AreValid, IsRanked}
use Rattle.svc_vol.specs.Listed.{is_copy, AreCopies, ListsAfter}
use Rattle.svc_vol.specs.Walked.{AreWalked}
use Rattle.svc_vol.specs.Value.{no_held_line, unit_at, held_at, AreCommitted, IsCommittedHeldLine}
use Rattle.svc_vol.proofs.Fewness.{few_numbers}

-- ---- a walk

and_false : (x y : Bool) → y ≡ false → (x && y) ≡ false
and_false true y e = e
and_false false y e = refl

pub are_walked : (lines : UnitLines) (units : ℕ) (list : List ℕ) → IsRanked units lines → IsWalk (versions_of lines) (links_of lines) list → AreWalked lines units list
are_walked lines units list ranked walk = record {
  all = λ u e. walk_has_all units (versions_of lines) (links_of lines) list u ranked walk e;
  only = λ i h. walk_dirty (versions_of lines) (links_of lines) list i walk.so_far h;
  once = λ i j h k same. walk_once units (versions_of lines) (links_of lines) list i j ranked walk.so_far h k same;
  oldest_first = λ i j less h. and_false (versions_of lines (get_or list j 0)) _ (walk_ordered units (versions_of lines) (links_of lines) list i j ranked walk.so_far less h).1;
}

pub none_walked : (lines : UnitLines) (units : ℕ) (list : List ℕ) → length list ≡ 0 → ((u : ℕ) → versions_of lines u ≡ false) → AreWalked lines units list
none_walked lines units list empty never = record {
  all = λ u e. absurd (true≢false (sym e ∙ never u));
  only = λ i h. absurd (omega (arith, h, empty));
  once = λ i j h k same. absurd (omega (arith, h, empty));
  oldest_first = λ i j less h. absurd (omega (arith, h, empty));
}

-- ---- one line

-- a clean line is no version
never_both : (line : Option SeenLine) → is_copy line ≡ true → is_committed_version line ≡ true → ⊥
never_both None copy version = true≢false (sym copy)
never_both (Some l) copy version = go l.bits.valid l.bits.commit l.bits.store copy version
  where
    go : (v c s : Bool) → ((v && c) && not (v && s)) ≡ true → (c && s) ≡ true → ⊥
    go v true true copy version = two v copy
      where
        two : (v : Bool) → ((v && true) && not (v && true)) ≡ true → ⊥
        two true e = true≢false (sym e)
        two false e = true≢false (sym e)
    go v true false copy version = true≢false (sym version)
    go v false s copy version = true≢false (sym version)

-- a committed line that is no version is clean
either_one : (line : Option SeenLine) → is_committed_line line ≡ true → is_committed_version line ≡ false → is_copy line ≡ true
either_one None committed other = committed
either_one (Some l) committed other = go l.bits.valid l.bits.commit l.bits.store committed other
  where
    go : (v c s : Bool) → (v && c) ≡ true → (c && s) ≡ false → ((v && c) && not (v && s)) ≡ true
    go true true true committed other = absurd (true≢false other)
    go true true false committed other = refl
    go true false s committed other = committed
    go false c s committed other = committed

copy_settled : (l : SeenLine) → is_copy (Some l) ≡ true → is_committed l.bits ≡ true
copy_settled l copy = go (is_committed l.bits) _ copy
  where
    go : (x y : Bool) → (x && y) ≡ true → x ≡ true
    go true y e = refl
    go false y e = e

version_settled : (l : SeenLine) → l.bits.valid ≡ true → is_committed_version (Some l) ≡ true → is_committed l.bits ≡ true
version_settled l valid version = ap (λ v. v && l.bits.commit) valid ∙ go l.bits.commit l.bits.store version
  where
    go : (x y : Bool) → (x && y) ≡ true → (true && x) ≡ true
    go true y e = refl
    go false y e = e

module _ (lines : UnitLines) (n : ℕ) (copies : List HeldLine) (order : List ℕ) (clean : AreCopies lines n copies) (walked : AreWalked lines n order) (ranked : IsRanked n lines) where
  -- a clean line's unit is not one of the order
  crossed : (k i : ℕ) → k < length copies → i < length order → unit_at copies k ≡ get_or order i 0 → ⊥
  crossed k i h j same = never_both (lines (unit_at copies k)) (clean.clean k h) (ap (versions_of lines) same ∙ walked.only i j)

  copies_once : (j k : ℕ) → j < length copies → k < length copies → unit_at copies j ≡ unit_at copies k → j ≡ k
  copies_once j k h i same = elim (cases_eq j k) [
    | inl is ↦ is
    | inr ne ↦ elim (sides j k ne) [ inl less ↦ absurd (clean.apart j k less i same) | inr more ↦ absurd (clean.apart k j more h (sym same)) ]
  ]
    where
      sides : (x y : ℕ) → x ≢ y → (x < y) ⊎ (y < x)
      sides x y ne = grind arith

  -- ---- they are no more than the units

  abbrev unit_in : ℕ → ℕ
  unit_in k = cond (ltb k (length copies)) (unit_at copies k) (get_or order (k - length copies) 0)

  first : (k : ℕ) → k < length copies → unit_in k ≡ unit_at copies k
  first k h = ap (λ x. cond x (unit_at copies k) (get_or order (k - length copies) 0)) (lt-ltb k (length copies) h)

  then : (k : ℕ) → length copies ≤ k → unit_in k ≡ get_or order (k - length copies) 0
  then k h = ap (λ x. cond x (unit_at copies k) (get_or order (k - length copies) 0)) (le-ltb k (length copies) h)

  past : (k : ℕ) → k < length copies + length order → length copies ≤ k → k - length copies < length order
  past k h low = omega (arith, h, low)

  pub room : length copies + length order ≤ n
  room = few_numbers n (length copies + length order) unit_in below distinct
    where
      below : (k : ℕ) → k < length copies + length order → unit_in k < n
      below k h = elim (cases_lt k (length copies)) [
        | inl low ↦ subst (λ u. u < n) (sym (first k low)) (clean.within k low)
        | inr high ↦ subst (λ u. u < n) (sym (then k high)) (ranked.within _ (walked.only (k - length copies) (past k h high)))
      ]

      distinct : (j k : ℕ) → j < length copies + length order → k < length copies + length order → unit_in j ≡ unit_in k → j ≡ k
      distinct j k h i same = elim (cases_lt j (length copies)) [
        | inl low ↦ elim (cases_lt k (length copies)) [
          | inl also ↦ copies_once j k low also (sym (first j low) ∙ same ∙ first k also)
          | inr high ↦ absurd (crossed j (k - length copies) low (past k i high) (sym (first j low) ∙ same ∙ then k high))
        ]
        | inr high ↦ elim (cases_lt k (length copies)) [
          | inl low ↦ absurd (crossed k (j - length copies) low (past j h high) (sym (first k low) ∙ sym same ∙ then j high))
          | inr also ↦
              let e = walked.once (j - length copies) (k - length copies) (past j h high) (past k i also) (sym (then j high) ∙ same ∙ then k also) in
              omega (arith, e, high, also)
        ]
      ]

  -- ---- the whole list

  module _ (versions : List HeldLine) (valid : AreValid lines) (lists : ListsAfter lines copies order (length order) versions) where
    size : length versions ≡ length copies + length order
    size = ap length lists.are ∙ length-append copies lists.later ∙ ap (λ m. length copies + m) lists.size

    at_copy : (k : ℕ) → k < length copies → held_at versions k ≡ held_at copies k
    at_copy k h = ap (λ (vs : List HeldLine). held_at vs k) lists.are ∙ get_or_append_left copies lists.later no_held_line k h

    at_later : (k : ℕ) → length copies ≤ k → held_at versions k ≡ held_at lists.later (k - length copies)
    at_later k h = ap (λ (vs : List HeldLine). held_at vs k) lists.are ∙ get_or-append_right copies lists.later (length copies) k no_held_line refl h

    copy_unit : (k : ℕ) → k < length copies → unit_at versions k ≡ unit_at copies k
    copy_unit k h = ap (λ (v : HeldLine). v.unit.0) (at_copy k h)

    later_unit : (k : ℕ) → k < length versions → length copies ≤ k → unit_at versions k ≡ get_or order (k - length copies) 0
    later_unit k h low = ap (λ (v : HeldLine). v.unit.0) (at_later k low) ∙ lists.units (k - length copies) (past k (let e = size in omega (arith, h, e)) low)

    in_order : (k : ℕ) → k < length versions → length copies ≤ k → k - length copies < length order
    in_order k h low = past k (let e = size in omega (arith, h, e)) low

    only : (k : ℕ) → k < length versions → IsCommittedHeldLine lines n (held_at versions k)
    only k h = elim (cases_lt k (length copies)) [
      | inl low ↦ subst (IsCommittedHeldLine lines n) (sym (at_copy k low)) (record {
        within = clean.within k low;
        held = clean.held k low;
        committed = copy_settled (seen_line (held_at copies k).line) (ap is_copy (sym (clean.held k low)) ∙ clean.clean k low);
      })
      | inr high ↦
          let i = in_order k h high in
          let held = lists.held (k - length copies) i in
          let version : versions_of lines (unit_at lists.later (k - length copies)) ≡ true = ap (versions_of lines) (lists.units (k - length copies) i) ∙ walked.only (k - length copies) i in
          subst (IsCommittedHeldLine lines n) (sym (at_later k high)) (record {
            within = ranked.within _ version;
            held = held;
            committed = version_settled (seen_line (held_at lists.later (k - length copies)).line) (valid.valid _ _ held) (ap is_committed_version (sym held) ∙ version);
          })
    ]

    each : (u : ℕ) → u < n → is_committed_line (lines u) ≡ true → (k : ℕ) × (k < length versions) × (unit_at versions k ≡ u)
    each u h committed = let e = size in elim (cases_Bool (is_committed_version (lines u))) [
      | inl version ↦
          let stands = walked.all u version in
          let low = stands.within in
          let here : length copies + stands.place < length versions = omega (arith, low, e) in
          let past_copies : length copies ≤ length copies + stands.place = omega arith in
          let less : (length copies + stands.place) - length copies ≡ stands.place = omega arith in
          (length copies + stands.place, here, later_unit (length copies + stands.place) here past_copies ∙ ap (λ i. get_or order i 0) less ∙ stands.is)
      | inr other ↦
          let found = clean.each u h (either_one (lines u) committed other) in
          let low = found.1 in
          (found.0, omega (arith, low, e), copy_unit found.0 found.1 ∙ found.2)
    ]

    once : (j k : ℕ) → j < length versions → k < length versions → unit_at versions j ≡ unit_at versions k → j ≡ k
    once j k h i same = elim (cases_lt j (length copies)) [
      | inl low ↦ elim (cases_lt k (length copies)) [
        | inl also ↦ copies_once j k low also (sym (copy_unit j low) ∙ same ∙ copy_unit k also)
        | inr high ↦ absurd (crossed j (k - length copies) low (in_order k i high) (sym (copy_unit j low) ∙ same ∙ later_unit k i high))
      ]
      | inr high ↦ elim (cases_lt k (length copies)) [
        | inl low ↦ absurd (crossed k (j - length copies) low (in_order j h high) (sym (copy_unit k low) ∙ sym same ∙ later_unit j h high))
        | inr also ↦
            let e = walked.once (j - length copies) (k - length copies) (in_order j h high) (in_order k i also) (sym (later_unit j h high) ∙ same ∙ later_unit k i also) in
            omega (arith, e, high, also)
      ]
    ]

    -- a clean line is older than none, and none is older than it
    not_from : (u v : ℕ) → versions_of lines u ≡ false → is_older_line n lines u v ≡ false
    not_from u v clear = ap (λ x. x && reaches (versions_of lines) (links_of lines) n u v) clear

    not_to : (u v : ℕ) → versions_of lines v ≡ false → is_older_line n lines u v ≡ false
    not_to u v clear = elim (cases_Bool (versions_of lines u)) [
      | inr other ↦ not_from u v other
      | inl version ↦ elim (cases_Bool (reaches (versions_of lines) (links_of lines) n u v)) [
        | inr no_way ↦ and_false (versions_of lines u) _ no_way
        | inl way ↦ absurd (true≢false (sym (reaches_above (versions_of lines) ranked.rank (links_of lines) ranked.chain n u v version way).0 ∙ clear))
      ]
    ]

    no_version_of : (k : ℕ) → k < length copies → versions_of lines (unit_at versions k) ≡ false
    no_version_of k h = ap (versions_of lines) (copy_unit k h) ∙ elim (cases_Bool (versions_of lines (unit_at copies k))) [
      | inr other ↦ other
      | inl version ↦ absurd (never_both (lines (unit_at copies k)) (clean.clean k h) version)
    ]

    oldest_first : (place later : ℕ) → place < later → later < length versions → is_older_line n lines (unit_at versions later) (unit_at versions place) ≡ false
    oldest_first place later less h = elim (cases_lt later (length copies)) [
      | inl low ↦ not_from (unit_at versions later) (unit_at versions place) (no_version_of later low)
      | inr high ↦ elim (cases_lt place (length copies)) [
        | inl low ↦ not_to (unit_at versions later) (unit_at versions place) (no_version_of place low)
        | inr also ↦
            let within : place < length versions = omega (arith, less, h) in
            let before : place - length copies < later - length copies = omega (arith, less, also) in
            ap (λ u. is_older_line n lines u (unit_at versions place)) (later_unit later h high)
            ∙ ap (λ u. is_older_line n lines (get_or order (later - length copies) 0) u) (later_unit place within also)
            ∙ walked.oldest_first (place - length copies) (later - length copies) before (in_order later h high)
      ]
    ]

    pub assembled : AreCommitted lines n versions
    assembled = record {
      few = let e = size in let low = room in omega (arith, e, low);
      only = only;
      each = each;
      once = once;
      oldest_first = oldest_first;
    }
