-- What holds of a sound bus: its units, its lines, its committed values, and the order of a word's versions.
use Rattle.std.proofs.Common.{◌≡◌, ◌∙◌, refl, sym, ap, subst, ℕ, ◌<◌, ◌≤◌, Bool, true, false, not, ◌&&◌, ◌||◌, Option, Some, None, length, get_or, inl, inr, true≢false}
use Rattle.std.proofs.lemmas.Bool.{cases_Bool, cases_lt}
use Rattle.svc_line.specs.Line.{SeenLine}
use Rattle.svc_cache.specs.Lines.{is_committed_line}
use Rattle.svc_bus_laws.specs.Search.{all_below, least}
use Rattle.svc_bus_laws.specs.BusLine.{is_committed_dirty_line, is_dirty_line, value_of_line}
use Rattle.svc_bus_laws.specs.BusState.{is_dirty}
use Rattle.svc_bus_laws.specs.BusView.{bus_committed, is_newest_line, value_of_unit}
use Rattle.svc_bus_laws.specs.SoundState.{IsSoundState}
use Rattle.svc_bus_laws.proofs.SeenLaws.{dirty_line_is}
use Rattle.svc_bus_laws.proofs.SoundSeen.{sound_seen}
use Rattle.svc_links_laws.specs.LinkOrder.{reaches}
use Rattle.svc_links_laws.specs.Walks as chain
use Rattle.svc_links_laws.proofs.LinkedBuses.{committed_order, ranked_lines}
use Rattle.svc_vol.specs.Lines.{is_committed_version, is_older_line, lines_in, link_of, links_of, versions_of, IsRanked}
use Rattle.svc_vol.proofs.Validity.{HasV, line_valid}
use Rattle.svc_vcl.specs.Described.{bus_line_of}
use Rattle.svc_retire.specs.Caches.{cache_at, held_line}
use Rattle.svc_retire.specs.Purges.{committed_in, is_newest, line_value, value_of}
use Rattle.svc_retire.proofs.Dropping.{lines_are}
use Rattle.svc_bus.specs.Lines.{line_in, link_in}
use Rattle.svc_bus.specs.Value.{BusValue, IsSoundBus, state_in}
use Rattle.svc_bus.proofs.Shown.{some_shown, none_shown, version_shown, clean_shown}

module _ (b : BusValue) (sound : IsSoundBus b) where
  state : IsSoundState (state_in b)
  state = sound_seen (state_in b) sound.linked.table sound.linked.agrees

  -- the units of the queue have caches, and are different
  pub units_known : (place : ℕ) → place < length b.units → get_or b.units place 0 < length b.caches
  units_known = state.known_units

  pub units_apart : (p q : ℕ) → p < length b.units → q < length b.units → get_or b.units p 0 ≡ get_or b.units q 0 → p ≡ q
  units_apart = state.distinct_units

  -- no line lies past the memory
  pub line_past : (u a : ℕ) → length b.backing ≤ a → held_line b.caches u a ≡ None
  line_past u a past = none_shown (held_line b.caches u a) (line_valid (cache_at b.caches u) a) (state.in_memory u a past)

  pub in_memory : (u a : ℕ) (l : SeenLine) → held_line b.caches u a ≡ Some l → a < length b.backing
  in_memory u a l is = elim (cases_lt a (length b.backing)) [
    | inl low ↦ low
    | inr past ↦ let none = sym is ∙ line_past u a past in cc
  ]

  module _ (word : ℕ) where
    valid : (u : ℕ) → HasV (held_line b.caches u word)
    valid u = line_valid (cache_at b.caches u) word

    version_is : (u : ℕ) → versions_of (lines_in b.caches word) u ≡ is_committed_dirty_line (line_in b.caches u word)
    version_is u = ap is_committed_version (lines_are b.caches word u) ∙ version_shown (held_line b.caches u word) (valid u)

    versions_are : ◌≡◌ {A = ℕ → Bool} (versions_of (lines_in b.caches word)) (λ u. is_committed_dirty_line (line_in b.caches u word))
    versions_are = λ i u. version_is u i

    links_are : ◌≡◌ {A = ℕ → Option ℕ} (links_of (lines_in b.caches word)) (λ u. link_in b.caches u word)
    links_are = λ i u. ap link_of (lines_are b.caches word u) i

    -- the links of the word's committed versions make one chain
    pub ranked : IsRanked (length b.caches) (lines_in b.caches word)
    ranked =
        subst (λ (d : ℕ → Bool). chain.IsRanked (length b.caches) d (links_of (lines_in b.caches word))) (sym versions_are)
        (subst (λ (k : ℕ → Option ℕ). chain.IsRanked (length b.caches) (λ u. is_committed_dirty_line (line_in b.caches u word)) k) (sym links_are)
        (ranked_lines (state_in b) (link_in b.caches) word sound.linked).1)

    -- their order is the one that callers see
    order_is : (u v : ℕ) → is_committed_dirty_line (line_in b.caches u word) ≡ true → is_committed_dirty_line (line_in b.caches v word) ≡ true → is_older_line (length b.caches) (lines_in b.caches word) u v ≡ (state_in b).is_older word u v
    order_is u v e f =
        (λ i. versions_are i u && reaches (versions_are i) (links_are i) (length b.caches) u v)
        ∙ ap (λ x. x && reaches (λ w. is_committed_dirty_line (line_in b.caches w word)) (λ w. link_in b.caches w word) (length b.caches) u v) e
        ∙ committed_order (state_in b) (link_in b.caches) word u v sound.linked e f

    dirty_is : (u : ℕ) → is_dirty (sound.linked.table.lines u word) ≡ is_dirty_line (line_in b.caches u word)
    dirty_is u = sym (ap is_dirty_line (sound.linked.agrees.lines u word) ∙ dirty_line_is (sound.linked.table.lines u word))

    -- committed lines that are in no order for their links are in none for callers
    pub never_older : (u v : ℕ) → is_committed_line (lines_in b.caches word u) ≡ true → is_committed_line (lines_in b.caches word v) ≡ true → is_older_line (length b.caches) (lines_in b.caches word) u v ≡ false → (state_in b).is_older word u v ≡ false
    never_older u v first second never = elim (cases_Bool (is_committed_dirty_line (line_in b.caches u word))) [
      | inr clean ↦ sound.linked.agrees.order word u v ∙ left _ _ _ (dirty_is u ∙ clean_shown (held_line b.caches u word) (valid u) (settled u first) clean)
      | inl e ↦ elim (cases_Bool (is_committed_dirty_line (line_in b.caches v word))) [
        | inr clean ↦ sound.linked.agrees.order word u v ∙ right _ _ _ (dirty_is v ∙ clean_shown (held_line b.caches v word) (valid v) (settled v second) clean)
        | inl f ↦ sym (order_is u v e f) ∙ never
      ]
    ]
      where
        settled : (w : ℕ) → is_committed_line (lines_in b.caches word w) ≡ true → is_committed_line (held_line b.caches w word) ≡ true
        settled w e = ap is_committed_line (sym (lines_are b.caches word w)) ∙ e

        left : (x y z : Bool) → x ≡ false → ((x && y) && z) ≡ false
        left true y z e = absurd (true≢false e)
        left false y z e = refl

        right : (x y z : Bool) → y ≡ false → ((x && y) && z) ≡ false
        right true true z e = absurd (true≢false e)
        right true false z e = refl
        right false y z e = refl

    newest_is : (u : ℕ) → is_newest b.caches word u ≡ is_newest_line (state_in b) word u
    newest_is u = elim (cases_Bool (is_committed_dirty_line (line_in b.caches u word))) [
      | inr lacks ↦
          ap (λ x. x && all_below (length b.caches) (λ v. not (is_committed_version (held_line b.caches v word)) || not (is_older_line (length b.caches) (lines_in b.caches word) u v))) (shown u ∙ lacks)
          ∙ sym (ap (λ x. x && all_below (length b.caches) (λ v. not (is_committed_dirty_line (line_in b.caches v word)) || not ((state_in b).is_older word u v))) lacks)
      | inl holds ↦ λ i. shown u i && all_below (length b.caches) (λ v. passed v holds i)
    ]
      where
        shown : (v : ℕ) → is_committed_version (held_line b.caches v word) ≡ is_committed_dirty_line (line_in b.caches v word)
        shown v = version_shown (held_line b.caches v word) (valid v)

        passed : (v : ℕ) → is_committed_dirty_line (line_in b.caches u word) ≡ true
            → (not (is_committed_version (held_line b.caches v word)) || not (is_older_line (length b.caches) (lines_in b.caches word) u v)) ≡ (not (is_committed_dirty_line (line_in b.caches v word)) || not ((state_in b).is_older word u v))
        passed v holds = ap (λ x. not x || not (is_older_line (length b.caches) (lines_in b.caches word) u v)) (shown v) ∙ go (is_committed_dirty_line (line_in b.caches v word)) refl
          where
            go : (x : Bool) → is_committed_dirty_line (line_in b.caches v word) ≡ x → (not x || not (is_older_line (length b.caches) (lines_in b.caches word) u v)) ≡ (not x || not ((state_in b).is_older word u v))
            go false e = refl
            go true e = ap not (order_is u v holds e)

    value_is : (o : Option ℕ) → value_of b.caches b.backing word o ≡ value_of_unit (state_in b) word o
    value_is None = refl
    value_is (Some u) = go (held_line b.caches u word) (valid u)
      where
        go : (line : Option SeenLine) → HasV line → line_value line ≡ value_of_line (bus_line_of line)
        go None has = refl
        go (Some l) has = sym (ap value_of_line (some_shown l has))

    -- what a purge writes back is the committed value that callers see
    pub committed_is : committed_in b.caches b.backing word ≡ bus_committed (state_in b) word
    committed_is = (λ i. value_of b.caches b.backing word (least (length b.caches) (λ u. newest_is u i))) ∙ value_is (least (length b.caches) (is_newest_line (state_in b) word))
