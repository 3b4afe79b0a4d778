-- What a store makes of the bus is what a write makes of it.
use Rattle.std.proofs.Common.{◌≡◌, ◌≢◌, ◌∙◌, refl, sym, ap, ap₂, subst, ℕ, ◌<◌, ◌≤◌, ◌^◌, Bool, true, false, cond, not, ◌&&◌, ◌||◌, Option, Some, None, List, length, get_or, take, inl, inr, eq-eqb, ne_eqb, is_some, true≢false}
use Rattle.std.specs.Bool.{◌==◌}
use Rattle.std.proofs.lemmas.Bool.{cases_eq, eqb-true}
use Rattle.svc_line.specs.Bits.{after_overtaking}
use Rattle.svc_line.specs.Line.{SeenLine}
use Rattle.svc_cache.specs.Lines.{squash_line}
use Rattle.svc_bus_laws.specs.Versioned.{survivors}
use Rattle.svc_bus_laws.specs.LineTable.{Line, LineTable, is_cut, unit_at}
use Rattle.svc_bus_laws.specs.Steps.{with_at, write, written_line}
use Rattle.svc_bus_laws.specs.Steps as table
use Rattle.svc_bus_laws.specs.BusLine.{BusLine, is_active_line, is_dirty_line, version_of_line}
use Rattle.svc_bus_laws.specs.BusLine as shown
use Rattle.svc_bus_laws.specs.BusState.{Agrees, BusState, without_number}
use Rattle.svc_bus_laws.specs.BusSteps.{bus_write, line_after_cut}
use Rattle.svc_bus_laws.specs.BusView.{bus_line_at, bus_map}
use Rattle.svc_bus_laws.proofs.SeenLaws.{map_seen}
use Rattle.svc_bus_laws.proofs.AgreeWrites.{write_agrees}
use Rattle.svc_links_laws.specs.LinkSteps.{is_unit, place_after, place_before, unit_of}
use Rattle.svc_links_laws.specs.LinkedBus.{bus_links_after_write}
use Rattle.svc_links_laws.proofs.LinkedBuses.{write_bus}
use Rattle.svc_vol.specs.declared.held_line.HeldLine.{HeldLine}
use Rattle.svc_vol.specs.Lines.{link_of}
use Rattle.svc_vol.proofs.Validity.{HasV, line_valid}
use Rattle.svc_vcl.specs.Described.{bus_line_of, line_with}
use Rattle.svc_vcl.specs.Planned.{is_named, marked_where}
use Rattle.svc_retire.specs.Caches.{cache_at, held_line}
use Rattle.svc_retire.specs.Purges.{committed_in, purged_line}
use Rattle.svc_bus.specs.Lines.{line_in, link_in}
use Rattle.svc_bus.specs.Value.{BusValue, IsSoundBus, state_in}
use Rattle.svc_bus.specs.Marks.{link_after, overtaken_where}
use Rattle.svc_bus.specs.Stores.{left_line, stored_line}
use Rattle.svc_bus.proofs.Agreeing.{IsStep, place_is, step_agrees, step_linked}
use Rattle.svc_bus.proofs.Keeping.{KeepsSizes, kept_bus}
use Rattle.svc_bus.proofs.Knowing.{committed_is}
use Rattle.svc_bus.proofs.Shown.{some_shown, link_stays, purge_stays, Stays}
use Rattle.svc_bus.proofs.Squashing.{cut_shown, cut_stays}

-- what the plan of a write says
pub record IsPlanned (b : BusValue) (place word value : ℕ) (line : SeenLine) (previous : Option ℕ) (changed : List HeldLine) (left : ℕ) : Type 0 where
  pub left_is : left ≡ survivors (bus_map (state_in b)) place word
  pub own : (bus_write (state_in b) place word value).lines (get_or b.units place 0) word ≡ Some (line_with value line.bits)
  pub value_is : line.value ≡ value
  pub valid : line.bits.valid ≡ true
  pub next_is : line.next ≡ unit_of b.units (place_after (survivors (bus_map (state_in b)) place word) (λ q. is_some (version_of_line (bus_line_at (state_in b) q word))) place)
  pub previous_is : previous ≡ unit_of b.units (place_before (λ q. is_some (version_of_line (bus_line_at (state_in b) q word))) place)
  pub others : (u : ℕ) → u ≢ get_or b.units place 0 → (bus_write (state_in b) place word value).lines u word ≡ marked_where (is_named changed u) (shown.purged_line (line_after_cut (state_in b) (survivors (bus_map (state_in b)) place word) u word))
  pub unnamed : is_named changed (get_or b.units place 0) ≡ false
  pub linked : (u : ℕ) → previous ≡ Some u → is_named changed u ≡ true

-- what the body does
pub record IsWritten (old new : BusValue) (place word : ℕ) (line : SeenLine) (previous : Option ℕ) (changed : List HeldLine) (left : ℕ) : Type 0 where
  pub lines : (u a : ℕ) → held_line new.caches u a ≡ left_line old.units left u (stored_line (held_line old.caches) (get_or old.units place 0) word (Some line) previous changed u a)
  pub memory : (a : ℕ) → get_or new.backing a 0 ≡ with_at (λ x. get_or old.backing x 0) word (committed_in old.caches old.backing word) a
  pub versions : (a : ℕ) → get_or new.spill a None ≡ with_at (λ x. get_or old.spill x None) word (cond (place == 0) None (get_or old.spill word None)) a
  pub sizes : KeepsSizes old new
  pub commits : new.commits ≡ old.commits
  pub units : new.units ≡ take left old.units

-- ---- one line of another unit: purged, marked and cut

module _ (previous : Option ℕ) (writer u : ℕ) where
  or_true : (x : Bool) → true ≡ (x || true)
  or_true true = refl
  or_true false = refl

  or_false : (x : Bool) → x ≡ (x || false)
  or_false true = refl
  or_false false = refl

  marked_some : (l : SeenLine) (named : Bool) → l.bits.valid ≡ true → bus_line_of (overtaken_where previous writer u named (Some l)) ≡ Some (record (line_with l.value l.bits) { stale = l.bits.stale || named })
  marked_some l true valid =
      some_shown (record { value = l.value; bits = after_overtaking l.bits; next = link_after previous writer u l.next }) valid
      ∙ ap (λ (s : Bool). Some (record (line_with l.value l.bits) { stale = s })) (or_true l.bits.stale)
  marked_some l false valid = some_shown l valid ∙ ap (λ (s : Bool). Some (record (line_with l.value l.bits) { stale = s })) (or_false l.bits.stale)

  marked_valid : (l : SeenLine) (named : Bool) → l.bits.valid ≡ true → HasV (overtaken_where previous writer u named (Some l))
  marked_valid l true valid = valid
  marked_valid l false valid = valid

  marked_none : (named : Bool) → overtaken_where previous writer u named None ≡ None
  marked_none true = refl
  marked_none false = refl

  cut_none : (cut : Bool) → cond cut (squash_line None) None ≡ None
  cut_none true = refl
  cut_none false = refl

  -- the line that is marked, if it is named, and then cut
  abbrev left_of : (cut named : Bool) → Option SeenLine → Option SeenLine
  left_of cut named line = cond cut (squash_line (overtaken_where previous writer u named line)) (overtaken_where previous writer u named line)

  -- nothing is left where the purge leaves nothing
  gone : (cut named : Bool) → left_of cut named None ≡ None
  gone cut named = ap (λ (l : Option SeenLine). cond cut (squash_line l) l) (marked_none named) ∙ cut_none cut

  -- what is left of a line that the purge takes out, and of one that it leaves
  taken_out : (cut named : Bool) (l : SeenLine) → l.bits.commit ≡ true → l.bits.store ≡ true
      → bus_line_of (left_of cut named (purged_line (Some l))) ≡ marked_where named (shown.purged_line (cond (cut && not l.bits.commit) None (Some (line_with l.value l.bits))))
  taken_out cut named l commit store =
      ap (λ (o : Option SeenLine). bus_line_of (left_of cut named o)) (ap₂ (λ x y. cond (x && y) None (Some l)) commit store) ∙ ap bus_line_of (gone cut named) ∙ sym (nothing (cut && not l.bits.commit))
    where
      nothing : (x : Bool) → marked_where named (shown.purged_line (cond x None (Some (line_with l.value l.bits)))) ≡ None
      nothing true = refl
      nothing false = ap₂ (λ x y. marked_where named (cond (x && y) None (Some (line_with l.value l.bits)))) commit store

  left_in : (cut named : Bool) (l : SeenLine) → l.bits.valid ≡ true → (l.bits.commit && l.bits.store) ≡ false
      → bus_line_of (left_of cut named (purged_line (Some l))) ≡ marked_where named (shown.purged_line (cond (cut && not l.bits.commit) None (Some (line_with l.value l.bits))))
  left_in cut named l valid clean =
      ap (λ (o : Option SeenLine). bus_line_of (left_of cut named o)) (ap (λ x. cond x None (Some l)) clean)
      ∙ cut_shown cut (overtaken_where previous writer u named (Some l)) (marked_valid l named valid)
      ∙ ap (λ (o : Option BusLine). cond (cut && is_active_line o) None o) (marked_some l named valid)
      ∙ same (cut && not l.bits.commit)
    where
      same : (x : Bool) → cond x None (Some (record (line_with l.value l.bits) { stale = l.bits.stale || named })) ≡ marked_where named (shown.purged_line (cond x None (Some (line_with l.value l.bits))))
      same true = refl
      same false = sym (ap (λ x. marked_where named (cond x None (Some (line_with l.value l.bits)))) clean)

  pub other_shown : (cut named : Bool) (line : Option SeenLine) → HasV line
      → bus_line_of (cond cut (squash_line (overtaken_where previous writer u named (purged_line line))) (overtaken_where previous writer u named (purged_line line)))
      ≡ marked_where named (shown.purged_line (cond (cut && is_active_line (bus_line_of line)) None (bus_line_of line)))
  other_shown cut named None valid = ap bus_line_of (gone cut named) ∙ none (cut && false)
    where
      none : (x : Bool) → ◌≡◌ {A = Option BusLine} None (marked_where named (shown.purged_line (cond x None None)))
      none true = refl
      none false = refl
  other_shown cut named (Some l) valid = go l.bits.commit l.bits.store refl refl ∙ sym (ap (λ (o : Option BusLine). marked_where named (shown.purged_line (cond (cut && is_active_line o) None o))) (some_shown l valid))
    where
      go : (c s : Bool) → l.bits.commit ≡ c → l.bits.store ≡ s
          → bus_line_of (left_of cut named (purged_line (Some l))) ≡ marked_where named (shown.purged_line (cond (cut && not l.bits.commit) None (Some (line_with l.value l.bits))))
      go true true commit store = taken_out cut named l commit store
      go true false commit store = left_in cut named l valid (ap₂ (λ x y. x && y) commit store)
      go false s commit store = left_in cut named l valid (ap (λ x. x && l.bits.store) commit)

  -- the link of what is left of a line that the purge left
  marked_link : (cut named : Bool) (new line : Option SeenLine) → new ≡ left_of cut named line → is_dirty_line (bus_line_of new) ≡ true
      → (is_unit previous u ≡ true → named ≡ true) → link_of (overtaken_where previous writer u named line) ≡ cond (is_unit previous u) (Some writer) (link_of line)
  marked_link cut named new None left dirty names = absurd (true≢false (sym dirty ∙ ap (λ (l : Option SeenLine). is_dirty_line (bus_line_of l)) (left ∙ gone cut named)))
  marked_link cut true new (Some l) left dirty names = refl
  marked_link cut false new (Some l) left dirty names = go (is_unit previous u) names
    where
      go : (x : Bool) → (x ≡ true → false ≡ true) → l.next ≡ cond x (Some writer) l.next
      go true names = absurd (true≢false (sym (names refl)))
      go false names = refl

  pub other_link : (cut named : Bool) (new line : Option SeenLine) → new ≡ cond cut (squash_line (overtaken_where previous writer u named (purged_line line))) (overtaken_where previous writer u named (purged_line line))
      → is_dirty_line (bus_line_of new) ≡ true → (is_unit previous u ≡ true → named ≡ true) → link_of new ≡ cond (is_unit previous u) (Some writer) (link_of line)
  other_link cut named new line is dirty names = elim (purge_stays line) [
    | inr none ↦ absurd (true≢false (sym dirty ∙ ap (λ (l : Option SeenLine). is_dirty_line (bus_line_of l)) (is ∙ ap (left_of cut named) none ∙ gone cut named)))
    | inl kept ↦
        let left : new ≡ left_of cut named line = is ∙ ap (left_of cut named) kept in
        link_stays new (overtaken_where previous writer u named line) (subst (λ (l : Option SeenLine). Stays l (overtaken_where previous writer u named line)) (sym left) (cut_stays cut (overtaken_where previous writer u named line))) dirty
        ∙ marked_link cut named new line left dirty names
  ]

module _ (b : BusValue) (sound : IsSoundBus b) (place word value : ℕ) (line : SeenLine) (previous : Option ℕ) (changed : List HeldLine) (left : ℕ) (within : place < length b.units) (known : word < length b.backing) (plan : IsPlanned b place word value line previous changed left) where
  abbrev s : BusState
  s = state_in b

  abbrev own : ℕ
  own = get_or b.units place 0

  abbrev n : ℕ
  n = survivors (bus_map s) place word

  -- ---- the own line

  abbrev t : LineTable
  t = sound.linked.table

  abbrev written : Line
  written = written_line t place word value

  there : (write t place word value).lines (unit_at t place) word ≡ cond (is_cut t.units (table.survivors t place word) (unit_at t place) && true) None (Some written)
  there = rw (eq-eqb word word refl, eq-eqb (unit_at t place) (unit_at t place) refl)

  shows : ◌≡◌ {A = Option BusLine} (Some (line_with value line.bits)) (without_number (cond (is_cut t.units (table.survivors t place word) (unit_at t place) && true) None (Some written)))
  shows =
      sym plan.own
      ∙ (write_agrees s t place word value sound.linked.agrees (subst (λ us. place < length us) sound.linked.agrees.units within) (subst (λ m. word < m) sound.linked.agrees.words known)).lines own word
      ∙ ap (λ us. without_number ((write t place word value).lines (get_or us place 0) word)) sound.linked.agrees.units
      ∙ ap without_number there

  cuts : is_cut b.units n own ≡ is_cut t.units (table.survivors t place word) (unit_at t place)
  cuts = λ i. is_cut (sound.linked.agrees.units i) (survivors (map_seen s t sound.linked.agrees i) place word) (get_or (sound.linked.agrees.units i) place 0)

  -- the writer's own task is left, and its line is not committed
  record IsLeft : Type 0 where
    uncut : is_cut b.units n own ≡ false
    active : line.bits.commit ≡ false

  is_left : IsLeft
  is_left = go (is_cut t.units (table.survivors t place word) (unit_at t place)) refl shows
    where
      some_is : {x y : BusLine} → ◌≡◌ {A = Option BusLine} (Some x) (Some y) → x ≡ y
      some_is e = cc

      go : (x : Bool) → is_cut t.units (table.survivors t place word) (unit_at t place) ≡ x → ◌≡◌ {A = Option BusLine} (Some (line_with value line.bits)) (without_number (cond (x && true) None (Some written))) → IsLeft
      go true is e = cc
      go false is e = record { uncut = cuts ∙ is; active = ap (λ (l : BusLine). l.commit) (some_is e) }

  pub own_active : line.bits.commit ≡ false
  own_active = is_left.active

  module _ (new : BusValue) (is : IsWritten b new place word line previous changed left) where
    -- ---- all lines

    abbrev stored : ℕ → ℕ → Option SeenLine
    stored = stored_line (held_line b.caches) own word (Some line) previous changed

    stored_own : stored own word ≡ Some line
    stored_own = rw (eq-eqb word word refl, eq-eqb own own refl) (ap (λ x. overtaken_where previous own own x (Some line)) plan.unnamed)

    stored_other : (u : ℕ) → u ≢ own → stored u word ≡ overtaken_where previous own u (is_named changed u) (purged_line (held_line b.caches u word))
    stored_other u ne = rw (eq-eqb word word refl, ne_eqb u own ne)

    stored_away : (u a : ℕ) → a ≢ word → stored u a ≡ held_line b.caches u a
    stored_away u a ne = rw (ne_eqb a word ne)

    held_is : (u a : ℕ) → held_line new.caches u a ≡ left_line b.units n u (stored u a)
    held_is u a = is.lines u a ∙ ap (λ m. left_line b.units m u (stored u a)) plan.left_is

    held_own : held_line new.caches own word ≡ Some line
    held_own = held_is own word ∙ ap (λ x. cond x (squash_line (stored own word)) (stored own word)) is_left.uncut ∙ stored_own

    held_other : (u : ℕ) → u ≢ own → held_line new.caches u word ≡ left_line b.units n u (overtaken_where previous own u (is_named changed u) (purged_line (held_line b.caches u word)))
    held_other u ne = held_is u word ∙ ap (left_line b.units n u) (stored_other u ne)

    held_away : (u a : ℕ) → a ≢ word → held_line new.caches u a ≡ left_line b.units n u (held_line b.caches u a)
    held_away u a ne = held_is u a ∙ ap (left_line b.units n u) (stored_away u a ne)

    own_shown : bus_line_of (Some line) ≡ Some (line_with value line.bits)
    own_shown = some_shown line plan.valid ∙ ap (λ v. Some (line_with v line.bits)) plan.value_is

    valid_at : (u a : ℕ) → HasV (held_line b.caches u a)
    valid_at u a = line_valid (cache_at b.caches u) a

    away : (u a : ℕ) → a ≢ word → line_after_cut s n u a ≡ (bus_write s place word value).lines u a
    away u a ne = rw (ne_eqb a word ne)

    lines_are : (u a : ℕ) → line_in new.caches u a ≡ (bus_write s place word value).lines u a
    lines_are u a = elim (cases_eq a word) [
      | inr ne ↦ ap bus_line_of (held_away u a ne) ∙ cut_shown (is_cut b.units n u) (held_line b.caches u a) (valid_at u a) ∙ away u a ne
      | inl here ↦ elim (cases_eq u own) [
        | inl mine ↦ ap₂ (λ v x. line_in new.caches v x) mine here ∙ ap bus_line_of held_own ∙ own_shown ∙ sym plan.own ∙ sym (ap₂ (λ v x. (bus_write s place word value).lines v x) mine here)
        | inr ne ↦
            ap (λ x. line_in new.caches u x) here ∙ ap bus_line_of (held_other u ne)
            ∙ other_shown previous own u (is_cut b.units n u) (is_named changed u) (held_line b.caches u word) (valid_at u word)
            ∙ sym (plan.others u ne) ∙ sym (ap (λ x. (bus_write s place word value).lines u x) here)
      ]
    ]

    -- ---- all links

    abbrev after : ℕ → ℕ → Option ℕ
    after = bus_links_after_write s place word (link_in b.caches)

    unit_is : (o : Option ℕ) (u : ℕ) → is_unit o u ≡ true → o ≡ Some u
    unit_is None u e = absurd (true≢false (sym e))
    unit_is (Some v) u e = ap Some (eqb-true v u e)

    link_away : (u a : ℕ) → a ≢ word → link_in b.caches u a ≡ after u a
    link_away u a ne = rw (ne_eqb a word ne)

    link_own : unit_of b.units (place_after n (λ q. is_some (version_of_line (bus_line_at s q word))) place) ≡ after own word
    link_own = rw (eq-eqb word word refl, eq-eqb own own refl)

    link_other : (u : ℕ) → u ≢ own → cond (is_unit (unit_of b.units (place_before (λ q. is_some (version_of_line (bus_line_at s q word))) place)) u) (Some own) (link_in b.caches u word) ≡ after u word
    link_other u ne = rw (eq-eqb word word refl, ne_eqb u own ne)

    links_are : (u a : ℕ) → is_dirty_line (line_in new.caches u a) ≡ true → link_in new.caches u a ≡ after u a
    links_are u a dirty = elim (cases_eq a word) [
      | inr ne ↦
          link_stays (held_line new.caches u a) (held_line b.caches u a) (subst (λ (l : Option SeenLine). Stays l (held_line b.caches u a)) (sym (held_away u a ne)) (cut_stays (is_cut b.units n u) (held_line b.caches u a))) dirty
          ∙ link_away u a ne
      | inl here ↦ elim (cases_eq u own) [
        | inl mine ↦ ap₂ (λ v x. link_in new.caches v x) mine here ∙ ap link_of held_own ∙ plan.next_is ∙ link_own ∙ sym (ap₂ after mine here)
        | inr ne ↦
            ap (λ x. link_in new.caches u x) here
            ∙ other_link previous own u (is_cut b.units n u) (is_named changed u) (held_line new.caches u word) (held_line b.caches u word) (held_other u ne) (ap (λ x. is_dirty_line (line_in new.caches u x)) (sym here) ∙ dirty) (λ e. plan.linked u (unit_is previous u e))
            ∙ ap (λ o. cond (is_unit o u) (Some own) (link_in b.caches u word)) plan.previous_is
            ∙ link_other u ne
            ∙ sym (ap (after u) here)
      ]
    ]

    is_step : IsStep new (bus_write s place word value) after
    is_step = record {
      bus = write_bus s (link_in b.caches) place word value sound.linked within known;
      same = record {
        caches = is.sizes.caches.count;
        sets = is.sizes.caches.sets 0;
        ways = is.sizes.caches.ways 0;
        words = is.sizes.backing;
        lines = lines_are;
        spill = is.versions;
        backing = λ a. is.memory a ∙ ap (λ v. with_at (λ x. get_or b.backing x 0) word v a) (committed_is b sound word);
        commits = is.commits;
        units = is.units ∙ ap (λ m. take m b.units) plan.left_is;
      };
      kept = links_are;
    }

    pub written_bus : IsSoundBus new
    written_bus = kept_bus b new sound is.sizes (step_linked new (bus_write s place word value) after is_step) (subst (λ m. m ≤ 2 ^ 63) (sym is.commits) sound.few_commits)

    pub written_agreed : (r : LineTable) (p : ℕ) → Agrees s r → p < length r.units → unit_at r p ≡ own → Agrees (state_in new) (write r p word value)
    written_agreed r p agrees here at = subst (λ q. Agrees (state_in new) (write r q word value)) (sym (place_is b r agrees place p sound within here at))
        (step_agrees new (bus_write s place word value) after is_step (write r place word value)
        (write_agrees s r place word value agrees (subst (λ us. place < length us) agrees.units within) (subst (λ m. word < m) agrees.words known)))
