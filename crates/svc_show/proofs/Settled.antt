-- What the committed tasks have left of a word, where at most one cache has a version of theirs.
use Rattle.std.proofs.Common.{◌≡◌, ◌∙◌, ◌<◌, ◌⊎◌, inl, inr, ℕ, Bool, true, false, Option, Some, None, refl, ap, sym, subst, arith, ne_eqb}
use Rattle.std.specs.Prelude.{◌&&◌, ◌||◌, ◌==◌, leb, not}
use Rattle.std.proofs.lemmas.Bool.{cases_eq}
use Rattle.svc_image.specs.Image.{IsImage}
use Rattle.svc_core_laws.specs.Bytes.{word_at}
use Rattle.svc_core_laws.specs.Sequence.{plain_seq}
use Rattle.svc_bus.specs.State.{bus_state}
use Rattle.svc_bus_laws.specs.BusLine.{is_committed_dirty_line, value_of_line}
use Rattle.svc_bus_laws.specs.BusState.{without_number}
use Rattle.svc_bus_laws.specs.LineTable.{Line, LineTable, committed_value, is_committed_dirty, is_newest, newest, task_in, value_in, value_of}
use Rattle.svc_bus_laws.specs.Versioned.{Versioned}
use Rattle.svc_bus_laws.proofs.Searches.{all_from, least_found, least_none}
use Rattle.svc_machine_laws.specs.PlainMachine.{Plain}
use Rattle.svc_machine_laws.specs.Reached.{IsReached}
use Rattle.svc_machine_laws.specs.Standing.{Standing}
use Rattle.svc_machine_laws.proofs.Given.{given}
use Rattle.svc_machine.specs.Value.{MachineValue, StandsAt}

dirty : (o : Option Line) → is_committed_dirty_line (without_number o) ≡ is_committed_dirty o
dirty None = refl
dirty (Some l) = refl

value : (o : Option Line) → value_of_line (without_number o) ≡ value_in o
value None = refl
value (Some l) = refl

false_and : (x y : Bool) → x ≡ false → (x && y) ≡ false
false_and true y h = cc
false_and false y h = refl

module _ (m : MachineValue) (s : Standing) (at : StandsAt m s) (reached : IsReached m.image m.config s) (is : IsImage m.image) (word : ℕ) where
  abbrev t : LineTable
  t = s.lines

  -- the committed value is what the committed tasks have left
  left : committed_value t word ≡ word_at (plain_seq m.image m.plain.commits).memory word
  left =
      ap (λ (v : Versioned). v.committed word) reached.lines.same_map
      ∙ ((given m.image is).bytes s.plain.commits).memory word
      ∙ ap (λ (p : Plain). word_at (plain_seq m.image p.commits).memory word) (sym at.plain)

  dirty_at : (u : ℕ) → is_committed_dirty_line ((bus_state m.bus).lines u word) ≡ is_committed_dirty (t.lines u word)
  dirty_at u = ap is_committed_dirty_line (at.lines.lines u word) ∙ dirty (t.lines u word)

  inside : (u : ℕ) → u < t.caches → u < m.config.units
  inside u h = subst (λ (n : ℕ). u < n) reached.lines.caches h

  pub settled : ((u : ℕ) → u < m.config.units → is_committed_dirty_line ((bus_state m.bus).lines u word) ≡ false)
      → (bus_state m.bus).backing word ≡ word_at (plain_seq m.image m.plain.commits).memory word
  settled none =
      let never : newest t word ≡ None =
      least_none t.caches (is_newest t word) (λ u h. false_and (is_committed_dirty (t.lines u word)) _ (sym (dirty_at u) ∙ none u (inside u h))) in
      at.lines.backing word ∙ sym (ap (value_of t word) never) ∙ left

  pub one_left : (unit : ℕ) → unit < m.config.units → is_committed_dirty_line ((bus_state m.bus).lines unit word) ≡ true
      → ((u : ℕ) → u < m.config.units → (u == unit) ≡ false → is_committed_dirty_line ((bus_state m.bus).lines u word) ≡ false)
      → value_of_line ((bus_state m.bus).lines unit word) ≡ word_at (plain_seq m.image m.plain.commits).memory word
  one_left unit within has others =
      let there : newest t word ≡ Some unit =
      least_found t.caches (is_newest t word) unit (record {
        within = subst (λ (n : ℕ). unit < n) (sym reached.lines.caches) within;
        passes = both (is_committed_dirty (t.lines unit word)) _ (sym (dirty_at unit) ∙ has) (all_from t.caches _ (λ u h. at_most u h (cases_eq u unit)));
        before = λ u h. false_and (is_committed_dirty (t.lines u word)) _
            (sym (dirty_at u) ∙ others u (omega (arith, h, within)) (ne_eqb u unit (λ e. omega (arith, h, e))));
      }) in
      ap value_of_line (at.lines.lines unit word) ∙ value (t.lines unit word) ∙ sym (ap (value_of t word) there) ∙ left
    where
      both : (x y : Bool) → x ≡ true → y ≡ true → (x && y) ≡ true
      both true y h k = k
      both false y h k = cc

      or_true : (x y : Bool) → y ≡ true → (x || y) ≡ true
      or_true true y h = refl
      or_true false y h = h

      at_most : (u : ℕ) → u < t.caches → (u ≡ unit) ⊎ (u ≡ unit → ⊥)
          → (not (is_committed_dirty (t.lines u word)) || leb (task_in (t.lines u word)) (task_in (t.lines unit word))) ≡ true
      at_most u h (inl e) = or_true (not (is_committed_dirty (t.lines u word))) _ (rw e (grind arith))
      at_most u h (inr ne) =
          let clean : is_committed_dirty (t.lines u word) ≡ false = sym (dirty_at u) ∙ others u (inside u h) (ne_eqb u unit ne) in
          rw clean refl
