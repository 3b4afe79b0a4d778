-- Reads and replacements without numbers keep the agreement.
use Rattle.std.proofs.Common.{◌≡◌, ◌≢◌, refl, sym, ap, ap₂, ◌∙◌, ℕ, ◌+◌, ◌<◌, Some, None, true, false, Bool, cond, not, ◌&&◌, List, Option, length, get_or, inl, inr, true≢false, is_some, ltb, eq-eqb, ne_eqb}
use Rattle.std.specs.Bool.{◌==◌}
use Rattle.std.specs.Option.{option_or}
use Rattle.std.proofs.lemmas.Bool.{cases_Bool, cases_eq}
use Rattle.svc_bus_laws.specs.Search.{any_below}
use Rattle.svc_bus_laws.specs.Versioned.{view}
use Rattle.svc_bus_laws.specs.LineTable.{Line, LineTable, is_active, is_reusable, version_in, is_committed_dirty, task_in, unit_at, line_at, versioned_map}
use Rattle.svc_bus_laws.specs.Steps.{with_line, line_after_purging, line_after_reuse, fill, reuse, read, replace, filled_line, is_overtaken}
use Rattle.svc_bus_laws.specs.BusLine.{BusLine, is_dirty_line, version_of_line, purged_line, reused_line}
use Rattle.svc_bus_laws.specs.BusState.{BusState, Agrees, without_number, is_dirty, is_lower}
use Rattle.svc_bus_laws.specs.BusView.{bus_line_at, bus_map}
use Rattle.svc_bus_laws.specs.BusSteps.{is_overtaken_line, line_after_request, order_after_request, filled_bus_line, bus_fill, bus_replace, bus_reuse, bus_read}
use Rattle.svc_bus_laws.specs.Refusals.{table_cache, is_pinned}
use Rattle.svc_bus_laws.proofs.Searches.{any_same}
use Rattle.svc_bus_laws.proofs.ReadLaws.{fill_sound, reuse_sound, reusable_parts}
use Rattle.svc_bus_laws.proofs.ReplaceLaws.{replace_sound}
use Rattle.svc_bus_laws.proofs.RefusalProofs.{unpinned_head}
use Rattle.svc_bus_laws.proofs.SeenLaws.{dirty_line_is, version_line_is, unit_is, version_seen, active_seen, reusable_seen, committed_seen, map_seen}
use Rattle.svc_bus_laws.proofs.AgreeWrites.{where_both}

purged_line_is : (line : Option Line) → purged_line (without_number line) ≡ without_number (line_after_purging line)
purged_line_is None = refl
purged_line_is (Some l) = go (l.commit && l.store)
  where
    go : (z : Bool) → cond z None (without_number (Some l)) ≡ without_number (cond z None (Some l))
    go true = refl
    go false = refl

-- a dirty line that a purge leaves is the same line
purged_dirty : (line : Option Line) → is_dirty (line_after_purging line) ≡ true → line_after_purging line ≡ line
purged_dirty line dirty = elim (cases_Bool (is_committed_dirty line)) [
  | inl gone ↦ absurd (true≢false (sym dirty ∙ rw gone))
  | inr stays ↦ rw stays
]

module _ (b : BusState) (t : LineTable) (u a : ℕ) (agrees : Agrees b t) (line : Option Line) (clean : is_dirty line ≡ false) where
  abbrev after : ℕ → ℕ → Option Line
  after = with_line t.lines u a line line_after_purging

  request_lines : (v x : ℕ) → line_after_request b u a (without_number line) v x ≡ without_number (after v x)
  request_lines v x = elim (cases_eq x a) [
    | inr ne ↦ rw (ne_eqb x a ne) (agrees.lines v x)
    | inl e ↦ elim (cases_eq v u) [
      | inl same ↦ rw (eq-eqb x a e, eq-eqb v u same)
      | inr other ↦ rw (eq-eqb x a e, ne_eqb v u other) (ap purged_line (agrees.lines v x) ∙ purged_line_is (t.lines v x))
    ]
  ]

  kept : (v x : ℕ) → is_dirty (after v x) ≡ true → after v x ≡ t.lines v x
  kept v x dirty = elim (cases_eq x a) [
    | inr ne ↦ word ne
    | inl e ↦ elim (cases_eq v u) [
      | inl same ↦ absurd (true≢false (sym dirty ∙ ap is_dirty (here e same) ∙ clean))
      | inr other ↦ there e other ∙ purged_dirty (t.lines v x) (sym (ap is_dirty (there e other)) ∙ dirty)
    ]
  ]
    where
      word : x ≢ a → after v x ≡ t.lines v x
      word ne = rw (ne_eqb x a ne)

      here : x ≡ a → v ≡ u → after v x ≡ line
      here e same = rw (eq-eqb x a e, eq-eqb v u same)

      there : x ≡ a → v ≢ u → after v x ≡ line_after_purging (t.lines v x)
      there e other = rw (eq-eqb x a e, ne_eqb v u other)

  request_order : (x y z : ℕ) → order_after_request b u a (without_number line) x y z ≡ ((is_dirty (after y x) && is_dirty (after z x)) && ltb (task_in (after y x)) (task_in (after z x)))
  request_order x y z =
      ap₂ (λ i j. (i && j) && b.is_older x y z) (bit y) (bit z)
      ∙ where_both (is_dirty (after y x)) (is_dirty (after z x)) _ _ (λ e f. agrees.order x y z ∙ by_dirty (t.lines y x) (t.lines z x) (sym (ap is_dirty (kept y x e)) ∙ e) (sym (ap is_dirty (kept z x f)) ∙ f) ∙ sym (ap₂ (λ i j. ltb (task_in i) (task_in j)) (kept y x e) (kept z x f)))
    where
      bit : (v : ℕ) → is_dirty_line (line_after_request b u a (without_number line) v x) ≡ is_dirty (after v x)
      bit v = ap is_dirty_line (request_lines v x) ∙ dirty_line_is (after v x)

      by_dirty : (k l : Option Line) → is_dirty k ≡ true → is_dirty l ≡ true → ((is_dirty k && is_dirty l) && ltb (task_in k) (task_in l)) ≡ ltb (task_in k) (task_in l)
      by_dirty k l e f = ap₂ (λ i j. (i && j) && ltb (task_in k) (task_in l)) e f

fill_agrees : (b : BusState) (t : LineTable) (p a value : ℕ) → Agrees b t → p < length t.units → a < t.words → is_active (line_at t p a) ≡ false → value ≡ view (versioned_map t) p a → Agrees (bus_fill b p a value) (fill t p a)
fill_agrees b t p a value agrees within known miss is = record {
  sound = fill_sound t p a agrees.sound within known miss;
  caches = agrees.caches;
  sets = agrees.sets;
  ways = agrees.ways;
  words = agrees.words;
  lines = λ v x. ap₂ (λ u line. line_after_request b u a line v x) unit filled ∙ request_lines b t (unit_at t p) a agrees (Some (filled_line t p a)) refl v x;
  order = λ x y z. ap₂ (λ u line. order_after_request b u a line x y z) unit filled ∙ request_order b t (unit_at t p) a agrees (Some (filled_line t p a)) refl x y z;
  spill = agrees.spill;
  backing = λ x. ap₂ (λ y z. cond (x == a) y z) (committed_seen b t a agrees) (agrees.backing x);
  commits = agrees.commits;
  units = agrees.units;
}
  where
    unit : get_or b.units p 0 ≡ unit_at t p
    unit = unit_is b t agrees p

    overtaken : is_overtaken_line b (length b.units) p a ≡ is_overtaken t (length t.units) p a
    overtaken = ap (λ (us : List ℕ). any_below (length us) (λ q. ltb p q && is_some (version_of_line (bus_line_at b q a)))) agrees.units
        ∙ any_same (length t.units) _ _ (λ q h. ap (λ o. ltb p q && is_some o) (version_seen b t agrees q a))

    filled : ◌≡◌ {A = Option BusLine} (Some (filled_bus_line b p a value)) (without_number (Some (filled_line t p a)))
    filled = λ i. Some (record { value = is i; store = false; load = not ((p == 0) && is_some (agrees.spill a i)); commit = false; stale = overtaken i })

pub replace_agrees : (b : BusState) (t : LineTable) (u a : ℕ) → Agrees b t → is_pinned (table_cache t u) t.units u a ≡ false → Agrees (bus_replace b u a) (replace t u a)
replace_agrees b t u a agrees free = record {
  sound = replace_sound t u a agrees.sound (unpinned_head t u a free);
  caches = agrees.caches;
  sets = agrees.sets;
  ways = agrees.ways;
  words = agrees.words;
  lines = request_lines b t u a agrees None refl;
  order = request_order b t u a agrees None refl;
  spill = λ x. (λ i. cond (x == a) (option_or (version i) (agrees.spill a i)) (agrees.spill x i));
  backing = λ x. ap₂ (λ y z. cond (x == a) y z) (committed_seen b t a agrees) (agrees.backing x);
  commits = agrees.commits;
  units = agrees.units;
}
  where
    version : version_of_line (b.lines u a) ≡ version_in (t.lines u a)
    version = ap version_of_line (agrees.lines u a) ∙ version_line_is (t.lines u a)

reuse_agrees : (b : BusState) (t : LineTable) (p a : ℕ) → Agrees b t → p < length t.units → is_reusable (line_at t p a) ≡ true → Agrees (bus_reuse b p a) (reuse t p a)
reuse_agrees b t p a agrees within reusable = record {
  sound = reuse_sound t p a agrees.sound within reusable;
  caches = agrees.caches;
  sets = agrees.sets;
  ways = agrees.ways;
  words = agrees.words;
  lines = reused_lines;
  order = λ x y z. agrees.order x y z ∙ order x y z;
  spill = agrees.spill;
  backing = agrees.backing;
  commits = agrees.commits;
  units = agrees.units;
}
  where
    unit : get_or b.units p 0 ≡ unit_at t p
    unit = ap (λ (us : List ℕ). get_or us p 0) agrees.units

    reused_is : (n : ℕ) (line : Option Line) → reused_line (without_number line) ≡ without_number (line_after_reuse n line)
    reused_is n None = refl
    reused_is n (Some l) = refl

    reused_lines : (v x : ℕ) → (bus_reuse b p a).lines v x ≡ without_number ((reuse t p a).lines v x)
    reused_lines v x = elim (cases_eq x a) [
      | inr ne ↦ rw (ne_eqb x a ne) (agrees.lines v x)
      | inl e ↦ elim (cases_eq v (unit_at t p)) [
        | inl same ↦ rw (eq-eqb x a e, eq-eqb v (get_or b.units p 0) (same ∙ sym unit), eq-eqb v (unit_at t p) same) (ap reused_line (agrees.lines v x ∙ (λ i. without_number (t.lines (same i) (e i)))) ∙ reused_is (t.commits + p) (line_at t p a))
        | inr other ↦ rw (eq-eqb x a e, ne_eqb v (get_or b.units p 0) (λ z. other (z ∙ unit)), ne_eqb v (unit_at t p) other) (agrees.lines v x)
      ]
    ]

    parts : (l : Line) × (line_at t p a ≡ Some l) × ((l.commit ≡ true) × (l.store ≡ false) × (l.stale ≡ false))
    parts = reusable_parts (line_at t p a) reusable

    -- the reused line is clean before and after
    clean : (v x : ℕ) → (is_dirty ((reuse t p a).lines v x) ≡ is_dirty (t.lines v x)) × (is_dirty (t.lines v x) ≡ true → task_in ((reuse t p a).lines v x) ≡ task_in (t.lines v x))
    clean v x = elim (cases_eq x a) [
      | inr ne ↦ rw (ne_eqb x a ne) (refl, λ d. refl)
      | inl e ↦ elim (cases_eq v (unit_at t p)) [
        | inr other ↦ rw (eq-eqb x a e, ne_eqb v (unit_at t p) other) (refl, λ d. refl)
        | inl same ↦
            let old : is_dirty (t.lines v x) ≡ false = (λ i. is_dirty (t.lines (same i) (e i))) ∙ ap is_dirty parts.1 ∙ parts.2.1 in
            let new : is_dirty (line_after_reuse (t.commits + p) (line_at t p a)) ≡ false = ap (λ line. is_dirty (line_after_reuse (t.commits + p) line)) parts.1 ∙ parts.2.1 in
            let here : (reuse t p a).lines v x ≡ line_after_reuse (t.commits + p) (line_at t p a) = rw (eq-eqb x a e, eq-eqb v (unit_at t p) same) in
            (ap is_dirty here ∙ new ∙ sym old, λ d. absurd (true≢false (sym d ∙ old)))
      ]
    ]

    order : (x y z : ℕ) → is_lower t x y z ≡ is_lower (reuse t p a) x y z
    order x y z =
        where_both (is_dirty (t.lines y x)) (is_dirty (t.lines z x)) _ _ (λ e f. sym (ap₂ ltb ((clean y x).1 e) ((clean z x).1 f)))
        ∙ sym (ap₂ (λ i j. (i && j) && ltb (task_in ((reuse t p a).lines y x)) (task_in ((reuse t p a).lines z x))) (clean y x).0 (clean z x).0)

-- any read
pub read_agrees : (b : BusState) (t : LineTable) (p a : ℕ) → Agrees b t → p < length t.units → a < t.words → Agrees (bus_read b p a) (read t p a)
read_agrees b t p a agrees within known = elim (cases_Bool (is_active (line_at t p a))) [
  | inl hit ↦ rw (active_seen b t agrees p a, hit) agrees
  | inr miss ↦ elim (cases_Bool (is_reusable (line_at t p a))) [
    | inl reusable ↦ rw (active_seen b t agrees p a, miss, reusable_seen b t agrees p a, reusable) (reuse_agrees b t p a agrees within reusable)
    | inr other ↦ rw (active_seen b t agrees p a, miss, reusable_seen b t agrees p a, other) (fill_agrees b t p a (view (bus_map b) p a) agrees within known miss (ap (λ m. view m p a) (map_seen b t agrees)))
  ]
]
