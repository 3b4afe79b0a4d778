-- A read makes of the bus what its step makes of it.
use Rattle.std.proofs.Common.{◌≡◌, ◌∙◌, refl, sym, ap, ap₂, subst, ℕ, ◌<◌, ◌≤◌, ◌^◌, Bool, true, false, cond, not, ◌&&◌, Option, Some, None, is_some, List, length, get_or, inl, inr, arith, eq-eqb, ne_eqb, true≢false, Ok, Err, MatchResult}
use Rattle.std.specs.Prelude.{Result}
use Rattle.std.specs.Bool.{◌==◌}
use Rattle.std.proofs.lemmas.Bool.{cases_Bool, cases_eq}
use Rattle.svc_base.specs.declared.served.Served.{Served}
use Rattle.svc_base.specs.declared.served.Served.TheVariants.{Hit, Reuse, Version, Spill, Committed, Memory}
use Rattle.svc_line.specs.Bits.{Bits}
use Rattle.svc_line.specs.Line.{SeenLine}
use Rattle.svc_cache.specs.declared.row.SetFull.{SetFull}
use Rattle.svc_cache.specs.Places.{line_of}
use Rattle.svc_bus_laws.specs.Versioned.{view}
use Rattle.svc_bus_laws.specs.LineTable.{LineTable, unit_at, versioned_map}
use Rattle.svc_bus_laws.specs.Search.{greatest}
use Rattle.svc_bus_laws.specs.Supplier.{Supplier, supplier, by_committed}
use Rattle.svc_bus_laws.specs.Supplier as from
use Rattle.svc_bus_laws.specs.Steps.{with_at, read}
use Rattle.svc_bus_laws.specs.BusLine.{BusLine, is_active_line, is_dirty_line, is_reusable_line, reused_line, version_of_line}
use Rattle.svc_bus_laws.specs.BusState.{BusState, Agrees}
use Rattle.svc_bus_laws.specs.BusSteps.{bus_fill, bus_read, bus_reuse, filled_bus_line, line_after_request}
use Rattle.svc_bus_laws.specs.BusView.{bus_by_version, bus_line_at, bus_map, bus_newest, bus_supplier, bus_view}
use Rattle.svc_bus_laws.proofs.SeenLaws.{supplier_seen, view_seen}
use Rattle.svc_bus_laws.proofs.AgreeReads.{read_agrees}
use Rattle.svc_links_laws.specs.LinkedBus.{IsLinkedBus, SameButOrder}
use Rattle.svc_links_laws.proofs.LinkedBuses.{read_bus as linked_read}
use Rattle.svc_vol.specs.Lines.{link_of}
use Rattle.svc_vol.specs.Value.{ListValue}
use Rattle.svc_vol.proofs.Validity.{line_valid}
use Rattle.svc_vcl.specs.Described.{Describes, IsReadRequest, bus_line_of, line_with}
use Rattle.svc_vcl.specs.Planned.{supplier_of}
use Rattle.svc_retire.specs.Caches.{cache_at, held_line}
use Rattle.svc_retire.specs.Purges.{committed_in, purged_line}
use Rattle.svc_bus.specs.Lines.{line_in, link_in, with_line}
use Rattle.svc_bus.specs.Value.{BusValue, IsSoundBus, state_in}
use Rattle.svc_bus.specs.Room.{full_in}
use Rattle.svc_bus.specs.Carried.{is_hit, lines_after, memory_after}
use Rattle.svc_bus.proofs.Agreeing.{IsStep, place_is, step_agrees, step_linked}
use Rattle.svc_bus.proofs.Keeping.{KeepsSizes, kept_bus}
use Rattle.svc_bus.proofs.Knowing.{committed_is}
use Rattle.svc_bus.proofs.Putting.{never_full}
use Rattle.svc_bus.proofs.Replacing.{put_shown}
use Rattle.svc_bus.proofs.Shown.{some_shown, link_stays, purge_stays, Stays}

-- what holds of an answer holds of it under a condition
pub or_hit : {A : Type 0} (r : Result A SetFull) (hit : Bool) (full : Option ℕ) → MatchResult r (λ _. full ≡ None) (λ e. full ≡ Some e.0.0) → MatchResult r (λ _. hit ≡ false → full ≡ None) (λ e. full ≡ Some e.0.0)
or_hit (Ok x) hit full e = λ _. e
or_hit (Err x) hit full e = e

-- ---- the three kinds of read, by the unit's own line

pub read_hit : (b : BusState) (p a : ℕ) → is_active_line (bus_line_at b p a) ≡ true → bus_read b p a ≡ b
read_hit b p a active = ap (λ x. cond x b (cond (is_reusable_line (bus_line_at b p a)) (bus_reuse b p a) (bus_fill b p a (view (bus_map b) p a)))) active

read_reuse : (b : BusState) (p a : ℕ) → is_active_line (bus_line_at b p a) ≡ false → is_reusable_line (bus_line_at b p a) ≡ true → bus_read b p a ≡ bus_reuse b p a
read_reuse b p a idle reusable = ap₂ (λ x y. cond x b (cond y (bus_reuse b p a) (bus_fill b p a (view (bus_map b) p a)))) idle reusable

read_fill : (b : BusState) (p a : ℕ) → is_active_line (bus_line_at b p a) ≡ false → is_reusable_line (bus_line_at b p a) ≡ false → bus_read b p a ≡ bus_fill b p a (view (bus_map b) p a)
read_fill b p a idle other = ap₂ (λ x y. cond x b (cond y (bus_reuse b p a) (bus_fill b p a (view (bus_map b) p a)))) idle other

-- who served a read tells its kind
abbrev pub TellsKind : Served → (active reusable : Bool) → Type 0
TellsKind Hit active reusable = active ≡ true
TellsKind Reuse active reusable = (active ≡ false) × (reusable ≡ true)
TellsKind (Version unit) active reusable = (active ≡ false) × (reusable ≡ false)
TellsKind Spill active reusable = (active ≡ false) × (reusable ≡ false)
TellsKind (Committed unit) active reusable = (active ≡ false) × (reusable ≡ false)
TellsKind Memory active reusable = (active ≡ false) × (reusable ≡ false)

-- the kinds as numbers: a hit, a reuse, a bus request
abbrev kind : Supplier → ℕ
kind from.Hit = 0
kind from.Reuse = 1
kind (from.Version unit) = 2
kind from.Spill = 2
kind (from.Committed unit) = 2
kind from.Memory = 2

tells_hit : (s : Served) (y : Bool) → kind (supplier_of s) ≡ 0 → TellsKind s true y
tells_hit Hit y e = refl
tells_hit Reuse y e = absurd (omega (arith, e))
tells_hit (Version unit) y e = absurd (omega (arith, e))
tells_hit Spill y e = absurd (omega (arith, e))
tells_hit (Committed unit) y e = absurd (omega (arith, e))
tells_hit Memory y e = absurd (omega (arith, e))

tells_reuse : (s : Served) → kind (supplier_of s) ≡ 1 → TellsKind s false true
tells_reuse Hit e = absurd (omega (arith, e))
tells_reuse Reuse e = (refl, refl)
tells_reuse (Version unit) e = absurd (omega (arith, e))
tells_reuse Spill e = absurd (omega (arith, e))
tells_reuse (Committed unit) e = absurd (omega (arith, e))
tells_reuse Memory e = absurd (omega (arith, e))

tells_fill : (s : Served) → kind (supplier_of s) ≡ 2 → TellsKind s false false
tells_fill Hit e = absurd (omega (arith, e))
tells_fill Reuse e = absurd (omega (arith, e))
tells_fill (Version unit) e = (refl, refl)
tells_fill Spill e = (refl, refl)
tells_fill (Committed unit) e = (refl, refl)
tells_fill Memory e = (refl, refl)

-- a bus request is served neither by the unit's own active line nor by its reusable one
requested : (b : BusState) (a : ℕ) (place : Option ℕ) → kind (bus_by_version b a place) ≡ 2
requested b a (Some q) = refl
requested b a None = elim (cases_Bool (is_some (b.spill a))) [
  | inl spilled ↦ rw spilled refl
  | inr none ↦ rw none (committed (bus_newest b a))
]
  where
    committed : (o : Option ℕ) → kind (by_committed o) ≡ 2
    committed None = refl
    committed (Some u) = refl

tells : (s : Served) (x y : Bool) (rest : Supplier) → kind rest ≡ 2 → supplier_of s ≡ cond x from.Hit (cond y from.Reuse rest) → TellsKind s x y
tells s true y rest other e = tells_hit s y (ap kind e)
tells s false true rest other e = tells_reuse s (ap kind e)
tells s false false rest other e = tells_fill s (ap kind e ∙ other)

-- ---- lines as callers see them

some_is : {x y : BusLine} → ◌≡◌ {A = Option BusLine} (Some x) (Some y) → x ≡ y
some_is e = cc

active_clear : (x : BusLine) → is_active_line (Some x) ≡ true → x.commit ≡ false
active_clear x e = go x.commit e
  where
    go : (c : Bool) → not c ≡ true → c ≡ false
    go true e = absurd (true≢false (sym e))
    go false e = refl

-- a line that is taken over is active and clean
taken : (o : Option BusLine) (x : BusLine) → is_reusable_line o ≡ true → reused_line o ≡ Some x → (x.commit ≡ false) × (x.store ≡ false)
taken None x reusable e = absurd (true≢false (sym reusable))
taken (Some l) x reusable e =
    let same = sym (some_is e) in
    (ap (λ (y : BusLine). y.commit) same, ap (λ (y : BusLine). y.store) same ∙ clean l.commit l.store l.stale reusable)
  where
    clean : (c s t : Bool) → (c && (not s && not t)) ≡ true → s ≡ false
    clean true true t e = absurd (true≢false (sym e))
    clean true false t e = refl
    clean false s t e = absurd (true≢false (sym e))

-- what a read knows of its plan
pub record IsPlanned (b : BusValue) (p a : ℕ) (served : Served) (value : ℕ) (bits : Bits) : Type 0 where
  pub within : p < length b.units
  pub in_memory : a < length b.backing
  pub served_by : supplier_of served ≡ bus_supplier (state_in b) p a
  pub line : (bus_read (state_in b) p a).lines (get_or b.units p 0) a ≡ Some (line_with value bits)
  pub valid : bits.valid ≡ true

module _ (b : BusValue) (sound : IsSoundBus b) (p a : ℕ) (served : Served) (value : ℕ) (bits : Bits) (planned : IsPlanned b p a served value bits) where
  abbrev pub s : BusState
  s = state_in b

  abbrev pub own : ℕ
  own = get_or b.units p 0

  pub told : TellsKind served (is_active_line (bus_line_at s p a)) (is_reusable_line (bus_line_at s p a))
  told = tells served (is_active_line (bus_line_at s p a)) (is_reusable_line (bus_line_at s p a)) (bus_by_version s a (greatest p (λ q. is_some (version_of_line (bus_line_at s q a))))) (requested s a _) planned.served_by

  abbrev new_line : SeenLine
  new_line = record { value = value; bits = bits; next = None }

  new_shown : bus_line_of (Some new_line) ≡ Some (line_with value bits)
  new_shown = some_shown new_line planned.valid

  reused_is : is_active_line (bus_line_at s p a) ≡ false → is_reusable_line (bus_line_at s p a) ≡ true → reused_line (s.lines own a) ≡ Some (line_with value bits)
  reused_is idle reusable = sym there ∙ ap (λ (c : BusState). c.lines own a) (sym (read_reuse s p a idle reusable)) ∙ planned.line
    where
      there : (bus_reuse s p a).lines own a ≡ reused_line (s.lines own a)
      there = rw (eq-eqb a a refl, eq-eqb own own refl) refl

  abbrev filled : BusLine
  filled = filled_bus_line s p a (view (bus_map s) p a)

  filled_is : is_active_line (bus_line_at s p a) ≡ false → is_reusable_line (bus_line_at s p a) ≡ false → ◌≡◌ {A = Option BusLine} (Some filled) (Some (line_with value bits))
  filled_is idle other = sym there ∙ ap (λ (c : BusState). c.lines own a) (sym (read_fill s p a idle other)) ∙ planned.line
    where
      there : (bus_fill s p a (view (bus_map s) p a)).lines own a ≡ Some filled
      there = rw (eq-eqb a a refl, eq-eqb own own refl) refl

  -- the unit's line is active after the read, and clean after all but a hit
  after_is : (x : Served) → TellsKind x (is_active_line (bus_line_at s p a)) (is_reusable_line (bus_line_at s p a)) → (bits.commit ≡ false) × (is_hit x ≡ false → bits.store ≡ false)
  after_is Hit k =
      let there = ap (λ (c : BusState). c.lines own a) (sym (read_hit s p a k)) ∙ planned.line in
      (active_clear (line_with value bits) (ap is_active_line (sym there) ∙ k), λ e. absurd (true≢false e))
  after_is Reuse k = let both = taken (s.lines own a) (line_with value bits) k.1 (reused_is k.0 k.1) in (both.0, λ e. both.1)
  after_is (Version u) k = let same = sym (some_is (filled_is k.0 k.1)) in (ap (λ (x : BusLine). x.commit) same, λ e. ap (λ (x : BusLine). x.store) same)
  after_is Spill k = let same = sym (some_is (filled_is k.0 k.1)) in (ap (λ (x : BusLine). x.commit) same, λ e. ap (λ (x : BusLine). x.store) same)
  after_is (Committed u) k = let same = sym (some_is (filled_is k.0 k.1)) in (ap (λ (x : BusLine). x.commit) same, λ e. ap (λ (x : BusLine). x.store) same)
  after_is Memory k = let same = sym (some_is (filled_is k.0 k.1)) in (ap (λ (x : BusLine). x.commit) same, λ e. ap (λ (x : BusLine). x.store) same)

  pub plan_clear : bits.commit ≡ false
  plan_clear = (after_is served told).0

  abbrev full : Option ℕ
  full = full_in b.caches own (length b.backing) a

  -- a hit finds its line
  pub never_refused : (is_hit served ≡ false → full_in b.caches own (length b.backing) a ≡ None) → full_in b.caches own (length b.backing) a ≡ None
  never_refused room = go served told room
    where
      held : (line : Option SeenLine) → is_active_line (bus_line_of line) ≡ true → (l : SeenLine) × (line ≡ Some l)
      held None e = absurd (true≢false (sym e))
      held (Some l) e = (l, refl)

      go : (x : Served) → TellsKind x (is_active_line (bus_line_at s p a)) (is_reusable_line (bus_line_at s p a)) → (is_hit x ≡ false → full ≡ None) → full ≡ None
      go Hit k room =
          let line = held (line_of (cache_at b.caches own) a) k in
          never_full (cache_at b.caches own).sets (cache_at b.caches own).ways (length b.backing) (line_of (cache_at b.caches own)) a line.0 line.1
      go Reuse k room = room refl
      go (Version u) k room = room refl
      go Spill k room = room refl
      go (Committed u) k room = room refl
      go Memory k room = room refl

  module _ (new : BusValue) (sizes : KeepsSizes b new) (spill : new.spill ≡ b.spill) (commits : new.commits ≡ b.commits) (units : new.units ≡ b.units)
      (lines : (u x : ℕ) → held_line new.caches u x ≡ lines_after served (held_line b.caches) own a (Some new_line) u x)
      (memory : (x : ℕ) → get_or new.backing x 0 ≡ memory_after served (λ y. get_or b.backing y 0) a (committed_in b.caches b.backing a) x) where
    -- only lines and memory differ
    same_as : (c : BusState) → ((u x : ℕ) → line_in new.caches u x ≡ c.lines u x) → ((x : ℕ) → get_or new.backing x 0 ≡ c.backing x)
        → s.caches ≡ c.caches → s.sets ≡ c.sets → s.ways ≡ c.ways → s.words ≡ c.words → ((x : ℕ) → s.spill x ≡ c.spill x) → s.commits ≡ c.commits → s.units ≡ c.units → SameButOrder (state_in new) c
    same_as c lines memory caches sets ways words spills counts queue = record {
      caches = sizes.caches.count ∙ caches;
      sets = sizes.caches.sets 0 ∙ sets;
      ways = sizes.caches.ways 0 ∙ ways;
      words = sizes.backing ∙ words;
      lines = lines;
      spill = λ x. ap (λ (vs : List (Option ℕ)). get_or vs x None) spill ∙ spills x;
      backing = memory;
      commits = commits ∙ counts;
      units = units ∙ queue;
    }

    -- the unit's line of the word is the new one, which has no part in the links, and others stay or go
    new_link : (u x : ℕ) (others : Option SeenLine → Option SeenLine) → bits.store ≡ false → ((l : Option SeenLine) → Stays (others l) l) → held_line new.caches u x ≡ with_line (held_line b.caches) own a (Some new_line) others u x
        → is_dirty_line (line_in new.caches u x) ≡ true → link_in new.caches u x ≡ link_in b.caches u x
    new_link u x others clean stay is dirty = go (x == a) (u == own) is
      where
        go : (here mine : Bool) → held_line new.caches u x ≡ cond here (cond mine (Some new_line) (others (held_line b.caches u x))) (held_line b.caches u x) → link_in new.caches u x ≡ link_in b.caches u x
        go false mine is = ap link_of is
        go true false is = link_stays (held_line new.caches u x) (held_line b.caches u x) (subst (λ (l : Option SeenLine). Stays l (held_line b.caches u x)) (sym is) (stay (held_line b.caches u x))) dirty
        go true true is = absurd (true≢false (sym dirty ∙ ap (λ (l : Option SeenLine). is_dirty_line (bus_line_of l)) is ∙ ap is_dirty_line new_shown ∙ clean))

    is_step : IsStep new (bus_read s p a) (link_in b.caches)
    is_step = go served told lines memory
      where
        linked : IsLinkedBus (bus_read s p a) (link_in b.caches)
        linked = linked_read s (link_in b.caches) p a sound.linked planned.within planned.in_memory

        requested_step : is_active_line (bus_line_at s p a) ≡ false → is_reusable_line (bus_line_at s p a) ≡ false
            → ((u x : ℕ) → held_line new.caches u x ≡ with_line (held_line b.caches) own a (Some new_line) purged_line u x)
            → ((x : ℕ) → get_or new.backing x 0 ≡ with_at (λ y. get_or b.backing y 0) a (committed_in b.caches b.backing a) x) → IsStep new (bus_read s p a) (link_in b.caches)
        requested_step idle other lines memory = record {
          bus = linked;
          same = subst (SameButOrder (state_in new)) (sym (read_fill s p a idle other)) (same_as (bus_fill s p a (view (bus_map s) p a))
              (λ u x. ap bus_line_of (lines u x) ∙ put_shown (x == a) (u == own) (Some new_line) (held_line b.caches u x) (line_valid (cache_at b.caches u) x) ∙ ap (λ line. line_after_request s own a line u x) (new_shown ∙ sym (filled_is idle other)))
              (λ x. memory x ∙ ap (λ value. with_at (λ y. get_or b.backing y 0) a value x) (committed_is b sound a)) refl refl refl refl (λ x. refl) refl refl);
          kept = λ u x e. new_link u x purged_line (ap (λ (l : BusLine). l.store) (sym (some_is (filled_is idle other)))) purge_stays (lines u x) e;
        }

        go : (k : Served) → TellsKind k (is_active_line (bus_line_at s p a)) (is_reusable_line (bus_line_at s p a))
            → ((u x : ℕ) → held_line new.caches u x ≡ lines_after k (held_line b.caches) own a (Some new_line) u x)
            → ((x : ℕ) → get_or new.backing x 0 ≡ memory_after k (λ y. get_or b.backing y 0) a (committed_in b.caches b.backing a) x) → IsStep new (bus_read s p a) (link_in b.caches)
        go Hit k lines memory = record {
          bus = linked;
          same = subst (SameButOrder (state_in new)) (sym (read_hit s p a k)) (same_as s (λ u x. ap bus_line_of (lines u x)) memory refl refl refl refl (λ x. refl) refl refl);
          kept = λ u x e. ap link_of (lines u x);
        }
        go Reuse k lines memory = record {
          bus = linked;
          same = subst (SameButOrder (state_in new)) (sym (read_reuse s p a k.0 k.1)) (same_as (bus_reuse s p a) (λ u x. ap bus_line_of (lines u x) ∙ reuse_shown u x) memory refl refl refl refl (λ x. refl) refl refl);
          kept = λ u x e. new_link u x (λ other. other) (taken (s.lines own a) (line_with value bits) k.1 (reused_is k.0 k.1)).1 (λ l. inl refl) (lines u x) e;
        }
          where
            reuse_shown : (u x : ℕ) → bus_line_of (with_line (held_line b.caches) own a (Some new_line) (λ other. other) u x) ≡ (bus_reuse s p a).lines u x
            reuse_shown u x = elim (cases_eq x a) [
              | inr ne ↦ rw (ne_eqb x a ne)
              | inl here ↦ elim (cases_eq u own) [
                | inr ne ↦ rw (eq-eqb x a here, ne_eqb u own ne)
                | inl mine ↦ rw (eq-eqb x a here, eq-eqb u own mine) (new_shown ∙ sym (reused_is k.0 k.1) ∙ ap₂ (λ v y. reused_line (s.lines v y)) (sym mine) (sym here))
              ]
            ]
        go (Version u) k lines memory = requested_step k.0 k.1 lines memory
        go Spill k lines memory = requested_step k.0 k.1 lines memory
        go (Committed u) k lines memory = requested_step k.0 k.1 lines memory
        go Memory k lines memory = requested_step k.0 k.1 lines memory

    pub read_bus : IsSoundBus new
    read_bus = kept_bus b new sound sizes (step_linked new (bus_read s p a) (link_in b.caches) is_step) (subst (λ n. n ≤ 2 ^ 63) (sym commits) sound.few_commits)

    pub read_kept : (t : LineTable) (place : ℕ) → Agrees s t → place < length t.units → unit_at t place ≡ own → Agrees (state_in new) (read t place a)
    read_kept t place agrees within at = subst (λ q. Agrees (state_in new) (read t q a)) (sym (place_is b t agrees p place sound planned.within within at))
        (step_agrees new (bus_read s p a) (link_in b.caches) is_step (read t p a)
        (read_agrees s t p a agrees (subst (λ us. p < length us) agrees.units planned.within) (subst (λ n. a < n) agrees.words planned.in_memory)))

-- what a read has looked up before it asks for a plan
pub record IsLookedUp (b : BusValue) (list : ListValue) (p a unit backing : ℕ) (spill : Option ℕ) : Type 0 where
  pub in_memory : a < length b.backing
  pub described : Describes (state_in b) a list
  pub within : p < length b.units
  pub at_work : get_or b.units p 0 ≡ unit
  pub spill_is : spill ≡ get_or b.spill a None
  pub backing_is : backing ≡ get_or b.backing a 0

-- so the plan is asked for in any table that the bus agrees with
pub asked : (b : BusValue) (t : LineTable) (list : ListValue) (p a unit backing : ℕ) (spill : Option ℕ) → Agrees (state_in b) t → IsLookedUp b list p a unit backing spill → IsReadRequest (state_in b) t a list unit p spill backing
asked b t list p a unit backing spill agrees is = record {
  request = record { agrees = agrees; described = is.described; within = is.within; at_work = is.at_work };
  spill_is = sym is.spill_is;
  backing_is = sym is.backing_is;
}

pub own_asked : (b : BusValue) (list : ListValue) (p a unit backing : ℕ) (spill : Option ℕ) (sound : IsSoundBus b) → IsLookedUp b list p a unit backing spill → IsReadRequest (state_in b) sound.linked.table a list unit p spill backing
own_asked b list p a unit backing spill sound is = asked b sound.linked.table list p a unit backing spill sound.linked.agrees is

-- and it is one of the own table
pub planned_read : (b : BusValue) (list : ListValue) (p a unit backing : ℕ) (spill : Option ℕ) (served : Served) (value : ℕ) (bits : Bits) → IsSoundBus b → IsLookedUp b list p a unit backing spill
    → ((s : BusState) (t : LineTable) (x : ℕ) → IsReadRequest s t x list unit p spill backing → supplier_of served ≡ bus_supplier s p x)
    → ((s : BusState) (t : LineTable) (x : ℕ) → IsReadRequest s t x list unit p spill backing → (bus_read s p x).lines unit x ≡ Some (line_with value bits))
    → ((s : BusState) (t : LineTable) (x : ℕ) → IsReadRequest s t x list unit p spill backing → bits.valid ≡ true) → IsPlanned b p a served value bits
planned_read b list p a unit backing spill served value bits sound is by line valid = record {
  valid = valid (state_in b) sound.linked.table a (own_asked b list p a unit backing spill sound is);
  within = is.within;
  in_memory = is.in_memory;
  served_by = by (state_in b) sound.linked.table a (own_asked b list p a unit backing spill sound is);
  line = subst (λ u. (bus_read (state_in b) p a).lines u a ≡ Some (line_with value bits)) (sym is.at_work) (line (state_in b) sound.linked.table a (own_asked b list p a unit backing spill sound is));
}

-- callers see the plan's value and supplier in every table that agrees, at the unit's place
module _ (b : BusValue) (sound : IsSoundBus b) (t : LineTable) (agrees : Agrees (state_in b) t) (p place a : ℕ) (here : p < length b.units) (within : place < length t.units) (at : unit_at t place ≡ get_or b.units p 0) where
  same_place : place ≡ p
  same_place = place_is b t agrees p place sound here within at

  pub value_seen : (value : ℕ) → value ≡ bus_view (state_in b) p a → value ≡ view (versioned_map t) place a
  value_seen value is = is ∙ view_seen (state_in b) t p a agrees ∙ ap (λ q. view (versioned_map t) q a) (sym same_place)

  pub served_seen : (served : Served) → supplier_of served ≡ bus_supplier (state_in b) p a → supplier_of served ≡ supplier t place a
  served_seen served is = is ∙ supplier_seen (state_in b) t p a agrees ∙ ap (λ q. supplier t q a) (sym same_place)
