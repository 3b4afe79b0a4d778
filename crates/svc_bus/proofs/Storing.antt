-- A store: its searches are few, and what it makes of the lines is what a write makes of the line table.
use Rattle.std.proofs.Common.{◌≡◌, ◌∙◌, refl, sym, ap, ℕ, zero, suc, ◌+◌, ◌<◌, ◌≤◌, Bool, true, false, cond, not, ◌&&◌, ◌||◌, Option, Some, None, List, length, arith, true≢false, eq-eqb, ne_eqb}
use Rattle.std.specs.Bool.{◌==◌}
use Rattle.std.proofs.lemmas.Bool.{false≢true}
use Rattle.svc_base.specs.declared.ids.UnitId.{UnitId}
use Rattle.svc_cache.specs.declared.probes.Probes.{Probes}
use Rattle.svc_cache.specs.Places.{CacheValue}
use Rattle.svc_bus_laws.specs.Search.{how_many}
use Rattle.svc_line.specs.Line.{SeenLine}
use Rattle.svc_vol.specs.Lines.{is_committed_version}
use Rattle.svc_vol.specs.declared.held_line.HeldLine.{HeldLine}
use Rattle.svc_vol.specs.Value.{unit_at}
use Rattle.svc_vcl.specs.Planned.{is_named}
use Rattle.svc_retire.specs.Caches.{held_line, SameSizes}
use Rattle.svc_retire.specs.Purges.{is_purged, keeps, purged_line, purges, CountsSearches, HasRoomFor}
use Rattle.svc_retire.proofs.Counts.{how_many_within, how_many_room}
use Rattle.svc_bus.specs.Lines.{with_line}
use Rattle.svc_bus.specs.Looking.{CountsUpTo}
use Rattle.svc_bus.specs.Marks.{AreHeld, EndBelow}
use Rattle.svc_bus.specs.Stores.{ChangeOnce}
use Rattle.svc_bus.proofs.Marking.{as_many, named_at}

-- ---- the searches

-- two tests that no number passes both, and a number that passes neither
both_few : (n : ℕ) (p q : ℕ → Bool) (k : ℕ) → k < n → p k ≡ false → q k ≡ false → ((j : ℕ) → q j ≡ true → p j ≡ false) → (how_many n p + how_many n q) + 1 ≤ n
both_few n p q k h fail miss apart =
    let sum = added n in
    let room = how_many_room n (λ j. p j || q j) k h (neither (p k) (q k) fail miss) in
    omega (arith, sum, room)
  where
    neither : (x y : Bool) → x ≡ false → y ≡ false → (x || y) ≡ false
    neither true y e f = absurd (true≢false e)
    neither false y e f = f

    one : (x y : Bool) → (y ≡ true → x ≡ false) → cond (x || y) 1 0 ≡ cond x 1 0 + cond y 1 0
    one true true apart = absurd (true≢false (apart refl))
    one true false apart = omega arith
    one false true apart = omega arith
    one false false apart = omega arith

    added : (m : ℕ) → how_many m (λ j. p j || q j) ≡ how_many m p + how_many m q
    added zero = omega arith
    added (suc m) = let below = added m in let here = one (p m) (q m) (apart m) in omega (arith, below, here)

not_purged : (x y : Bool) → x ≡ false → (x && y) ≡ false
not_purged true y e = absurd (true≢false e)
not_purged false y e = refl

own_kept : (x y : Bool) → y ≡ true → (x && not y) ≡ false
own_kept true true e = refl
own_kept false true e = refl
own_kept x false e = absurd (false≢true e)

-- one line is put, some are purged and others marked: at most one in each cache
pub changes_few : (caches : List CacheValue) (unit : UnitId) (word : ℕ) (stale : List HeldLine) → unit.0 < length caches → ChangeOnce caches unit.0 word stale → (purges caches (Some unit) word + how_many (length caches) (is_named stale)) + 1 ≤ length caches
changes_few caches unit word stale known once =
    both_few (length caches) (is_purged caches (Some unit) word) (is_named stale) unit.0 known
    (own_kept (is_committed_version (held_line caches unit.0 word)) (unit.0 == unit.0) (eq-eqb unit.0 unit.0 refl))
    once.others
    (λ u named. not_purged (is_committed_version (held_line caches u word)) (not (keeps (Some unit) u)) (once.apart u named))

pub room_left : (before now : List CacheValue) (probes_before probes_now : Probes) (unit : UnitId) (word : ℕ) (stale : List HeldLine) → AreHeld before word stale → SameSizes before now → CountsSearches probes_before probes_now (purges before (Some unit) word + 1) → HasRoomFor probes_before before (1 + (length before + length before)) → HasRoomFor probes_now now (length stale)
room_left before now probes_before probes_now unit word stale held sizes counted room =
    let short = how_many_within (length before) (is_named stale) in
    let all = as_many before word stale held in
    let few = how_many_within (length before) (is_purged before (Some unit) word) in
    let searches = counted.searches in
    let places = counted.places in
    let many = room.searches in
    let wide = room.places in
    let same = sizes.count in
    record {
      searches = omega (arith, few, searches, many, short, all);
      places = omega (arith, few, places, wide, short, all);
      ways = λ u h. let e = sizes.ways u in let low = room.ways u (omega (arith, h, same)) in omega (arith, e, low);
    }

pub searches_few : (before now : List CacheValue) (first second third : Probes) (unit : UnitId) (word : ℕ) (stale : List HeldLine) → unit.0 < length before → ChangeOnce before unit.0 word stale → AreHeld before word stale → SameSizes before now
    → CountsSearches first second (purges before (Some unit) word + 1) → CountsSearches second third (length stale) → CountsUpTo first third (length before)
searches_few before now first second third unit word stale known once held sizes put marked =
    let few = changes_few before unit word stale known once in
    let a = put.searches in
    let b = marked.searches in
    let all = as_many before word stale held in
    record { kept = omega (arith, a, b); few = omega (arith, few, a, b, all) }

-- ---- the lines that are to be marked stay

pub held_after : (before now : List CacheValue) (unit word : ℕ) (line : Option SeenLine) (stale : List HeldLine) → ChangeOnce before unit word stale → SameSizes before now
    → ((u a : ℕ) → held_line now u a ≡ with_line (held_line before) unit word line purged_line u a) → AreHeld before word stale → AreHeld now word stale
held_after before now unit word line stale once sizes lines held = record {
  each = λ k below.
      let h = held.each k below in
      let named = named_at stale k below in
      record {
        within = let low = h.within in let same = sizes.count in omega (arith, low, same);
        held = lines (unit_at stale k) word ∙ stays k named ∙ h.held;
        valid = h.valid;
      };
  apart = held.apart;
}
  where
    stays : (k : ℕ) → is_named stale (unit_at stale k) ≡ true → with_line (held_line before) unit word line purged_line (unit_at stale k) word ≡ held_line before (unit_at stale k) word
    stays k named = rw (eq-eqb word word refl, ne_eqb (unit_at stale k) unit (λ same. absurd (true≢false (sym named ∙ ap (is_named stale) same ∙ once.others)))) (ap (λ x. cond x None (held_line before (unit_at stale k) word)) (once.apart (unit_at stale k) named))

-- ---- no line past the memory

pub put_ends : (before now : List CacheValue) (unit word bound : ℕ) (line : Option SeenLine) → word < bound → EndBelow before bound → ((u a : ℕ) → held_line now u a ≡ with_line (held_line before) unit word line purged_line u a) → EndBelow now bound
put_ends before now unit word bound line within ends lines = record { ends = λ u a past. lines u a ∙ other u a past }
  where
    other : (u a : ℕ) → bound ≤ a → with_line (held_line before) unit word line purged_line u a ≡ None
    other u a past = rw (ne_eqb a word (λ e. absurd (omega (arith, past, within, e)))) (ends.ends u a past)
