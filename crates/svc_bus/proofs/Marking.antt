-- One version after another gets the mark of a store.
use Rattle.std.proofs.Common.{◌≡◌, ◌≢◌, ◌∙◌, refl, sym, ap, ℕ, zero, suc, ◌+◌, ◌<◌, ◌≤◌, Bool, true, false, cond, ◌&&◌, ◌||◌, Option, Some, None, List, length, take, arith, ne_eqb}
use Rattle.std.specs.Bool.{◌==◌}
use Rattle.std.proofs.lemmas.List.{take_all}
use Rattle.std.proofs.lemmas.List.Folds.{list_any_at, list_any_more}
use Rattle.std.proofs.lemmas.Bool.{eq-eqb}
use Rattle.svc_cache.specs.declared.probes.Probes.{Probes}
use Rattle.svc_cache.specs.Places.{CacheValue}
use Rattle.svc_bus_laws.specs.Search.{how_many}
use Rattle.svc_line.specs.Bits.{after_overtaking}
use Rattle.svc_line.specs.Line.{SeenLine}
use Rattle.svc_vol.specs.declared.held_line.HeldLine.{HeldLine}
use Rattle.svc_vol.specs.Value.{no_held_line, unit_at, held_at}
use Rattle.svc_vcl.specs.Planned.{is_named}
use Rattle.svc_links_laws.specs.LinkSteps.{is_unit}
use Rattle.svc_retire.specs.Caches.{held_line, SameSizes}
use Rattle.svc_retire.specs.Purges.{CountsSearches, HasRoomFor}
use Rattle.svc_retire.proofs.Counts.{how_many_more, how_many_none}
use Rattle.svc_bus.specs.Marks.{overtaken_line, overtaken_where, AreHeld, EndBelow, IsHeld}

-- ---- the units of the versions so far

named_more : (versions : List HeldLine) (k u : ℕ) → k < length versions → is_named (take (suc k) versions) u ≡ (is_named (take k versions) u || (unit_at versions k == u))
named_more versions k u within = ap (λ n. is_named (take n versions) u) one_more ∙ list_any_more (λ (version : HeldLine). version.unit.0 == u) versions k no_held_line within
  where
    one_more : suc k ≡ k + 1
    one_more = omega arith

named_none : (versions : List HeldLine) (k u : ℕ) → k ≤ length versions → ((i : ℕ) → i < k → unit_at versions i ≢ u) → is_named (take k versions) u ≡ false
named_none versions zero u within apart = refl
named_none versions (suc k) u within apart =
    named_more versions k u (omega (arith, within))
    ∙ neither (is_named (take k versions) u) (unit_at versions k == u) (named_none versions k u (omega (arith, within)) (λ i below. apart i (omega (arith, below)))) (ne_eqb (unit_at versions k) u (apart k (omega arith)))
  where
    neither : (x y : Bool) → x ≡ false → y ≡ false → (x || y) ≡ false
    neither true y e f = e
    neither false y e f = f

pub named_at : (versions : List HeldLine) (k : ℕ) → k < length versions → is_named versions (unit_at versions k) ≡ true
named_at versions k within = list_any_at (λ (version : HeldLine). version.unit.0 == unit_at versions k) versions k no_held_line within (eq-eqb (unit_at versions k) (unit_at versions k) refl)

-- versions in different caches are as many as their units
pub as_many : (caches : List CacheValue) (word : ℕ) (versions : List HeldLine) → AreHeld caches word versions → how_many (length caches) (is_named versions) ≡ length versions
as_many caches word versions held =
    ap (λ (xs : List HeldLine). how_many (length caches) (is_named xs)) (sym (take_all (length versions) versions (omega arith))) ∙ go (length versions) (omega arith)
  where
    go : (k : ℕ) → k ≤ length versions → how_many (length caches) (is_named (take k versions)) ≡ k
    go zero within = how_many_none (length caches) (is_named (take 0 versions)) (λ u below. refl)
    go (suc k) within =
        let here : k < length versions = omega (arith, within) in
        let one = how_many_more (length caches) (is_named (take k versions)) (is_named (take (suc k) versions)) (unit_at versions k) (held.each k here).within
        (named_none versions k (unit_at versions k) (omega (arith, here)) (λ i below. held.apart.apart i k below here))
        (named_more versions k (unit_at versions k) here ∙ either (is_named (take k versions) (unit_at versions k)) _ (eq-eqb (unit_at versions k) (unit_at versions k) refl))
        (λ u ne. named_more versions k u here ∙ right_false (is_named (take k versions) u) _ (ne_eqb (unit_at versions k) u (λ e. ne (sym e)))) in
        let before = go k (omega (arith, within)) in
        omega (arith, one, before)
      where
        either : (x y : Bool) → y ≡ true → (x || y) ≡ true
        either true y e = refl
        either false y e = e

        right_false : (x y : Bool) → y ≡ false → (x || y) ≡ x
        right_false true y e = refl
        right_false false y e = e

-- ---- one version after another

-- what has become of the caches after the first so many versions
pub record IsMarked (before now : List CacheValue) (previous : Option ℕ) (writer : ℕ) (stale : List HeldLine) (word count : ℕ) (probes_before probes_now : Probes) : Type 0 where
  pub lines : (u a : ℕ) → held_line now u a ≡ overtaken_where previous writer u ((a == word) && is_named (take count stale) u) (held_line before u a)
  pub sizes : SameSizes before now
  pub counted : CountsSearches probes_before probes_now count

and_false : (x y : Bool) → y ≡ false → (x && y) ≡ false
and_false true y e = e
and_false false y e = refl

unmarked : (previous : Option ℕ) (writer u : ℕ) (x y : Bool) (line : Option SeenLine) → y ≡ false → overtaken_where previous writer u (x && y) line ≡ line
unmarked previous writer u x y line e = ap (λ z. overtaken_where previous writer u z line) (and_false x y e)

marked_none : (previous : Option ℕ) (writer u : ℕ) (x : Bool) → overtaken_where previous writer u x None ≡ None
marked_none previous writer u true = refl
marked_none previous writer u false = refl

-- a mark that is set twice is set
twice : (previous : Option ℕ) (writer u : ℕ) (line : Option SeenLine) → overtaken_line previous writer u (overtaken_line previous writer u line) ≡ overtaken_line previous writer u line
twice previous writer u None = refl
twice previous writer u (Some l) = go (is_unit previous u)
  where
    go : (x : Bool) → ◌≡◌ {A = Option SeenLine} (Some (record { value = l.value; bits = after_overtaking l.bits; next = cond x (Some writer) (cond x (Some writer) l.next) })) (Some (record { value = l.value; bits = after_overtaking l.bits; next = cond x (Some writer) l.next }))
    go true = refl
    go false = refl

-- marks come together
marked_on : (previous : Option ℕ) (writer u : ℕ) (x m n : Bool) (line : Option SeenLine) → overtaken_where previous writer u (x && n) (overtaken_where previous writer u (x && m) line) ≡ overtaken_where previous writer u (x && (m || n)) line
marked_on previous writer u false m n line = refl
marked_on previous writer u true false n line = refl
marked_on previous writer u true true false line = refl
marked_on previous writer u true true true line = twice previous writer u line

pub mark_begins : (caches : List CacheValue) (previous : Option ℕ) (writer : ℕ) (stale : List HeldLine) (word : ℕ) (probes : Probes) → IsMarked caches caches previous writer stale word 0 probes probes
mark_begins caches previous writer stale word probes = record {
  lines = λ u a. sym (unmarked previous writer u (a == word) (is_named (take 0 stale) u) (held_line caches u a) refl);
  sizes = record { count = refl; sets = λ u. refl; ways = λ u. refl };
  counted = record { searches = omega arith; places = omega arith };
}

module _ (before now : List CacheValue) (previous : Option ℕ) (writer : ℕ) (stale : List HeldLine) (word count : ℕ) (probes_before probes_now : Probes) (done : IsMarked before now previous writer stale word count probes_before probes_now) where
  -- the next version is still its unit's line
  pub mark_held : count < length stale → AreHeld before word stale → IsHeld now word (held_at stale count)
  mark_held below held =
      let h = held.each count below in
      let fresh = named_none stale count (unit_at stale count) (omega (arith, below)) (λ i less. held.apart.apart i count less below) in
      record {
        within = let same = done.sizes.count in let low = h.within in omega (arith, same, low);
        held = done.lines (unit_at stale count) word ∙ unmarked previous writer (unit_at stale count) (word == word) (is_named (take count stale) (unit_at stale count)) (held_line before (unit_at stale count) word) fresh ∙ h.held;
        valid = h.valid;
      }

  pub mark_ends_below : (bound : ℕ) → EndBelow before bound → EndBelow now bound
  mark_ends_below bound ends = record { ends = λ u a past. done.lines u a ∙ ap (overtaken_where previous writer u ((a == word) && is_named (take count stale) u)) (ends.ends u a past) ∙ marked_none previous writer u ((a == word) && is_named (take count stale) u) }

  pub mark_room : count < length stale → HasRoomFor probes_before before (length stale) → HasRoomFor probes_now now 1
  mark_room below room =
      let searches = done.counted.searches in
      let places = done.counted.places in
      let many = room.searches in
      let wide = room.places in
      record {
        searches = omega (arith, searches, many, below);
        places = omega (arith, places, wide, below);
        ways = λ u h. let e = done.sizes.ways u in let low = room.ways u (omega (arith, h, done.sizes.count)) in omega (arith, e, low);
      }

  pub mark_steps : count < length stale → (next : List CacheValue) (probes_next : Probes)
      → ((u a : ℕ) → held_line next u a ≡ overtaken_where previous writer u ((a == word) && (unit_at stale count == u)) (held_line now u a))
      → SameSizes now next
      → CountsSearches probes_now probes_next 1
      → IsMarked before next previous writer stale word (suc count) probes_before probes_next
  mark_steps below next probes_next lines sizes counted = record {
    lines = λ u a.
        lines u a
        ∙ ap (overtaken_where previous writer u ((a == word) && (unit_at stale count == u))) (done.lines u a)
        ∙ marked_on previous writer u (a == word) (is_named (take count stale) u) (unit_at stale count == u) (held_line before u a)
        ∙ ap (λ x. overtaken_where previous writer u ((a == word) && x) (held_line before u a)) (sym (named_more stale count u below));
    sizes = record {
      count = sizes.count ∙ done.sizes.count;
      sets = λ u. sizes.sets u ∙ done.sizes.sets u;
      ways = λ u. sizes.ways u ∙ done.sizes.ways u;
    };
    counted = record {
      searches = let a = counted.searches in let b = done.counted.searches in omega (arith, a, b);
      places = let a = counted.places in let b = done.counted.places in omega (arith, a, b);
    };
  }

-- all of them
pub mark_ends : (before now : List CacheValue) (previous : Option ℕ) (writer : ℕ) (stale : List HeldLine) (word : ℕ) (probes_before probes_now : Probes) → IsMarked before now previous writer stale word (length stale) probes_before probes_now
    → (u a : ℕ) → held_line now u a ≡ overtaken_where previous writer u ((a == word) && is_named stale u) (held_line before u a)
mark_ends before now previous writer stale word probes_before probes_now done u a =
    done.lines u a ∙ ap (λ (xs : List HeldLine). overtaken_where previous writer u ((a == word) && is_named xs u) (held_line before u a)) (take_all (length stale) stale (omega arith))
