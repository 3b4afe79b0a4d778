-- Lemmas on the refusals.
use Rattle.std.proofs.Common.{◌≡◌, refl, sym, ap, subst, ◌∙◌, ℕ, suc, zero, ◌<◌, Some, None, true, false, Bool, not, ◌&&◌, Option, length, inl, inr, arith, true≢false, is_some, is_none, leb, leb-true, ltb, ltb-true, eqb-true}
use Rattle.std.specs.Bool.{◌==◌}
use Rattle.std.proofs.lemmas.Bool.{cases_Bool}
use Rattle.svc_bus_laws.specs.Search.{least, how_many}
use Rattle.svc_bus_laws.specs.LineTable.{Line, LineTable, is_active, unit_at}
use Rattle.svc_bus_laws.specs.BusLine.{BusLine, is_active_line, is_committed_line}
use Rattle.svc_bus_laws.specs.BusState.{BusState, Agrees, without_number}
use Rattle.svc_bus_laws.specs.Refusals.{CacheState, bus_cache, table_cache, is_in_set, is_committed_in_set, is_set_full, full_address, set_full, is_not_resident, is_head, is_pinned, IsNamed}
use Rattle.svc_bus_laws.proofs.Searches.{Found, least_cases, some_is}

-- ---- counts

none_counted : (n : ℕ) (test : ℕ → Bool) → ((k : ℕ) → k < n → test k ≡ false) → how_many n test ≡ 0
none_counted zero test never = refl
none_counted (suc n) test never =
    let below = none_counted n test (λ k h. never k (omega (arith, h))) in
    let here = never n (omega arith) in
    rw (below, here)

both : (x y : Bool) → (x && y) ≡ true → (x ≡ true) × (y ≡ true)
both true y e = (refl, e)
both false y e = absurd (true≢false (sym e))

-- ---- a full set

pub room_allows : (c : CacheState) (a : ℕ) → is_set_full c a ≡ false → set_full c a ≡ None
room_allows c a e = rw e

pub full_refuses : (c : CacheState) (a : ℕ) → 0 < c.ways → is_set_full c a ≡ true → (b : ℕ) × (set_full c a ≡ Some b)
full_refuses c a ways full = elim (least_cases c.words (is_committed_in_set c a)) [
  | inr (b, is, found) ↦ (b, rw (full, is))
  | inl (none, never) ↦ elim (least_cases c.words (is_in_set c a)) [
    | inr (b, is, found) ↦ (b, rw (full, none) is)
    | inl (empty, nowhere) ↦ absurd (omega (arith, ways, leb-true c.ways (how_many c.words (is_in_set c a)) (both (is_none (c.lines a)) (leb c.ways (how_many c.words (is_in_set c a))) full).1, none_counted c.words (is_in_set c a) nowhere))
  ]
]

-- the found address is the named one
full_named : (c : CacheState) (a b : ℕ) → full_address c a ≡ Some b → IsNamed c a b
full_named c a b e = elim (least_cases c.words (is_committed_in_set c a)) [
  | inr (k, is, found) ↦ subst (IsNamed c a) (some_is k b (sym (first k is) ∙ e)) (committed k found)
  | inl (none, never) ↦ elim (least_cases c.words (is_in_set c a)) [
    | inr (k, is, found) ↦ subst (IsNamed c a) (some_is k b (sym (second k none is) ∙ e)) (any never k found)
    | inl (empty, nowhere) ↦ absurd (true≢false (sym (ap is_some e) ∙ ap is_some (neither none empty)))
  ]
]
  where
    first : (k : ℕ) → least c.words (is_committed_in_set c a) ≡ Some k → full_address c a ≡ Some k
    first k is = rw is

    second : (k : ℕ) → least c.words (is_committed_in_set c a) ≡ None → least c.words (is_in_set c a) ≡ Some k → full_address c a ≡ Some k
    second k none is = rw none is

    neither : least c.words (is_committed_in_set c a) ≡ None → least c.words (is_in_set c a) ≡ None → full_address c a ≡ None
    neither none empty = rw none empty

    committed : (k : ℕ) → Found c.words (is_committed_in_set c a) k → IsNamed c a k
    committed k found =
        let w = both (is_in_set c a k) (is_committed_line (c.lines k)) found.passes in
        record {
          in_memory = found.within;
          in_set = w.0;
          least = λ v h in_set. (low (is_in_set c a v) (is_committed_line (c.lines v)) (found.before v h) in_set, w.1);
          preferred = λ v h e. w.1;
        }
      where
        low : (x y : Bool) → (x && y) ≡ false → x ≡ true → y ≡ false
        low true y e f = e
        low false y e f = absurd (true≢false (sym f))

    any : ((k : ℕ) → k < c.words → is_committed_in_set c a k ≡ false) → (k : ℕ) → Found c.words (is_in_set c a) k → IsNamed c a k
    any never k found = record {
      in_memory = found.within;
      in_set = found.passes;
      least = λ v h in_set. absurd (true≢false (sym in_set ∙ found.before v h));
      preferred = λ v h e. absurd (true≢false (sym e ∙ never v h));
    }

pub named_address : (c : CacheState) (a b : ℕ) → set_full c a ≡ Some b → IsNamed c a b
named_address c a b e = elim (cases_Bool (is_set_full c a)) [
  | inl full ↦ full_named c a b (rw full at e)
  | inr room ↦ absurd (true≢false (sym (ap is_some e) ∙ ap is_some (room_allows c a room)))
]

-- ---- a replacement

pub pinned_resides : (b : BusState) (u a : ℕ) → is_pinned (bus_cache b u) b.units u a ≡ true → is_not_resident (bus_cache b u) a ≡ false
pinned_resides b u a e = go (b.lines u a) (both (is_active_line (b.lines u a)) (not (is_head b.units u)) e).0
  where
    go : (line : Option BusLine) → is_active_line line ≡ true → is_none line ≡ false
    go None e = absurd (true≢false (sym e))
    go (Some l) e = refl

active_seen : (line : Option Line) → is_active_line (without_number line) ≡ is_active line
active_seen None = refl
active_seen (Some l) = refl

pub unpinned_head : (t : LineTable) (u a : ℕ) → is_pinned (table_cache t u) t.units u a ≡ false → is_active (t.lines u a) ≡ true → (0 < length t.units) × (unit_at t 0 ≡ u)
unpinned_head t u a free active =
    let head = both (ltb 0 (length t.units)) (unit_at t 0 == u) (heads (is_active_line (without_number (t.lines u a))) (is_head t.units u) free (active_seen (t.lines u a) ∙ active)) in
    (ltb-true 0 (length t.units) head.0, eqb-true (unit_at t 0) u head.1)
  where
    heads : (x y : Bool) → (x && not y) ≡ false → x ≡ true → y ≡ true
    heads true true e f = refl
    heads true false e f = absurd (true≢false e)
    heads false y e f = absurd (true≢false (sym f))

-- ---- a bus and the tables that it agrees with

pub same_cache : (b : BusState) (t : LineTable) (u : ℕ) → Agrees b t → bus_cache b u ≡ table_cache t u
same_cache b t u agrees = λ i. record { sets = agrees.sets i; ways = agrees.ways i; words = agrees.words i; lines = λ a. agrees.lines u a i }

pub same_full : (b : BusState) (t : LineTable) (u a : ℕ) → Agrees b t → set_full (bus_cache b u) a ≡ set_full (table_cache t u) a
same_full b t u a agrees = ap (λ c. set_full c a) (same_cache b t u agrees)

pub same_resident : (b : BusState) (t : LineTable) (u a : ℕ) → Agrees b t → is_not_resident (bus_cache b u) a ≡ is_not_resident (table_cache t u) a
same_resident b t u a agrees = ap (λ c. is_not_resident c a) (same_cache b t u agrees)

pub same_pinned : (b : BusState) (t : LineTable) (u a : ℕ) → Agrees b t → is_pinned (bus_cache b u) b.units u a ≡ is_pinned (table_cache t u) t.units u a
same_pinned b t u a agrees = λ i. is_pinned (same_cache b t u agrees i) (agrees.units i) u a
