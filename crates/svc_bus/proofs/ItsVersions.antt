-- The units of a word's version list that have committed versions are in the order that callers see.
use Rattle.std.proofs.Common.{◌≡◌, ◌≢◌, ◌∙◌, sym, ap, ℕ, zero, suc, ◌<◌, Bool, true, false, Option, Some, None, List, [], ◌∷◌, get_or, length, map, option_map, inl, inr, arith, true≢false, eq-eqb}
use Rattle.std.specs.Prelude.{◌==◌, ◌||◌, cond}
use Rattle.std.specs.List.{All, AllPairs, filter, list_any}
use Rattle.std.proofs.Math.Bool.{or-true}
use Rattle.std.proofs.lemmas.Bool.{and_from, and_parts, cases_lt}
use Rattle.std.proofs.lemmas.List.{get_or-map, get_or_default, length-map}
use Rattle.std.proofs.lemmas.List.Elements.{All-filter, filter_passes}
use Rattle.std.proofs.lemmas.List.Kept.{AllPairs-filter}
use Rattle.svc_base.specs.declared.ids.UnitId.{UnitId}
use Rattle.svc_line.specs.Bits.{bits_of, is_dirty}
use Rattle.svc_cache.specs.Places.{CacheValue}
use Rattle.svc_bus_laws.specs.LineTable.{LineTable}
use Rattle.svc_bus_laws.specs.BusLine.{BusLine, is_committed_line, is_committed_dirty_line, is_dirty_line}
use Rattle.svc_bus_laws.specs.BusState.{BusState, Agrees}
use Rattle.svc_bus_laws.proofs.OrderProofs.{order_total}
use Rattle.svc_bus_laws.proofs.SoundSeen.{sound_seen}
use Rattle.svc_vol.specs.declared.held_line.HeldLine.{HeldLine}
use Rattle.svc_vol.specs.Lines.{lines_in}
use Rattle.svc_vol.specs.Value.{AreCommitted, ListValue, active_lines, no_held_line, seen_held_line, unit_at, held_at}
use Rattle.svc_vcl.specs.Described.{Describes}
use Rattle.svc_vcl.proofs.Slots.{dirty_bits}
use Rattle.svc_bus.specs.Versions.{AreItsVersions, HasVersion, IsOlder, is_older_version, is_stored, version_units}
use Rattle.svc_bus.specs.Value.{BusValue, IsSoundBus, state_in}
use Rattle.svc_bus.proofs.Requests.{listed_describes}

committed_of : (line : Option BusLine) → is_committed_dirty_line line ≡ true → is_committed_line line ≡ true
committed_of None e = e
committed_of (Some l) e = (and_parts l.commit l.store e).0

dirty_of : (line : Option BusLine) → is_committed_dirty_line line ≡ true → is_dirty_line line ≡ true
dirty_of None e = e
dirty_of (Some l) e = (and_parts l.commit l.store e).1

-- a stored line's unit is among the units of those that were stored to
named : (unit : ℕ) (versions : List HeldLine) (i : ℕ) → i < length versions → is_stored (held_at versions i) ≡ true → unit_at versions i ≡ unit
    → list_any (λ (x : UnitId). x.0 == unit) (version_units versions) ≡ true
named unit [] i within set is = absurd (omega (arith, within))
named unit (v ∷ vs) zero within set is = rw set (ap (λ x. x || list_any (λ (x : UnitId). x.0 == unit) (version_units vs)) (eq-eqb _ _ is))
named unit (v ∷ vs) (suc i) within set is = later (is_stored v) (named unit vs i (omega (arith, within)) set is)
  where
    later : (x : Bool) → list_any (λ (x : UnitId). x.0 == unit) (version_units vs) ≡ true
        → list_any (λ (x : UnitId). x.0 == unit) (map (λ (w : HeldLine). w.unit) (cond x (v ∷ filter is_stored vs) (filter is_stored vs))) ≡ true
    later true any = ap (λ y. (v.unit.0 == unit) || y) any ∙ or-true (v.unit.0 == unit)
    later false any = any

-- the list has each unit once
abbrev Once : List HeldLine → Type 0
Once versions = (i j : ℕ) → i < length versions → j < length versions → unit_at versions i ≡ unit_at versions j → i ≡ j

module _ (b : BusState) (t : LineTable) (a : ℕ) (list : ListValue) (agrees : Agrees b t) (described : Describes b a list) (once : Once list.committed) where
  dirty_here : (i : ℕ) → i < length list.committed → is_dirty (bits_of (held_at list.committed i).line.bits) ≡ is_committed_dirty_line (b.lines (unit_at list.committed i) a)
  dirty_here i here =
      let only = described.only i here in
      dirty_bits (bits_of (held_at list.committed i).line.bits) (held_at list.committed i).line.value only.committed ∙ ap is_committed_dirty_line (sym only.held)

  cached : (u : ℕ) → is_committed_dirty_line (b.lines u a) ≡ true → u < b.caches
  cached u dirty = elim (cases_lt u b.caches) [
    | inl below ↦ below
    | inr past ↦ absurd (true≢false (sym dirty ∙ ap is_committed_dirty_line ((sound_seen b t agrees).cached u a past)))
  ]

  -- at a place: a line that was stored to is its unit's committed version
  has : (i : ℕ) → i < length list.committed → is_stored (held_at list.committed i) ≡ true → is_committed_dirty_line (b.lines (unit_at list.committed i) a) ≡ true
  has i here stored = sym (dirty_here i here) ∙ stored

  apart : (i j : ℕ) → i < j → j < length list.committed → unit_at list.committed i ≢ unit_at list.committed j
  apart i j before within same =
      let e : i ≡ j = once i j (omega (arith, before, within)) within same in
      omega (arith, e, before)

  older : (i j : ℕ) → i < j → j < length list.committed → is_stored (held_at list.committed i) ≡ true → is_stored (held_at list.committed j) ≡ true
      → is_older_version b a (unit_at list.committed i) (unit_at list.committed j) ≡ true
  older i j before within first second =
      let u = unit_at list.committed i in
      let v = unit_at list.committed j in
      let mine = has i (omega (arith, before, within)) first in
      let yours = has j within second in
      elim (order_total b t a u v agrees (apart i j before within) (dirty_of (b.lines u a) mine) (dirty_of (b.lines v a) yours)) [
        | inl is ↦ and_from _ _ (and_from _ _ mine yours) is
        | inr is ↦ absurd (true≢false (sym is ∙ described.oldest_first i j before within))
      ]

  abbrev stored : List HeldLine
  stored = filter is_stored list.committed

  -- what a stored line's unit has
  only_stored : All (λ (v : HeldLine). is_stored v ≡ true → HasVersion b a v.unit) list.committed
  only_stored i d within = rw (get_or_default list.committed i d no_held_line within) (has i within)

  pairs_stored : AllPairs (λ (v w : HeldLine). is_stored v ≡ true → is_stored w ≡ true → IsOlder b a v.unit w.unit) list.committed
  pairs_stored i j d before within =
      rw (get_or_default list.committed i d no_held_line (omega (arith, before, within)), get_or_default list.committed j d no_held_line within) (older i j before within)

  unit_here : (k : ℕ) (d : UnitId) → k < length stored → get_or (map (λ (v : HeldLine). v.unit) stored) k d ≡ (get_or stored k no_held_line).unit
  unit_here k d within = get_or-map (λ (v : HeldLine). v.unit) stored k no_held_line d within

  size : length (version_units list.committed) ≡ length stored
  size = length-map stored (λ (v : HeldLine). v.unit)

  pass : (k : ℕ) → k < length stored → is_stored (get_or stored k no_held_line) ≡ true
  pass k within = filter_passes is_stored list.committed k no_held_line within

  only : All (HasVersion b a) (version_units list.committed)
  only k d within =
      let here : k < length stored = omega (arith, within, size) in
      rw (unit_here k d here) (All-filter is_stored (λ (v : HeldLine). is_stored v ≡ true → HasVersion b a v.unit) list.committed only_stored k no_held_line here (pass k here))

  pairs : AllPairs (IsOlder b a) (version_units list.committed)
  pairs i j d before within =
      let there : j < length stored = omega (arith, within, size) in
      let here : i < length stored = omega (arith, before, there) in
      rw (unit_here i d here, unit_here j d there)
      (AllPairs-filter (λ (v w : HeldLine). is_stored v ≡ true → is_stored w ≡ true → IsOlder b a v.unit w.unit) is_stored list.committed pairs_stored i j no_held_line before there
      (pass i here) (pass j there))

  each : (unit : ℕ) → is_committed_dirty_line (b.lines unit a) ≡ true → list_any (λ (x : UnitId). x.0 == unit) (version_units list.committed) ≡ true
  each unit dirty =
      let found = described.each unit (cached unit dirty) (committed_of (b.lines unit a) dirty) in
      let set : is_stored (held_at list.committed found.0) ≡ true = dirty_here found.0 found.1 ∙ ap (λ w. is_committed_dirty_line (b.lines w a)) found.2 ∙ dirty in
      named unit list.committed found.0 found.1 set found.2

  pub its : AreItsVersions b a (version_units list.committed)
  its = record { only = only; each = each; oldest_first = pairs }

pub its_versions : (b : BusValue) → IsSoundBus b → (word : ℕ) (list : ListValue) (cs : List CacheValue) → cs ≡ b.caches → AreCommitted (lines_in cs word) (length cs) list.committed
    → map (option_map seen_held_line) list.active ≡ active_lines (lines_in cs word) b.units → AreItsVersions (state_in b) word (version_units list.committed)
its_versions b sound word list cs same committed active =
    its (state_in b) sound.linked.table word list sound.linked.agrees (listed_describes b sound cs same word list committed active) committed.once
