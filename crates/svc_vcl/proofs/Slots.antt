-- The slots of a version list are the lines of the tasks.
use Rattle.std.proofs.Common.{◌≡◌, ◌∙◌, refl, sym, ap, subst, ℕ, zero, suc, ◌+◌, ◌-◌, ◌<◌, ◌≤◌, Bool, true, false, cond, not, ◌&&◌, ltb, Option, Some, None, length, get_or, arith, true≢false, is_some}
use Rattle.svc_line.specs.Bits.{Bits, bits_of, is_active, is_committed, is_dirty, is_exposed, is_reusable}
use Rattle.svc_bus_laws.specs.Search.{greatest}
use Rattle.svc_bus_laws.specs.Walk.{walk}
use Rattle.svc_bus_laws.specs.LineTable.{LineTable}
use Rattle.svc_bus_laws.specs.Versioned.{victim}
use Rattle.svc_bus_laws.specs.BusLine.{BusLine, is_active_line, is_reusable_line, is_committed_dirty_line, is_exposed_line, version_of_line}
use Rattle.svc_bus_laws.specs.BusState.{BusState}
use Rattle.svc_bus_laws.specs.BusView.{bus_line_at, bus_map}
use Rattle.svc_bus_laws.specs.BusSteps.{is_overtaken_line}
use Rattle.svc_bus_laws.proofs.Searches.{greatest_same, any_same}
use Rattle.svc_bus_laws.proofs.LineWalks.{walk_seen}
use Rattle.svc_vol.specs.declared.held_line.HeldLine.{HeldLine}
use Rattle.svc_vol.specs.Value.{ListValue}
use Rattle.svc_vcl.specs.Listed.{slot_at, is_exposure, is_version, nearest_in, victim_in, is_overtaken_in}
use Rattle.svc_vcl.specs.Described.{IsSlotOf, IsRequest, line_with}

-- ---- one line's bits

-- the bits of a line that is active, and of one that is committed
pub record AreActive (bits : Bits) : Type 0 where
  pub valid : bits.valid ≡ true
  pub commit : bits.commit ≡ false

pub are_active : (bits : Bits) → is_active bits ≡ true → AreActive bits
are_active bits active = record { valid = (go bits.valid bits.commit active).0; commit = (go bits.valid bits.commit active).1 }
  where
    go : (v c : Bool) → (v && not c) ≡ true → (v ≡ true) × (c ≡ false)
    go true true e = absurd (true≢false (sym e))
    go true false e = (refl, refl)
    go false c e = absurd (true≢false (sym e))

pub record AreSettled (bits : Bits) : Type 0 where
  pub valid : bits.valid ≡ true
  pub commit : bits.commit ≡ true

pub are_settled : (bits : Bits) → is_committed bits ≡ true → AreSettled bits
are_settled bits committed = record { valid = (go bits.valid bits.commit committed).0; commit = (go bits.valid bits.commit committed).1 }
  where
    go : (v c : Bool) → (v && c) ≡ true → (v ≡ true) × (c ≡ true)
    go true true e = (refl, refl)
    go true false e = absurd (true≢false (sym e))
    go false c e = absurd (true≢false (sym e))

version_bits : (bits : Bits) (value : ℕ) → is_active bits ≡ true → is_dirty bits ≡ is_some (version_of_line (Some (line_with value bits)))
version_bits bits value active = let are = are_active bits active in rw (are.valid, are.commit) (go bits.store)
  where
    go : (s : Bool) → s ≡ is_some (cond s (Some value) None)
    go true = refl
    go false = refl

exposed_bits : (bits : Bits) (value : ℕ) → is_active bits ≡ true → is_exposed bits ≡ is_exposed_line (Some (line_with value bits))
exposed_bits bits value active = let are = are_active bits active in rw (are.valid, are.commit) refl

pub dirty_bits : (bits : Bits) (value : ℕ) → is_committed bits ≡ true → is_dirty bits ≡ is_committed_dirty_line (Some (line_with value bits))
dirty_bits bits value committed = let are = are_settled bits committed in rw (are.valid, are.commit) refl

pub reusable_bits : (bits : Bits) (value : ℕ) → is_committed bits ≡ true → is_reusable bits ≡ is_reusable_line (Some (line_with value bits))
reusable_bits bits value committed = let are = are_settled bits committed in rw (are.valid, are.commit) (go bits.store bits.stale)
  where
    go : (s t : Bool) → ((true && not s) && not t) ≡ (not s && not t)
    go s t = refl

pub active_bits : (bits : Bits) (value : ℕ) → is_active bits ≡ true → is_active_line (Some (line_with value bits)) ≡ true
active_bits bits value active = let are = are_active bits active in rw are.commit refl

-- ---- one slot

no_version_here : (line : Option BusLine) → is_active_line line ≡ false → false ≡ is_some (version_of_line line)
no_version_here None e = refl
no_version_here (Some l) e = rw e refl

not_exposed_here : (line : Option BusLine) → is_active_line line ≡ false → false ≡ is_exposed_line line
not_exposed_here None e = refl
not_exposed_here (Some l) e = rw e refl

pub version_is : (b : BusState) (a unit : ℕ) (slot : Option HeldLine) → IsSlotOf b a unit slot → is_version slot ≡ is_some (version_of_line (b.lines unit a))
version_is b a unit None is = no_version_here (b.lines unit a) is
version_is b a unit (Some version) is = version_bits (bits_of version.line.bits) version.line.value is.active ∙ ap (λ line. is_some (version_of_line line)) (sym is.held)

pub exposed_is : (b : BusState) (a unit : ℕ) (slot : Option HeldLine) → IsSlotOf b a unit slot → is_exposure slot ≡ is_exposed_line (b.lines unit a)
exposed_is b a unit None is = not_exposed_here (b.lines unit a) is
exposed_is b a unit (Some version) is = exposed_bits (bits_of version.line.bits) version.line.value is.active ∙ ap is_exposed_line (sym is.held)

-- ---- the walk of two tests that are the same on its way

walk_same : (e f s r : ℕ → Bool) (v n : ℕ) → ((k : ℕ) → k < v + n → (e k ≡ f k) × (s k ≡ r k)) → walk e s v n ≡ walk f r v n
walk_same e f s r v zero same = refl
walk_same e f s r v (suc n) same =
    let here = same v (omega arith) in
    let next = walk_same e f s r (suc v) n (λ k below. same k (omega (arith, below))) in
    rw (here.0, here.1, next) refl

-- ---- the list of a request

module _ (b : BusState) (t : LineTable) (a : ℕ) (list : ListValue) (unit place : ℕ) (request : IsRequest b t a list unit place) where
  pub version_here : (q : ℕ) → q < length b.units → is_version (slot_at list.active q) ≡ is_some (version_of_line (bus_line_at b q a))
  version_here q below = version_is b a (get_or b.units q 0) (slot_at list.active q) (request.described.active q below)

  exposed_here : (q : ℕ) → q < length b.units → is_exposure (slot_at list.active q) ≡ is_exposed_line (bus_line_at b q a)
  exposed_here q below = exposed_is b a (get_or b.units q 0) (slot_at list.active q) (request.described.active q below)

  pub nearest_is : nearest_in list.active place ≡ greatest place (λ q. is_some (version_of_line (bus_line_at b q a)))
  nearest_is = greatest_same place _ _ (λ q below. version_here q (let within = request.within in omega (arith, below)))

  pub overtaken_is : (n : ℕ) → n ≤ length b.units → is_overtaken_in list.active n place ≡ is_overtaken_line b n place a
  overtaken_is n few = any_same n _ _ (λ q below. ap (λ x. ltb place q && x) (version_here q (omega (arith, below, few))))

  pub victim_is : victim_in list.active place ≡ victim (bus_map b) place a
  victim_is =
      ap (λ n. walk (λ q. is_exposure (slot_at list.active q)) (λ q. is_version (slot_at list.active q)) (suc place) (n - suc place)) request.described.places
      ∙ walk_same _ _ _ _ (suc place) (length b.units - suc place) (λ k below. let low : k < length b.units = (let within = request.within in omega (arith, below)) in (exposed_here k low, version_here k low))
      ∙ walk_seen b place a

  -- the unit's own slot
  pub own_slot : IsSlotOf b a unit (slot_at list.active place)
  own_slot = subst (λ u. IsSlotOf b a u (slot_at list.active place)) request.at_work (request.described.active place request.within)
