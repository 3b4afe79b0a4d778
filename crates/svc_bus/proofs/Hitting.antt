-- A read that the unit's own active line serves.
use Rattle.std.proofs.Common.{◌≡◌, ◌∙◌, refl, sym, ap, subst, ℕ, ◌<◌, Bool, true, false, not, ◌&&◌, true≢false, Option, Some, None, List, length, get_or, option_map}
use Rattle.std.specs.Option.{ForSome}
use Rattle.std.proofs.lemmas.Bool.{and_parts}
use Rattle.svc_base.specs.declared.served.Served.{Served}
use Rattle.svc_base.specs.declared.served.Served.TheVariants.{Hit as by_hit, Reuse, Version, Spill, Committed, Memory}
use Rattle.svc_line.specs.Bits.{Bits, bits_of, is_active}
use Rattle.svc_line.specs.Line.{SeenLine, seen_line}
use Rattle.svc_line.specs.declared.line.Line.{Line}
use Rattle.svc_cache.specs.Places.{CacheValue, line_of}
use Rattle.svc_vol.specs.Lines.{lines_in}
use Rattle.svc_vcl.specs.Described.{bus_line_of, line_with}
use Rattle.svc_retire.specs.Caches.{cache_at}
use Rattle.svc_retire.proofs.Dropping.{lines_are}
use Rattle.svc_vol.proofs.Validity.{HasV, line_valid}
use Rattle.svc_bus_laws.specs.Versioned.{view}
use Rattle.svc_bus_laws.specs.LineTable.{LineTable, unit_at, versioned_map}
use Rattle.svc_bus_laws.specs.Supplier.{Hit, supplier}
use Rattle.svc_bus_laws.specs.Steps.{read}
use Rattle.svc_bus_laws.specs.BusLine.{BusLine, is_active_line, is_reusable_line, value_of_line}
use Rattle.svc_bus_laws.specs.BusState.{BusState, Agrees, SameBus}
use Rattle.svc_bus_laws.specs.BusView.{bus_line_at, bus_supplied, bus_supplier, bus_view}
use Rattle.svc_bus_laws.proofs.Searches.{some_is}
use Rattle.svc_bus_laws.proofs.SeenLaws.{supplier_seen, view_seen}
use Rattle.svc_bus_laws.proofs.SoundSeen.{same_agrees, supplied_seen}
use Rattle.svc_bus_laws.proofs.AgreeReads.{read_agrees}
use Rattle.svc_bus.specs.Lines.{line_in}
use Rattle.svc_bus.specs.Value.{BusValue, IsSoundBus, state_in}
use Rattle.svc_bus.proofs.Shown.{some_shown}
use Rattle.svc_bus.specs.Carried.{is_hit}
use Rattle.svc_bus.proofs.Reading.{IsPlanned, TellsKind, read_hit, told}

-- a valid line that was found in a unit's cache, as callers of the bus see it
pub found_is : (caches : List CacheValue) (word unit : ℕ) (line : Line) → lines_in caches word unit ≡ Some (seen_line line) → (bits_of line.bits).valid ≡ true
    → line_in caches unit word ≡ Some (line_with line.value (bits_of line.bits))
found_is caches word unit line found valid = ap bus_line_of (sym (lines_are caches word unit) ∙ found) ∙ some_shown (seen_line line) valid

module _ (b : BusState) (t : LineTable) (place word unit : ℕ) (agrees : Agrees b t) (within : place < length t.units) (at : unit_at t place ≡ unit)
    (line : Line) (held : b.lines unit word ≡ Some (line_with line.value (bits_of line.bits))) (active : is_active (bits_of line.bits) ≡ true) (known : word < t.words) where
  own : bus_line_at b place word ≡ Some (line_with line.value (bits_of line.bits))
  own = ap (λ u. b.lines u word) (ap (λ (us : List ℕ). get_or us place 0) agrees.units ∙ at) ∙ held

  is_own : is_active_line (bus_line_at b place word) ≡ true
  is_own = ap is_active_line own ∙ (and_parts (bits_of line.bits).valid (not (bits_of line.bits).commit) active).1

  hits : Hit ≡ bus_supplier b place word
  hits = rw is_own refl

  pub hit_served : Hit ≡ supplier t place word
  hit_served = hits ∙ supplier_seen b t place word agrees

  pub hit_value : line.value ≡ view (versioned_map t) place word
  hit_value =
      some_is line.value (bus_view b place word)
      (sym (ap (λ (l : Option BusLine). Some (value_of_line l)) own) ∙ ap (bus_supplied b place word) hits ∙ supplied_seen b t place word agrees (subst (λ (us : List ℕ). place < length us) (sym agrees.units) within))
      ∙ view_seen b t place word agrees

  -- it changes nothing that callers see but the count of look-ups
  pub hit_kept : (new : BusState) → SameBus b new → Agrees new (read t place word)
  hit_kept new same = same_agrees b new (read t place word) same (subst (λ (s : BusState). Agrees s (read t place word)) (read_hit b place word is_own) (read_agrees b t place word agrees within known))

-- a read of a unit without an active line of the word is no hit
module _ (b : BusValue) (sound : IsSoundBus b) (p a : ℕ) (served : Served) (value : ℕ) (bits : Bits) (planned : IsPlanned b p a served value bits) (line : Option Line)
    (found : lines_in b.caches a (get_or b.units p 0) ≡ option_map seen_line line) (idle : ForSome line (λ own. is_active (bits_of own.bits) ≡ false)) where
  not_active : (valid commit : Bool) → valid ≡ true → (valid && not commit) ≡ false → not commit ≡ false
  not_active true commit h e = e
  not_active false commit h e = absurd (true≢false (sym h))

  is_idle : (held : Option SeenLine) → HasV held → (own : Option Line) → held ≡ option_map seen_line own → ForSome own (λ (l : Line). is_active (bits_of l.bits) ≡ false) → is_active_line (bus_line_of held) ≡ false
  is_idle held valid None is none = ap (λ (l : Option SeenLine). is_active_line (bus_line_of l)) is
  is_idle held valid (Some line) is idle = ap (λ (l : Option SeenLine). is_active_line (bus_line_of l)) is ∙ ap is_active_line (some_shown (seen_line line) (subst HasV is valid)) ∙ not_active (bits_of line.bits).valid (bits_of line.bits).commit (subst HasV is valid) (idle line refl)

  misses : (s : Served) (active reusable : Bool) → TellsKind s active reusable → active ≡ false → is_hit s ≡ false
  misses by_hit active reusable tells e = absurd (true≢false (sym tells ∙ e))
  misses Reuse active reusable tells e = refl
  misses (Version u) active reusable tells e = refl
  misses Spill active reusable tells e = refl
  misses (Committed u) active reusable tells e = refl
  misses Memory active reusable tells e = refl

  pub never_hit : is_hit served ≡ false
  never_hit = misses served (is_active_line (bus_line_at (state_in b) p a)) (is_reusable_line (bus_line_at (state_in b) p a)) (told b sound p a served value bits planned)
      (is_idle (line_of (cache_at b.caches (get_or b.units p 0)) a) (line_valid (cache_at b.caches (get_or b.units p 0)) a) line (sym (lines_are b.caches a (get_or b.units p 0)) ∙ found) idle)
