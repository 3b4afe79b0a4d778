-- The unit of the newest committed version that a word's list has.
use Rattle.std.proofs.Common.{◌≡◌, ◌∙◌, sym, ap, ℕ, Option, Some, None, List, length, map, option_map, refl}
use Rattle.svc_cache.specs.Places.{CacheValue}
use Rattle.svc_bus_laws.specs.BusView.{bus_newest}
use Rattle.svc_vol.specs.declared.held_line.HeldLine.{HeldLine}
use Rattle.svc_vol.specs.Lines.{lines_in}
use Rattle.svc_vol.specs.Value.{AreCommitted, ListValue, active_lines, seen_held_line, held_at}
use Rattle.svc_vcl.specs.Listed.{newest_in, newest_version_in}
use Rattle.svc_vcl.specs.Described.{Describes}
use Rattle.svc_vcl.proofs.Newest.{newest_found, newest_lacks}
use Rattle.svc_bus.specs.Value.{BusValue, IsSoundBus, state_in}
use Rattle.svc_bus.proofs.Requests.{listed_describes}

pub newest_told : (b : BusValue) → IsSoundBus b → (word : ℕ) (list : ListValue) (cs : List CacheValue) → cs ≡ b.caches → AreCommitted (lines_in cs word) (length cs) list.committed → map (option_map seen_held_line) list.active ≡ active_lines (lines_in cs word) b.units
    → (o : Option HeldLine) → o ≡ newest_version_in list.committed → option_map (λ v. v.unit.0) o ≡ bus_newest (state_in b) word
newest_told b sound word list cs same committed active o is =
    ap (option_map (λ v. v.unit.0)) is ∙ of (newest_in list.committed) refl
  where
    describes : Describes (state_in b) word list
    describes = listed_describes b sound cs same word list committed active

    of : (i : Option ℕ) → newest_in list.committed ≡ i → option_map (λ v. v.unit.0) (option_map (held_at list.committed) i) ≡ bus_newest (state_in b) word
    of None e = sym (newest_lacks (state_in b) sound.linked.table word list sound.linked.agrees describes e)
    of (Some i) e = sym (newest_found (state_in b) sound.linked.table word list sound.linked.agrees describes i e).1
