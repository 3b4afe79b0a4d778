-- What a store does to the other lines of its word: it overtakes some, and links the version before it to the writer.
use Rattle.std.specs.Prelude.{◌≡◌, ℕ, ◌<◌, ◌≤◌, Bool, true, cond, Option, Some, None, List, length}
use Rattle.svc_line.specs.Bits.{bits_of, after_overtaking}
use Rattle.svc_line.specs.Line.{SeenLine, seen_line}
use Rattle.svc_cache.specs.Places.{CacheValue}
use Rattle.svc_links_laws.specs.LinkSteps.{is_unit}
use Rattle.svc_vol.specs.declared.held_line.HeldLine.{HeldLine}
use Rattle.svc_vol.specs.Value.{held_at}
use Rattle.svc_vcl.specs.Planned.{AreApart}
use Rattle.svc_retire.specs.Caches.{held_line}

-- the line links to the writer if its unit is the one before
abbrev pub link_after : (previous : Option ℕ) → (writer unit : ℕ) → Option ℕ → Option ℕ
link_after previous writer unit link = cond (is_unit previous unit) (Some writer) link

-- T is set on the line, and it links to the writer if its unit is the one before
abbrev pub overtaken_line : (previous : Option ℕ) → (writer unit : ℕ) → Option SeenLine → Option SeenLine
overtaken_line previous writer unit None = None
overtaken_line previous writer unit (Some l) =
    Some (record { value = l.value; bits = after_overtaking l.bits; next = link_after previous writer unit l.next })

-- the same, if the flag says so
abbrev pub overtaken_where : (previous : Option ℕ) → (writer unit : ℕ) → Bool → Option SeenLine → Option SeenLine
overtaken_where previous writer unit flag line = cond flag (overtaken_line previous writer unit line) line

-- no line lies past the bound
pub record EndBelow (caches : List CacheValue) (bound : ℕ) : Type 0 where
  pub ends : (u a : ℕ) → bound ≤ a → held_line caches u a ≡ None

-- this is its unit's line of the word
pub record IsHeld (caches : List CacheValue) (word : ℕ) (version : HeldLine) : Type 0 where
  pub within : version.unit.0 < length caches
  pub held : held_line caches version.unit.0 word ≡ Some (seen_line version.line)
  pub valid : (bits_of version.line.bits).valid ≡ true

-- so is each of these, and no two are in one cache
pub record AreHeld (caches : List CacheValue) (word : ℕ) (versions : List HeldLine) : Type 0 where
  pub each : (k : ℕ) → k < length versions → IsHeld caches word (held_at versions k)
  pub apart : AreApart versions
